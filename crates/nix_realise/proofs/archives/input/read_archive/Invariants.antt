use Rattle.std.proofs.Common.{◌≡◌, length}
use Rattle.nix_realise.specs.private.Inputs.{IsSoFar}
use Rattle.nix_realise.proofs.archives.input.read_archive.Given as goal

-- what was read so far
abbrev pub invariant-pieces : goal.invariant-pieces
invariant-pieces g l = record {
  far : IsSoFar g.H.Hear.heard l.fn.hearer l.hearer l.reader (g.I.Read.remaining l.fn.input)
      (g.I.Read.remaining l.input) l.offset;
  room : length l.buffer ≡ 65536;
}
