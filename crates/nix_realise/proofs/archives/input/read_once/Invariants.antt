use Rattle.std.proofs.Common.{◌≡◌, length}
use Rattle.std.specs.Io.KnownBytes.{Keeps}
use Rattle.nix_realise.proofs.archives.input.read_once.Given as goal

-- there is room for as many bytes as before, and nothing was read
abbrev pub invariant-loop : goal.invariant-loop
invariant-loop g l = record {
  same : length l.buffer ≡ length l.fn.buffer;
  kept : Keeps (g.I.Read.remaining l.fn.input) (g.I.Read.remaining l.input);
}
