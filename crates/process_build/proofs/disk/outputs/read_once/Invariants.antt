use Rattle.std.proofs.Common.{◌≡◌, length}
use Rattle.std.specs.Io.KnownBytes.{Keeps}
use Rattle.process_build.proofs.disk.outputs.read_once.Given as goal

-- there is room for as many bytes as before, and nothing was read
abbrev pub invariant-loop : goal.invariant-loop
invariant-loop g l = record {
  same : length l.buffer ≡ length l.fn.buffer;
  kept : Keeps (g.F.Read.remaining l.fn.file) (g.F.Read.remaining l.file);
}
