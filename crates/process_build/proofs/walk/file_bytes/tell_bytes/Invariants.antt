use Rattle.std.proofs.Common.{◌≡◌, ◌≤◌, ◌-◌, length}
use Rattle.process_build.specs.private.Walking.{AreTold}
use Rattle.process_build.proofs.walk.file_bytes.tell_bytes.Given as goal

-- so many bytes were told that the others are left
abbrev pub invariant-pieces : goal.invariant-pieces
invariant-pieces g l = record {
  room : length l.buffer ≡ length l.fn.buffer;
  within : l.left ≤ l.size;
  told : AreTold g.H.Hear.heard l.fn.hearer l.hearer (l.size - l.left)
      (g.F.Read.remaining l.fn.file) (g.F.Read.remaining l.file);
}

abbrev pub decreases-pieces : goal.decreases-pieces
decreases-pieces g l = l.left
