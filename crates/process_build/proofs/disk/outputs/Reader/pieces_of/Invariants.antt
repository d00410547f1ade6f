use Rattle.std.proofs.Common.{◌≡◌, ◌≤◌, ◌+◌, All, length}
use Rattle.std.specs.Io.KnownBytes.{Consumes}
use Rattle.ref_scan.specs.Trees.{joined}
use Rattle.process_build.proofs.disk.outputs.Reader.pieces_of.Given as goal

-- the pieces so far are what was read
abbrev pub invariant-loop : goal.invariant-loop
invariant-loop g l = record {
  is_read : Consumes (g.F.Read.remaining l.fn.file) (g.F.Read.remaining l.file)
      (joined l.pieces.items);
  are_short : All (λ piece. length piece.items ≤ 65536) l.pieces.items;
  left : l.self.bytes + length (joined l.pieces.items) ≡ l.fn.self.bytes;
}
