-- The first paths had this owner, and are entered.
use Rattle.std.proofs.Common.{◌≡◌, ℕ, List, take}
use Rattle.std.specs.Prelude.{Contains}
use Rattle.drv_graph.specs.private.Owners.{AreEntered, owned}
use Rattle.drv_graph.proofs.walks.output_owners.enter.Given as goal

abbrev pub invariant-loop-path : goal.invariant-loop-path
invariant-loop-path l = record {
  were : (path : List ℕ) → Contains (take l.path-index l.paths) path
      → owned l.fn.owners path ≡ l.owner;
  entered : AreEntered (owned l.fn.owners) (owned l.owners) (take l.path-index l.paths) l.number;
}
