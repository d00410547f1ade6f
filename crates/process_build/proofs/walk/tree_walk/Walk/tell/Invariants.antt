use Rattle.std.proofs.Common.{◌≡◌}
use Rattle.process_build.specs.Walks.{HearsUnder}
use Rattle.process_build.specs.private.Walking.{IsAtOrDone}
use Rattle.process_build.proofs.walk.tree_walk.Walk.tell.Given as goal

abbrev pub invariant-steps : goal.invariant-steps
invariant-steps g l = record {
  same : l.self.profile ≡ l.fn.self.profile;
  limit : l.self.limit.now ≡ l.fn.self.limit.now;
  position : IsAtOrDone (HearsUnder l.fn.self.profile g.H.Hear.heard) l.fn.hearer l.hearer
      l.position
      l.around.items;
}
