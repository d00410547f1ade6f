use Rattle.std.proofs.Common.{[], ◌∷◌, ◌++◌}
use Rattle.std.proofs.Math.Logic.{∥∥₁_map}
use Rattle.process_build.specs.Progress.{Ended}
use Rattle.process_build.proofs.observe.progress.LineState.end.Goals as goal

pub invariant_of-self : goal.invariant_of-self
invariant_of-self g c = record {
  heard = ∥∥₁_map c.args.self.now.heard
      (λ h. (
        h.0 ++ Ended c.args.is_good c.args.unsettled ∷ [],
        c.end.ensures h.0 h.1,
        c.tell-last.ensures (h.0 ++ Ended c.args.is_good c.args.unsettled ∷ []) (c.end.ensures h.0 h.1),
      ));
}
