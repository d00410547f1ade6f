use Rattle.std.proofs.Math.Logic.{∥∥₁_map}
use Rattle.process_build.proofs.observe.progress.LineState.tell_again.Goals as goal

pub invariant_of-self : goal.invariant_of-self
invariant_of-self g c = record {
  heard = ∥∥₁_map c.args.self.now.heard (λ h. (h.0, h.1, c.tell-last.ensures h.0 h.1));
}
