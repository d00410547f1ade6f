use Rattle.std.proofs.Common.{refl}
use Rattle.valid_view.proofs.Showable.{showable_none}
use Rattle.valid_view.proofs.prefix.BarePrefix.first.Goals as goal

pub invariant_of-result : goal.invariant_of-result
invariant_of-result c = rw c.requires (refl, showable_none)
