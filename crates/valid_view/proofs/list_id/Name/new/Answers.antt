use Rattle.std.proofs.Common.{refl}
use Rattle.valid_view.proofs.Showable.{showable_none}
use Rattle.valid_view.proofs.list_id.Name.new.Goals as goal

pub open-seen-requires : goal.open-seen-requires
open-seen-requires c = (
  record { words = refl; showable = showable_none },
  λ _. tt,
  c.alone.ensures.1,
)
