use Rattle.std.proofs.Common.{◌↔◌, ℕ, IsTrue, MatchOption, Option, Some, None, rules}
use Rattle.std.specs.Option.{is_some}
use Rattle.sched_core.proofs.KeptStates.{can_begin, is_next, match_weaker}
use Rattle.sched_core.proofs.book.Book.can_begin.Goals as goal

-- what is found is there, and where nothing is found nothing is there
found_is_there : {P : ℕ → Type 0} (found : Option ℕ) → MatchOption found ((d : ℕ) → P d → ⊥) P
    → IsTrue (is_some found) ↔ ((d : ℕ) × P d)
found_is_there None none = search rules
found_is_there (Some d) can = search rules

pub returns : goal.returns
returns g c =
    let kept = c.self.invariant.kept in
    rw (← c.self.view_is, c.is_some.ensures)
    (found_is_there _
    (match_weaker c.next.result c.next.ensures
    (λ none d can. none d (is_next _ _ _ _ _ kept d can))
    (λ d next. can_begin _ _ _ _ _ kept d next)))
