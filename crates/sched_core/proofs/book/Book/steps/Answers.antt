use Rattle.std.proofs.Common.{◌≡◌, ◌∙◌, ◌+◌, ◌*◌, ◌%◌, ◌^◌, ap, arith, length}
use Rattle.std.proofs.Math.Nat.{add-mod-mod}
use Rattle.sched_core.specs.private.Booking.{history_of, run_over}
use Rattle.run_states.specs.Steps.{followed_in}
use Rattle.sched_core.proofs.KeptStates.{followed_kept}
use Rattle.sched_core.proofs.book.Book.steps.Goals as goal

pub returns : goal.returns
returns g c =
    let run = run_over c.self.inside.states c.self.inside.system in
    let history = history_of c.self.inside.opening c.self.inside.journal.entries
    c.self.inside.events.items in
    let followed_is : c.followed_edges-followed.result ≡ followed_in run history =
    c.followed_edges-followed.ensures ∙ followed_kept _ _ _ _ _ c.self.invariant.kept in
    let events_is : c.len-events.result ≡ length c.self.inside.events.items =
    c.len-events.ensures ∙ c.self.inside.events.ok.0 in
    let sum_is : c.len-events.result + c.followed_edges-followed.result * 2
    ≡ length c.self.inside.events.items + 2 * followed_in run history =
    omega (arith, followed_is, events_is) in
    rw (← c.self.view_is)
    (add-mod-mod c.len-events.result (c.followed_edges-followed.result * 2) (2 ^ 64)
    ∙ ap (λ n. n % 2 ^ 64) sum_is)
