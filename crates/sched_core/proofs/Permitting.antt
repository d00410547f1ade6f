-- The permitted paths: a closure and outputs, put together.
use Rattle.std.proofs.Common.{◌≡◌, inl, inr, ℕ, Bool, true, false, List, [], ◌∷◌, refl, sym, subst, ⊎_elim, rules}
use Rattle.std.specs.Prelude.{All, Contains, Err, if◌then◌else◌}
use Rattle.std.proofs.Math.Dec.{eqb}
use Rattle.std.proofs.Math.Facts.{eqb_yes}
use Rattle.std.proofs.lemmas.List.Elements.{All-contains, Contains-append_right}
use Rattle.valid_table.specs.private.Closing.{HaveSame}
use Rattle.valid_table.specs.Closure.{IsClosing, IsClosure}
use Rattle.valid_table.specs.Entries.{registered}
use Rattle.valid_table.specs.Unions.{IsUnion}
use Rattle.valid_table.specs.Valid.{IsNotValid, IsValid}
use Rattle.valid_table.specs.declared.entry.Registration.{Registration}
use Rattle.valid_table.specs.declared.fault.TableFault.{TableFault}
use Rattle.valid_table.specs.declared.fault.TableFault.TheVariants.{AlreadyValid, BadLine, NoMemory, NotClosed, NotValid, TooLong, Twice, Unclosed, WrongVersion}
use Rattle.sched_core.specs.Books.{IsBooksLease}
use Rattle.run_states.specs.Legal.{ArePermitted, IsLegal}
use Rattle.run_states.specs.Runs.{History, Run}
use Rattle.run_states.specs.States.{Phase, Idle, Begun, Ended, Broken, later, phase_by, phase_of}
use Rattle.build_outcome.specs.declared.job.Job.{Job}
use Rattle.run_states.specs.declared.state.Event.{Event}
use Rattle.run_states.specs.declared.state.Event.TheVariants.{Begin, Done as Finish, Fail}
use Rattle.run_states.proofs.Seeds.{seeds_are_valid}
use Rattle.nix_names.proofs.Lists.{Contains-first, Contains-later}
use Rattle.nix_names.specs.Firsts.{IsFirst}

-- ---- the closure of valid paths

pub all_are_valid : (registrations : List Registration) (roots : List (List ℕ)) (path : List ℕ)
    → All (IsValid registrations) roots
    → IsFirst (IsValid registrations) (IsNotValid registrations) roots path → ⊥
all_are_valid registrations roots path valid first =
    let there : Contains roots path = subst (λ (paths : List (List ℕ)). Contains paths path)
    (sym first.parts)
    (Contains-append_right first.before (path ∷ first.after) _
    (Contains-first _ first.after)) in
    first.is (All-contains (IsValid registrations) _ _ valid there)

-- such a closure is refused for want of memory alone
pub only_memory : (registrations : List Registration) (roots : List (List ℕ)) (fault : TableFault)
    → All (IsValid registrations) roots → IsClosing registrations roots (Err fault)
    → fault ≡ NoMemory
only_memory registrations roots NoMemory valid closing = refl
only_memory registrations roots (NotValid path) valid first = search (rules, all_are_valid)
only_memory registrations roots (BadLine line) valid none = absurd none
only_memory registrations roots (NotClosed line) valid none = absurd none
only_memory registrations roots (Twice line) valid none = absurd none
only_memory registrations roots WrongVersion valid none = absurd none
only_memory registrations roots TooLong valid none = absurd none
only_memory registrations roots (Unclosed reference) valid none = absurd none
only_memory registrations roots (AlreadyValid path) valid none = absurd none

-- ---- both together

-- a union with the same paths in another list
pub union_of_same : (reached own outputs all : List (List ℕ)) → HaveSame own outputs
    → IsUnion reached own all → IsUnion reached outputs all
union_of_same reached own outputs all same union = record {
  rising = union.rising;
  each = λ path. (
    λ has. ⊎_elim inl (λ output. inr ((same path).0 output)) ((union.each path).0 has),
    λ either. (union.each path).1 (⊎_elim inl (λ output. inr ((same path).1 output)) either),
  );
}

-- a union with what the seeds lead to
pub are_permitted : (registrations : List Registration) (seeds outputs reached all : List (List ℕ))
    → IsClosure registrations seeds reached → IsUnion reached outputs all
    → ArePermitted registrations seeds outputs all
are_permitted registrations seeds outputs reached all closure union = record {
  rising = union.rising;
  each = λ path. (
    λ has. ⊎_elim (λ there. inl ((closure.each path).0 there)) inr ((union.each path).0 has),
    λ may. (union.each path).1 (⊎_elim (λ there. inl ((closure.each path).1 there)) inr may),
  );
}

-- ---- a derivation that is building

begun_by : (event : Event) (d lease : ℕ) → phase_by event d ≡ Begun lease → event ≡ Begin d lease
begun_by (Begin e n) d lease is = by (eqb e d) refl is
  where
    by : (same : Bool) → eqb e d ≡ same → (if same then Begun n else Idle) ≡ Begun lease → Begin e n
        ≡ Begin d lease
    by true same is = search (rules, eqb_yes)
    by false other is = absurd cc
begun_by (Finish e n) d lease is = by (eqb e d) is
  where
    by : (same : Bool) → (if same then Ended else Idle) ≡ Begun lease → Finish e n ≡ Begin d lease
    by true is = absurd cc
    by false is = absurd cc
begun_by (Fail e n reason) d lease is = by (eqb e d) is
  where
    by : (same : Bool) → (if same then Broken reason else Idle) ≡ Begun lease → Fail e n reason
        ≡ Begin d lease
    by true is = absurd cc
    by false is = absurd cc

-- it began
pub begun_event : (events : List Event) (d lease : ℕ) → phase_of events d ≡ Begun lease
    → Contains events (Begin d lease)
begun_event [] d lease is = absurd cc
begun_event (event ∷ events) d lease is = by (phase_of events d) (begun_event events d lease) is
  where
    by : (p : Phase) → (p ≡ Begun lease → Contains events (Begin d lease))
        → later (phase_by event d) p ≡ Begun lease → Contains (event ∷ events) (Begin d lease)
    by Idle rest is = search (rules, begun_by, Contains-first)
    by (Begun n) rest is = search (rules, Contains-later)
    by Ended rest is = absurd cc
    by (Broken reason) rest is = absurd cc

-- so what it is built from is valid
pub seeds_of_lease : (run : Run) (history : History) (job : Job) (number : ℕ) → IsLegal run history
    → IsBooksLease run history job number
    → (path : List ℕ) → Contains job.seeds.items path → IsValid (registered history.entries) path
seeds_of_lease run history job number legal lease path has =
    seeds_are_valid run history legal job.derivation number
    (begun_event _ _ _ lease.building) lease.is_job.node
    lease.is_job.is_node path
    (subst (λ (seeds : List (List ℕ)). Contains seeds path) lease.is_job.seeds has)
