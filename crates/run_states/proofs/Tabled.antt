-- Where a derivation stands by its last event, by what the table gives.
use Rattle.std.proofs.Common.{◌≡◌, ℕ, true, false, Bool, Option, Some, None, refl, if◌then◌else◌}
use Rattle.run_states.specs.StateLists.{phase_in}
use Rattle.run_states.specs.States.{Idle, by_first, by_hindrance, by_validity}
use Rattle.run_states.specs.declared.state.State.TheVariants.{Blocked}
use Rattle.run_states.specs.declared.precondition.Precondition.{Precondition}
use Rattle.run_states.specs.declared.precondition.Precondition.TheVariants.{AllValid, Free, Hindered}

first_is_idle : (first : Option ℕ) (all : Bool) → phase_in (by_first first all) ≡ Idle
first_is_idle (Some input) all = refl
first_is_idle None true = refl
first_is_idle None false = refl

pub own_is_idle : (precondition : Precondition) (first : Option ℕ) (all : Bool)
    → phase_in (by_hindrance precondition (by_first first all)) ≡ Idle
own_is_idle AllValid first all = first_is_idle _ _
own_is_idle (Hindered cause) first all = refl
own_is_idle Free first all = first_is_idle _ _

pub opening_is_idle : (precondition : Precondition) (held : Bool) (first : Option ℕ) (all : Bool)
    → phase_in (by_validity precondition
    (if held then Blocked else by_hindrance precondition (by_first first all))) ≡ Idle
opening_is_idle AllValid held first all = refl
opening_is_idle (Hindered cause) true first all = refl
opening_is_idle (Hindered cause) false first all = refl
opening_is_idle Free true first all = refl
opening_is_idle Free false first all = first_is_idle _ _
