-- An event leaves the phase of each other derivation as it was.
use Rattle.std.proofs.Common.{◌≡◌, ◌⊎◌, ℕ, Bool, true, false, List, [], ◌∷◌, ◌++◌, refl, if◌then◌else◌, rules}
use Rattle.std.proofs.Math.Dec.{eqb}
use Rattle.nix_names.proofs.Lists.{either_side}
use Rattle.run_states.specs.States.{Begun, Idle, Phase, phase_by, phase_of}
use Rattle.run_states.specs.declared.state.Event.{Event}
use Rattle.run_states.specs.declared.state.Event.TheVariants.{Begin, Done as Finish, Fail}
use Rattle.run_states.proofs.Seeds.{phase_push, same_number}

-- the derivation of an event
abbrev pub number_of : Event → ℕ
number_of (Begin d lease) = d
number_of (Finish d lease) = d
number_of (Fail d lease reason) = d

-- two numbers are the same, or not
pub same_or_other : (d e : ℕ) → (d ≡ e) ⊎ (d ≡ e → ⊥)
same_or_other d e = search (rules, either_side)

-- what an event gives to a derivation that isn't its own
idle_unless : (p : Phase) (e d : ℕ) → (e ≡ d → ⊥) → (if eqb e d then p else Idle) ≡ Idle
idle_unless p e d other = by (eqb e d) refl
  where
    by : (same : Bool) → eqb e d ≡ same → (if same then p else Idle) ≡ Idle
    by true is = absurd (other (same_number e d is))
    by false is = refl

pub phase_by_other : (x : Event) (d : ℕ) → (number_of x ≡ d → ⊥) → phase_by x d ≡ Idle
phase_by_other (Begin e n) d other = idle_unless _ e d other
phase_by_other (Finish e n) d other = idle_unless _ e d other
phase_by_other (Fail e n reason) d other = idle_unless _ e d other

-- so it changes no other phase
pub phase_other : (events : List Event) (x : Event) (d : ℕ) → (number_of x ≡ d → ⊥)
    → phase_of (events ++ x ∷ []) d ≡ phase_of events d
phase_other events x d other = search (rules, phase_push, phase_by_other)

-- one phase is no other
pub begun_not_idle : (p : Phase) (lease : ℕ) → p ≡ Begun lease → p ≡ Idle → ⊥
begun_not_idle p lease is idle = search rules
