-- How the state of a derivation changes with what is known of its inputs and of its nearest earlier
-- twin.
use Rattle.std.proofs.Common.{◌≡◌, ℕ, Bool, true, false, List, [], ◌∷◌, Option, Some, None, refl, if◌then◌else◌, rules}
use Rattle.run_states.specs.StateLists.{phase_in}
use Rattle.run_states.specs.Nearest.{News, Open, Good, Bad}
use Rattle.run_states.specs.States.{by_first, by_hindrance, by_phase}
use Rattle.run_states.specs.NodeStates.{Turns, turns_freed, turns_refused, turns_stays, by_all, news_by}
use Rattle.run_states.specs.declared.state.Refusal.{Refusal}
use Rattle.run_states.specs.declared.state.Refusal.TheVariants.{InputNotRealised}
use Rattle.run_states.specs.declared.state.State.{State}
use Rattle.run_states.specs.declared.state.State.TheVariants.{Blocked, Building, Done, Failed, Ready, Refused, Reused}
use Rattle.run_states.specs.declared.precondition.Precondition.{Precondition}
use Rattle.run_states.specs.declared.precondition.Precondition.TheVariants.{AllValid, Free, Hindered}

-- what the inputs alone would make doesn't matter to one that has begun
begun_else : (state before after : State)
    → state ≡ by_phase (phase_in state) before → (state ≡ before → state ≡ after)
    → state ≡ by_phase (phase_in state) after
begun_else (Building lease) before after is same = refl
begun_else Done before after is same = refl
begun_else (Failed reason) before after is same = refl
begun_else Reused before after is same = same is
begun_else (Refused cause) before after is same = same is
begun_else Ready before after is same = same is
begun_else Blocked before after is same = same is

-- good news of an input change nothing of one that isn't Blocked
pub not_freed : (state : State) (precondition : Precondition) (twins : List News) (first : Option ℕ)
    (all : Bool) → (state ≡ Blocked → ⊥)
    → state ≡ by_phase (phase_in state) (by_all precondition twins (by_first first false))
    → state ≡ by_phase (phase_in state) (by_all precondition twins (by_first first all))
not_freed state precondition twins first all apart is =
    begun_else _ _
    _ is (by precondition twins first)
  where
    by : (precondition : Precondition) (twins : List News) (first : Option ℕ)
        → state ≡ by_all precondition twins (by_first first false)
        → state ≡ by_all precondition twins (by_first first all)
    by AllValid twins first now = now
    by (Hindered cause) [] first now = now
    by (Hindered cause) (Good ∷ more) first now = now
    by (Hindered cause) (Bad ∷ more) first now = now
    by (Hindered cause) (Open ∷ more) first now = now
    by Free (Good ∷ more) first now = now
    by Free (Open ∷ more) first now = now
    by Free [] (Some input) now = now
    by Free [] None now = absurd (apart now)
    by Free (Bad ∷ more) (Some input) now = now
    by Free (Bad ∷ more) None now = absurd (apart now)

-- they change nothing of one that stands free and is neither
pub not_refused : (state : State) (precondition : Precondition) (twins : List News)
    (first : Option ℕ)
    (input : ℕ) → precondition ≡ Free → (state ≡ Blocked → ⊥)
    → ((cause : Refusal) → state ≡ Refused cause → ⊥)
    → state ≡ by_phase (phase_in state) (by_all precondition twins (by_first first false))
    → state ≡ by_phase (phase_in state) (by_all precondition twins (by_first (Some input) false))
not_refused state AllValid twins first input free apart known is = absurd cc
not_refused state (Hindered cause) twins first input free apart known is = absurd cc
not_refused state Free twins first input free apart known is =
    begun_else _ _
    _ is (by twins first)
  where
    by : (twins : List News) (first : Option ℕ)
        → state ≡ by_all Free twins (by_first first false)
        → state ≡ by_all Free twins (by_first (Some input) false)
    by (Good ∷ more) first now = now
    by (Open ∷ more) first now = now
    by [] (Some other) now = search rules
    by [] None now = absurd (apart now)
    by (Bad ∷ more) (Some other) now = search rules
    by (Bad ∷ more) None now = absurd (apart now)

-- nor of one that doesn't stand free
pub hindered_stays : (state : State) (precondition : Precondition) (twins : List News)
    (before after : State) → (precondition ≡ Free → ⊥)
    → state ≡ by_phase (phase_in state) (by_all precondition twins before)
    → state ≡ by_phase (phase_in state) (by_all precondition twins after)
hindered_stays state AllValid twins before after apart is = is
hindered_stays state (Hindered cause) twins before after apart is = is
hindered_stays state Free twins before after apart is = absurd (apart refl)

-- what its twin's end makes of one that is Blocked: it is reused, or decided by its own cause and
-- its inputs
pub released_now : (precondition : Precondition) (more : List News) (before : State) (good : Bool)
    → Blocked ≡ by_all precondition (Open ∷ more) before
    → ◌≡◌ {A = State} (if good then Reused else by_hindrance precondition before)
    (by_all precondition (news_by good ∷ more) before)
released_now AllValid more before good is = absurd cc
released_now (Hindered cause) more before true is = refl
released_now (Hindered cause) more before false is = refl
released_now Free more before true is = refl
released_now Free more before false is = refl

-- and of one that isn't
pub not_released : (state : State) (precondition : Precondition) (more : List News) (before : State)
    (good : Bool) → (state ≡ Blocked → ⊥)
    → state ≡ by_phase (phase_in state) (by_all precondition (Open ∷ more) before)
    → state ≡ by_phase (phase_in state) (by_all precondition (news_by good ∷ more) before)
not_released state precondition more before good apart is =
    begun_else _ _
    _ is (by precondition)
  where
    by : (precondition : Precondition) → state ≡ by_all precondition (Open ∷ more) before
        → state ≡ by_all precondition (news_by good ∷ more) before
    by AllValid now = now
    by (Hindered cause) now = absurd (apart now)
    by Free now = absurd (apart now)

first_turns : (first : Option ℕ) (all : Bool) → Turns Blocked (by_first first all)
first_turns (Some input) all = turns_refused (InputNotRealised input)
first_turns None true = turns_freed
first_turns None false = turns_stays Blocked

-- how its own cause and its inputs turn one that was Blocked
pub own_turns : (precondition : Precondition) (first : Option ℕ) (all : Bool)
    → Turns Blocked (by_hindrance precondition (by_first first all))
own_turns AllValid first all = first_turns _ _
own_turns (Hindered cause) first all = turns_refused cause
own_turns Free first all = first_turns _ _
