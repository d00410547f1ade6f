-- News of inputs, as they are counted.
use Rattle.std.proofs.Common.{◌≡◌, ◌∙◌, ℕ, ◌==◌, List, [], ◌∷◌, length, refl, ap, ltb-false, ne_eqb, nat_lt, arith, rules}
use Rattle.std.specs.Prelude.{slice_get}
use Rattle.std.specs.List.{list_all, position, position_or_len}
use Rattle.std.proofs.lemmas.Bool.{cases_Bool}
use Rattle.std.proofs.lemmas.List.{length-map}
use Rattle.std.proofs.lemmas.List.Folds.{find_at}
use Rattle.std.proofs.lemmas.Option.{slice_get_past}
use Rattle.run_states.specs.States.{by_first, by_inputs, is_bad, is_good}
use Rattle.run_states.specs.Nearest.{News, Open, Good, Bad, news_of}
use Rattle.run_states.specs.NodeStates.{by_news, input_at, is_bad_news, is_good_news, news_by, news_in, waiting}
use Rattle.run_states.specs.declared.state.State.{State}
use Rattle.run_states.specs.declared.state.State.TheVariants.{Blocked, Building, Done, Failed, Ready, Refused, Reused}

pub bad_news : (s : State) → is_bad_news (news_of s) ≡ is_bad s
bad_news Done = refl
bad_news (Failed reason) = refl
bad_news (Building lease) = refl
bad_news Reused = refl
bad_news (Refused cause) = refl
bad_news Ready = refl
bad_news Blocked = refl

pub good_news : (s : State) → is_good_news (news_of s) ≡ is_good s
good_news Done = refl
good_news (Failed reason) = refl
good_news (Building lease) = refl
good_news Reused = refl
good_news (Refused cause) = refl
good_news Ready = refl
good_news Blocked = refl

-- where there is news, it is good or bad
pub known_news : (s : State) → (news_of s ≡ Open → ⊥) → news_by (is_good s) ≡ news_of s
known_news Done known = refl
known_news (Failed reason) known = refl
known_news (Building lease) known = absurd (known refl)
known_news Reused known = refl
known_news (Refused cause) known = refl
known_news Ready known = absurd (known refl)
known_news Blocked known = absurd (known refl)

-- none waits where all news are good
pub all_good : (heard : List News) → list_all is_good_news heard ≡ (waiting heard == 0)
all_good [] = refl
all_good (Good ∷ more) = all_good more ∙ ap (λ n. n == 0) (omega arith)
all_good (Open ∷ more) = search (rules, ne_eqb)
all_good (Bad ∷ more) = search (rules, ne_eqb)

-- the first input of which there is bad news
first_bad : (inputs : List ℕ) (heard : List News) → length heard ≡ length inputs
    → input_at inputs (position is_bad_news heard)
    ≡ slice_get inputs (position_or_len is_bad_news heard)
first_bad inputs heard same = search (rules, slice_get_past, ltb-false, cases_Bool, nat_lt)

-- the state by what is counted
pub by_news_counted : (inputs : List ℕ) (heard : List News) → length heard ≡ length inputs
    → by_news inputs heard
    ≡ by_first (slice_get inputs (position_or_len is_bad_news heard)) (waiting heard == 0)
by_news_counted inputs heard same = search (rules, first_bad, all_good)

pub first_in : (state : ℕ → State) (inputs : List ℕ)
    → position_or_len is_bad_news (news_in state inputs)
    ≡ position_or_len (λ i. is_bad (state i)) inputs
first_in state [] = refl
first_in state (i ∷ is) = rw (bad_news (state i), first_in state is) refl

all_in : (state : ℕ → State) (inputs : List ℕ)
    → list_all is_good_news (news_in state inputs) ≡ list_all (λ i. is_good (state i)) inputs
all_in state [] = refl
all_in state (i ∷ is) = rw (good_news (state i), all_in state is) refl

-- where the news are those of the states, so is the state of a user
pub by_news_in : (state : ℕ → State) (inputs : List ℕ)
    → by_news inputs (news_in state inputs) ≡ by_inputs state inputs
by_news_in state inputs = search (rules, first_bad, length-map, first_in, find_at, all_in)
