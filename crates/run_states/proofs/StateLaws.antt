-- The table of states has one solution, and the states are it.
use Rattle.std.proofs.Common.{◌≡◌, ℕ, zero, suc, ◌<◌, ◌≤◌, Bool, List, [], ◌∷◌, ◌++◌, length, refl, sym, ap, ◌∙◌, subst, ⊎_elim, arith, rules}
use Rattle.std.specs.Prelude.{Contains, find, map}
use Rattle.std.specs.List.{list_all, list_any, slice_index_or}
use Rattle.std.proofs.Math.ListN.{get_or-append, length-append}
use Rattle.std.proofs.Math.Nat.{eq-or-lt_of_le}
use Rattle.std.proofs.Math.Seq.{get_or-append_seam}
use Rattle.std.proofs.lemmas.List.{get_or_past}
use Rattle.run_states.specs.declared.state.State.{State}
use Rattle.run_states.specs.declared.state.State.TheVariants.{Blocked}
use Rattle.run_states.specs.Nearest.{near_state, near_table, news_of}
use Rattle.run_states.specs.States.{IsInOrder, Rows, StatesAgree, StatesAreOne, is_bad, is_done, is_good, is_open, state, states_by, table}
use Rattle.nix_names.proofs.Lists.{Contains-first, Contains-later}

-- ---- states by any rule

-- what a rule reads at a derivation: the states before it
abbrev pub reads_at : (rule : (ℕ → State) → ℕ → State) → ℕ → ℕ → State
reads_at rule d i = slice_index_or (states_by rule d) i Blocked

-- the state of a derivation by a rule
abbrev pub state_by : (rule : (ℕ → State) → ℕ → State) → ℕ → State
state_by rule d = rule (reads_at rule d) d

pub length_states : (rule : (ℕ → State) → ℕ → State) (n : ℕ) → length (states_by rule n) ≡ n
unfolding states_by
length_states rule zero = refl
length_states rule (suc n) = search (rules, length-append, length_states rule n)

-- among the first states each is that of its derivation
pub state_at : (rule : (ℕ → State) → ℕ → State) (n i : ℕ) → i < n
    → slice_index_or (states_by rule n) i Blocked ≡ state_by rule i
unfolding states_by
state_at rule zero i below = absurd (omega arith)
state_at rule (suc n) i below =
    let last = rule (λ j. slice_index_or (states_by rule n) j Blocked) n in
    ⊎_elim
    (λ same.
    subst (λ k. slice_index_or (states_by rule n ++ last ∷ []) k Blocked ≡ state_by rule k)
    (sym same)
    (subst (λ k. slice_index_or (states_by rule n ++ last ∷ []) k Blocked ≡ last)
    (length_states rule n)
    (get_or-append_seam (states_by rule n) last [] Blocked)))
    (λ less. get_or-append (states_by rule n) (last ∷ []) Blocked i
    (omega (arith, length_states rule n)) ∙ state_at rule n i less)
    (eq-or-lt_of_le {n = i} {m = n} (omega arith))

-- after them nothing is known
pub state_past : (rule : (ℕ → State) → ℕ → State) (n i : ℕ) → n ≤ i
    → slice_index_or (states_by rule n) i Blocked ≡ Blocked
state_past rule n i past = search (rules, get_or_past, length_states)

-- the rule gives the same at a derivation where the states of smaller numbers are the same
abbrev pub ReadsBelow : ((ℕ → State) → ℕ → State) → Type 0
ReadsBelow rule = (f g : ℕ → State) (d : ℕ) → ((i : ℕ) → i < d → f i ≡ g i) → rule f d ≡ rule g d

module _ (rule : (ℕ → State) → ℕ → State) (reads : ReadsBelow rule) where
  rule_agrees : (d : ℕ) → state_by rule d ≡ rule (state_by rule) d
  rule_agrees d = reads (reads_at rule d) (state_by rule) d (state_at rule d)

  -- up to a bound
  one_below : (other : ℕ → State) (count : ℕ)
      → ((d : ℕ) → d < count → other d ≡ rule other d)
      → (bound d : ℕ) → d < bound → d < count → other d ≡ state_by rule d
  one_below other count meets zero d low below = absurd (omega arith)
  one_below other count meets (suc bound) d low below =
      meets d below
      ∙ reads other (state_by rule) d
      (λ i less. one_below other count meets bound i (omega arith) (omega arith))
      ∙ sym (rule_agrees d)

  rule_is_one : (other : ℕ → State) (count : ℕ)
      → ((d : ℕ) → d < count → other d ≡ rule other d)
      → (d : ℕ) → d < count → other d ≡ state_by rule d
  rule_is_one other count meets d below =
      one_below other count meets (suc d) d (omega arith) below

-- rules that say the same of the states that one of them reads give the same states
module _ (rule other : (ℕ → State) → ℕ → State)
    (same : (d : ℕ) → rule (reads_at rule d) d ≡ other (reads_at rule d) d) where
  rules_same : (n : ℕ) → states_by rule n ≡ states_by other n
  unfolding states_by
  rules_same zero = refl
  rules_same (suc n) =
      ap (λ s. states_by rule n ++ s ∷ []) (same n)
      ∙ ap (λ (ss : List State). ss ++ other (λ i. slice_index_or ss i Blocked) n ∷ [])
      (rules_same n)

  pub states_alike : (d : ℕ) → state_by rule d ≡ state_by other d
  states_alike d = search (rules, rules_same)

-- ---- what the tables read

-- two ways to give states that agree at each number give the same
pub find_same : (f g : ℕ → State) (numbers : List ℕ)
    → ((i : ℕ) → Contains numbers i → f i ≡ g i)
    → find (λ i. is_bad (f i)) numbers ≡ find (λ i. is_bad (g i)) numbers
find_same f g [] same = refl
find_same f g (i ∷ is) same =
    let here = same i (Contains-first i _) in
    let rest = find_same f g is (λ j has. same j (Contains-later i is j has)) in
    rw (here, rest) refl

pub all_same : (f g : ℕ → State) (numbers : List ℕ)
    → ((i : ℕ) → Contains numbers i → f i ≡ g i)
    → list_all (λ i. is_good (f i)) numbers ≡ list_all (λ i. is_good (g i)) numbers
all_same f g [] same = refl
all_same f g (i ∷ is) same =
    let here = same i (Contains-first i _) in
    let rest = all_same f g is (λ j has. same j (Contains-later i is j has)) in
    rw (here, rest) refl

pub any_same : (test : State → Bool) (f g : ℕ → State) (numbers : List ℕ)
    → ((i : ℕ) → Contains numbers i → f i ≡ g i)
    → list_any (λ i. test (f i)) numbers ≡ list_any (λ i. test (g i)) numbers
any_same test f g [] same = refl
any_same test f g (i ∷ is) same =
    let here = same i (Contains-first i _) in
    let rest = any_same test f g is (λ j has. same j (Contains-later i is j has)) in
    rw (here, rest) refl

pub news_same : (f g : ℕ → State) (numbers : List ℕ)
    → ((i : ℕ) → Contains numbers i → f i ≡ g i)
    → map (λ i. news_of (f i)) numbers ≡ map (λ i. news_of (g i)) numbers
news_same f g [] same = refl
news_same f g (i ∷ is) same =
    let here = same i (Contains-first i _) in
    let rest = news_same f g is (λ j has. same j (Contains-later i is j has)) in
    rw (here, rest) refl

table_reads : (rows : Rows) → IsInOrder rows → ReadsBelow (table rows)
unfolding table
table_reads rows order f g d same =
    let inputs : (i : ℕ) → Contains (rows.inputs d) i → f i ≡ g i = λ i has.
    same i (order.inputs d i has) in
    let twins : (t : ℕ) → Contains (rows.twins d) t → f t ≡ g t = λ t has.
    same t (order.twins d t has) in
    rw (
      find_same f g _ inputs,
      all_same f g _ inputs,
      any_same is_done f g _ twins,
      any_same is_open f g _ twins,
    ) refl

near_reads : (rows : Rows) → IsInOrder rows → ReadsBelow (near_table rows)
unfolding near_table
near_reads rows order f g d same =
    let inputs : (i : ℕ) → Contains (rows.inputs d) i → f i ≡ g i = λ i has.
    same i (order.inputs d i has) in
    let twins : (t : ℕ) → Contains (rows.twins d) t → f t ≡ g t = λ t has.
    same t (order.twins d t has) in
    rw (
      find_same f g _ inputs,
      all_same f g _ inputs,
      news_same f g _ twins,
    ) refl

-- ---- the two tables

pub states_agree : StatesAgree
unfolding state
states_agree rows d order = rule_agrees _ (table_reads _ order) d

pub states_are_one : StatesAreOne
unfolding state
states_are_one rows other count order = rule_is_one (table rows) (table_reads rows order) other _

pub near_agree : (rows : Rows) (d : ℕ) → IsInOrder rows
    → near_state rows d ≡ near_table rows (near_state rows) d
unfolding near_state
near_agree rows d order = rule_agrees _ (near_reads _ order) d

pub near_are_one : (rows : Rows) (other : ℕ → State) (count : ℕ) → IsInOrder rows
    → ((d : ℕ) → d < count → other d ≡ near_table rows other d)
    → (d : ℕ) → d < count → other d ≡ near_state rows d
unfolding near_state
near_are_one rows other count order =
    rule_is_one (near_table rows) (near_reads rows order) other count

-- ---- states follow from rows that are the same

pub record AreSame (a b : Rows) : Type 0 where
  pub inputs : (d : ℕ) → a.inputs d ≡ b.inputs d
  pub twins : (d : ℕ) → a.twins d ≡ b.twins d
  pub precondition : (d : ℕ) → a.precondition d ≡ b.precondition d
  pub phase : (d : ℕ) → a.phase d ≡ b.phase d

table_rows : (a b : Rows) → AreSame a b → (f : ℕ → State) (d : ℕ) → table a f d ≡ table b f d
unfolding table
table_rows a b same f d = search rules

near_rows : (a b : Rows) → AreSame a b → (f : ℕ → State) (d : ℕ)
    → near_table a f d ≡ near_table b f d
unfolding near_table
near_rows a b same f d = search rules

pub state_same : (a b : Rows) → AreSame a b → (d : ℕ) → state a d ≡ state b d
unfolding state
state_same a b same = search (rules, states_alike, table_rows, reads_at)

pub near_same : (a b : Rows) → AreSame a b → (d : ℕ) → near_state a d ≡ near_state b d
unfolding near_state
near_same a b same = search (rules, states_alike, near_rows, reads_at)
