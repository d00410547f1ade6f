-- How many memos pass a test, by their indices.
use Rattle.std.proofs.Common.{◌≡◌, ℕ, zero, suc, ◌+◌, ◌<◌, Bool, true, false, List, [], ◌∷◌, length, Some, refl, subst, arith, rules}
use Rattle.std.specs.Prelude.{All, Contains, slice_get}
use Rattle.std.specs.List.Sorted.{IsStrictlyIncreasing}
use Rattle.nix_names.proofs.Lists.{All-from_contains, Contains-cons_cases, Contains-first, Contains-later, Contains-nothing}
use Rattle.run_states.specs.WorkQueues.{memo_count}
use Rattle.run_states.specs.Counts.{HasCount}
use Rattle.run_states.specs.declared.node_states.NodeState.{NodeState}
use Rattle.run_states.proofs.WorkQueues.{one}

-- a number before others, if it is to stand there
abbrev before_if : Bool → ℕ → List ℕ → List ℕ
before_if true d others = d ∷ others
before_if false d others = others

-- the indices of memos that pass, where the first stands at this one
abbrev indices : (NodeState → Bool) → (from : ℕ) → List NodeState → List ℕ
indices test from [] = []
indices test from (memo ∷ memos) = before_if (test memo) from (indices test (suc from) memos)

indices_count : (test : NodeState → Bool) (from : ℕ) (memos : List NodeState)
    → memo_count test memos ≡ length (indices test from memos)
indices_count test from [] = refl
indices_count test from (memo ∷ memos) =
    by (test memo) (indices test (suc from) memos) (indices_count test (suc from) memos)
  where
    by : (is : Bool) (others : List ℕ) → memo_count test memos ≡ length others
        → one is + memo_count test memos ≡ length (before_if is from others)
    by true others counted = omega (arith, counted)
    by false others counted = omega (arith, counted)

-- a memo that passes stands at this index after a number
abbrev IsIndex : (NodeState → Bool) → (from : ℕ) → List NodeState → (d : ℕ) → Type 0
IsIndex test from memos d = (i : ℕ) × (memo : NodeState) × (slice_get memos i ≡ Some memo)
    × (test memo ≡ true) × (d ≡ from + i)

-- an index that is listed is that of a memo that passes
indices_hold : (test : NodeState → Bool) (from : ℕ) (memos : List NodeState) (d : ℕ)
    → Contains (indices test from memos) d → IsIndex test from memos d
indices_hold test from [] d has = absurd (Contains-nothing d has)
indices_hold test from (memo ∷ memos) d has =
    by (test memo) refl (λ rest. later (indices_hold test (suc from) memos d rest)) has
  where
    later : IsIndex test (suc from) memos d → IsIndex test from (memo ∷ memos) d
    later held = (suc held.0, held.1, held.2, held.3, omega (arith, held.4))

    by : (is : Bool) → test memo ≡ is
        → (Contains (indices test (suc from) memos) d → IsIndex test from (memo ∷ memos) d)
        → Contains (before_if is from (indices test (suc from) memos)) d
        → IsIndex test from (memo ∷ memos) d
    by true passes rest has = search (rules, Contains-cons_cases, indices)
    by false passes rest has = rest has

-- and the index of each that passes is listed
indices_have : (test : NodeState → Bool) (from : ℕ) (memos : List NodeState) (i : ℕ)
    (memo : NodeState)
    → slice_get memos i ≡ Some memo → test memo ≡ true
    → Contains (indices test from memos) (from + i)
indices_have test from [] i memo at passes = absurd cc
indices_have test from (t ∷ memos) zero memo at passes =
    search (rules, before_if, indices, Contains-first)
indices_have test from (t ∷ memos) (suc i) memo at passes =
    let next : suc from + i ≡ from + suc i = omega arith in
    by (test t) (subst (Contains (indices test (suc from) memos)) next
    (indices_have test _ _ i _ at passes))
  where
    by : (is : Bool) → Contains (indices test (suc from) memos) (from + suc i)
        → Contains (before_if is from (indices test (suc from) memos)) (from + suc i)
    by true has = search (rules, Contains-later, indices)
    by false has = has

rising_more : (x : ℕ) (xs : List ℕ) → All (λ d. x < d) xs → IsStrictlyIncreasing xs
    → IsStrictlyIncreasing (x ∷ xs)
rising_more x xs above rising zero low = above 0 0 (omega (arith, low))
rising_more x xs above rising (suc k) low = search rules

indices_rise : (test : NodeState → Bool) (from : ℕ) (memos : List NodeState)
    → IsStrictlyIncreasing (indices test from memos)
indices_rise test from [] = search rules
indices_rise test from (memo ∷ memos) = by (test memo) (indices_rise test (suc from) memos)
  where
    above : All (λ d. from < d) (indices test (suc from) memos)
    above = All-from_contains (λ d. from < d) (indices test (suc from) memos)
        (λ d has. let held = indices_hold test (suc from) memos d has in omega (arith, held.4))

    by : (is : Bool) → IsStrictlyIncreasing (indices test (suc from) memos)
        → IsStrictlyIncreasing (before_if is from (indices test (suc from) memos))
    by true rise = rising_more from (indices test (suc from) memos) above rise
    by false rise = rise

-- a count of memos is the count of a property, if exactly the indices of the memos have it
pub memos_counted : (test : NodeState → Bool) (memos : List NodeState) (is_such : ℕ → Type 0)
    → ((d : ℕ) (memo : NodeState) → slice_get memos d ≡ Some memo → test memo ≡ true → is_such d)
    → ((d : ℕ) → is_such d
    → (memo : NodeState) × (slice_get memos d ≡ Some memo) × (test memo ≡ true))
    → HasCount is_such (memo_count test memos)
memos_counted test memos is_such such its = record {
  numbers = indices test 0 memos;
  rising = indices_rise test 0 memos;
  exact = λ d. (
    λ has.
        let held = indices_hold test 0 _ d has in
        let same : held.0 ≡ d = omega (arith, held.4) in
        subst is_such same (such held.0 held.1 held.2 held.3),
    λ is.
        let own = its d is in
        let same : 0 + d ≡ d = omega arith in
        subst (Contains (indices test 0 memos)) same
        (indices_have test 0 _ d _ own.1 own.2),
  );
  count_is = indices_count test 0 memos;
}

-- a property that holds of the same numbers has the same count
pub same_count : (is_such is_so : ℕ → Type 0) (count : ℕ) → ((d : ℕ) → is_such d → is_so d)
    → ((d : ℕ) → is_so d → is_such d) → HasCount is_such count → HasCount is_so count
same_count is_such is_so count to from many = search rules
