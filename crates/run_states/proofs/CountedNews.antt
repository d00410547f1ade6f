-- News of inputs, counted one after the other.
use Rattle.std.proofs.Common.{◌≡◌, ◌∙◌, ℕ, ◌+◌, ◌-◌, ◌<◌, ◌≤◌, Bool, true, false, List, [], ◌∷◌, ◌++◌, length, take, get_or, refl, sym, ap, arith, rules}
use Rattle.std.specs.List.{position_or_len, slice_index_or}
use Rattle.std.proofs.Math.Nat.{eq-or-lt_of_le}
use Rattle.std.proofs.lemmas.List.{get_or-map, take_all, take_more}
use Rattle.std.proofs.lemmas.List.Sums.{position_or_len_is}
use Rattle.run_states.specs.StateLists.{kept}
use Rattle.run_states.specs.States.{is_bad, is_good}
use Rattle.run_states.specs.Nearest.{News, Open, Good, Bad, news_of}
use Rattle.run_states.specs.NodeStates.{is_bad_news, is_good_news, news_in, states_in, waiting}
use Rattle.run_states.specs.declared.node_states.NodeState.{NodeState}
use Rattle.run_states.proofs.KnownNews.{bad_news, good_news}

-- Up to an index: `waits` counts the news that aren't good, as if all from there on weren't;
-- `first` is the index of the first bad one.
pub record AreCounted (heard : List News) (index waits first : ℕ) : Type 0 where
  pub short : first ≤ length heard
  pub number : waits + index ≡ waiting (take index heard) + length heard
  pub before : (k : ℕ) → k < index → k < first → is_bad_news (slice_index_or heard k Open) ≡ false
  pub here : first < length heard → is_bad_news (slice_index_or heard first Open) ≡ true

waiting-push : (heard : List News) (news : News)
    → waiting (heard ++ news ∷ []) ≡ waiting heard + waiting (news ∷ [])
waiting-push [] news = omega arith
waiting-push (n ∷ heard) news = omega (arith, waiting-push heard news)

good_is_harmless : (news : News) → is_good_news news ≡ true → is_bad_news news ≡ false
good_is_harmless Open good = refl
good_is_harmless Good good = refl
good_is_harmless Bad good = absurd cc

pub none_counted : (heard : List News) → AreCounted heard 0 (length heard) (length heard)
none_counted heard = record {
  short = omega arith;
  number = omega arith;
  before = λ k low under. absurd (omega (arith, low));
  here = λ low. absurd (omega (arith, low));
}

module _ (heard : List News) (index waits first : ℕ) (low : index < length heard)
    (are : AreCounted heard index waits first) where
  abbrev news : News
  news = slice_index_or heard index Open

  taken : waiting (take (index + 1) heard) ≡ waiting (take index heard) + waiting (news ∷ [])
  taken = ap waiting (take_more _ _ _ low) ∙ waiting-push _ _

  counted_more : (fewer : ℕ) → fewer + 1 ≡ waits + waiting (news ∷ []) → (now : ℕ)
      → now ≤ length heard
      → ((k : ℕ) → k < index + 1 → k < now → is_bad_news (slice_index_or heard k Open) ≡ false)
      → (now < length heard → is_bad_news (slice_index_or heard now Open) ≡ true)
      → AreCounted heard (index + 1) fewer now
  counted_more fewer number now short before here =
      search (rules, short, number, taken, before, here)

  -- before the next index
  before_more : (now : ℕ) → (index < now → is_bad_news news ≡ false) → now ≤ first
      → (k : ℕ) → k < index + 1 → k < now → is_bad_news (slice_index_or heard k Open) ≡ false
  before_more now harmless short k under sooner = search (rules, heard, short, eq-or-lt_of_le)

  -- an input of which there is good news
  pub good_counted : is_good_news news ≡ true
      → (1 ≤ waits) × AreCounted heard (index + 1) (waits - 1) first
  good_counted good =
      let one : waiting (news ∷ []) ≡ 0 = rw good refl in
      let some : 1 ≤ waits = omega (arith, are.number, low) in (
        some,
        counted_more _ (omega (arith, one, some)) _ are.short
            (before_more _ (λ sooner. good_is_harmless _ good) (omega arith)) are.here,
      )

  -- the first of which there is bad news
  pub bad_counted : is_good_news news ≡ false → is_bad_news news ≡ true → index < first
      → AreCounted heard (index + 1) waits index
  bad_counted good bad sooner =
      let one : waiting (news ∷ []) ≡ 1 = rw good refl in
      counted_more _ (omega (arith, one)) _ (omega (arith, low))
      (before_more _ (λ under. absurd (omega (arith, under))) (omega (arith, sooner)))
      (λ inside. bad)

  -- another
  pub other_counted : is_good_news news ≡ false
      → (index < first → is_bad_news news ≡ false) → AreCounted heard (index + 1) waits first
  other_counted good harmless =
      let one : waiting (news ∷ []) ≡ 1 = rw good refl in
      counted_more _ (omega (arith, one)) _ are.short
      (before_more _ harmless (omega arith)) are.here

-- all were counted
pub all_counted : (heard : List News) (index waits first : ℕ) → length heard ≤ index
    → index ≤ length heard → AreCounted heard index waits first
    → (waits ≡ waiting heard) × (first ≡ position_or_len is_bad_news heard)
all_counted heard index waits first past within are = (
  omega (arith, are.number, ap waiting (take_all index heard past)),
  sym (position_or_len_is is_bad_news _ _ _ are.short
      (λ k low. are.before k (omega (arith, low, are.short, past)) low) are.here),
)

-- ---- news that are read

module _ (memos : List NodeState) (inputs : List ℕ) (index : ℕ) (any : NodeState)
    (low : index < length inputs) (below : get_or inputs index 0 < length memos) where
  abbrev heard : News
  heard = slice_index_or (news_in (kept (states_in memos)) inputs) index Open

  read : heard ≡ news_of (get_or memos (get_or inputs index 0) any).state
  read = get_or-map (λ i. news_of (kept (states_in memos) i)) _ _ 0 _ low
      ∙ ap news_of
      (get_or-map (λ (t : NodeState). t.state) _ _ _ _ below)

  pub good_read : (served result : Bool)
      → served ≡ is_good (get_or memos (get_or inputs index 0) any).state → served ≡ result
      → is_good_news heard ≡ result
  good_read served result is said = search (rules, read, good_news)

  pub bad_read : (failed result : Bool)
      → failed ≡ is_bad (get_or memos (get_or inputs index 0) any).state → failed ≡ result
      → is_bad_news heard ≡ result
  bad_read failed result is said = search (rules, read, bad_news)
