-- Marks of rows, one bit each.
use Rattle.std.proofs.Common.{◌≡◌, ◌≢◌, ℕ, ◌*◌, ◌/◌, ◌%◌, ◌^◌, ◌<◌, true, false, not, nat_eq, List, [], ◌∷◌, ◌++◌, inl, inr, length, replicate, get_or, set, refl, sym, ◌∙◌, ap, arith, get_or-set_same, get_or-set_other, eq-eqb, ne_eqb, w64, rules}
use Rattle.std.proofs.Math.Bool.{or-false, or-true}
use Rattle.std.specs.Prelude.{bit_and, bit_or}
use Rattle.std.specs.Int.{bit_at}
use Rattle.std.specs.List.{IsDistinct, list_any}
use Rattle.std.proofs.lemmas.Bool.{cases_eq, cases_lt}
use Rattle.std.proofs.lemmas.Cmp.{nat_eq_equiv}
use Rattle.std.proofs.lemmas.List.{get_or-replicate, get_or_past, length-replicate}
use Rattle.std.proofs.lemmas.List.Folds.{list_any-append}
use Rattle.std.proofs.lemmas.Map.Keys.{IsDistinct-push}
use Rattle.std.proofs.lemmas.Nat.{one_shl, pow_pos}
use Rattle.std.proofs.lemmas.Nat.Bits.{and_pow, bit_at-lt, bit_at-zero, bit_at_set_other, bit_at_set_same}
use Rattle.indexmap.specs.IndexSet.{insert_key}
use Rattle.valid_table.specs.private.Marking.{AreMarked, mark_of}

zero_at : (n i : ℕ) → get_or {A = ℕ} (replicate n 0) i 0 ≡ 0
zero_at n i = search (rules, cases_lt, get_or-replicate, get_or_past, length-replicate)

-- where each bit is 0, no row is marked
pub none_marked : (n : ℕ) → AreMarked (replicate n 0) []
unfolding IsDistinct
none_marked n = search (rules, nat_eq, zero_at, bit_at-zero)

-- what the test `word & bit != 0` says of a bit
pub bit_is_set : (word k : ℕ) → k < 64 → bit_and word (1 * 2 ^ k % 2 ^ 64) ≢ 0
    → nat_eq (bit_at word k) 1 ≡ true
bit_is_set word k low set =
    let e : bit_and word (1 * 2 ^ k % 2 ^ 64) ≡ bit_at word k * 2 ^ k =
    ap (bit_and word) (one_shl k 64 low) ∙ and_pow _ k in
    elim (cases_eq (bit_at word k) 1) [
      | inl one ↦ eq-eqb (bit_at word k) 1 one
      | inr other ↦
          let none : bit_at word k ≡ 0 = omega (arith, bit_at-lt word k) in
          absurd (set (rw (e, none) (omega arith)))
    ]

pub bit_is_clear : (word k : ℕ) → k < 64 → bit_and word (1 * 2 ^ k % 2 ^ 64) ≡ 0
    → nat_eq (bit_at word k) 1 ≡ false
bit_is_clear word k low clear =
    let e : bit_and word (1 * 2 ^ k % 2 ^ 64) ≡ bit_at word k * 2 ^ k =
    ap (bit_and word) (one_shl k 64 low) ∙ and_pow _ k in
    elim (cases_eq (bit_at word k) 1) [
      | inl one ↦
          let big : 0 < bit_and word (1 * 2 ^ k % 2 ^ 64) = rw (e, one)
          (omega (arith, pow_pos k)) in
          absurd (omega arith)
      | inr other ↦ ne_eqb (bit_at word k) 1 other
    ]

-- a row that is marked is there already
pub insert_marked : (marks rows : List ℕ) (row : ℕ) → AreMarked marks rows
    → nat_eq (mark_of marks row) 1 ≡ true → rows ≡ insert_key nat_eq rows row
insert_marked marks rows row are set = rw (sym (are.marked row) ∙ set) refl

-- one that is not comes last
pub insert_unmarked : (marks rows : List ℕ) (row : ℕ) → AreMarked marks rows
    → nat_eq (mark_of marks row) 1 ≡ false → rows ++ row ∷ [] ≡ insert_key nat_eq rows row
insert_unmarked marks rows row are clear = search rules

-- one more row, with its mark
pub marked_more : (marks rows : List ℕ) (row word : ℕ) → AreMarked marks rows → row
    < 64 * length marks → word ≡ get_or marks (row / 64) 0 → nat_eq (mark_of marks row) 1 ≡ false
    → AreMarked (set marks (row / 64) (bit_or word (1 * 2 ^ (row % 64) % 2 ^ 64)))
    (rows ++ row ∷ [])
marked_more marks rows row word are within read clear =
    let new : ℕ = bit_or word (1 * 2 ^ (row % 64) % 2 ^ 64) in
    let index : row / 64 < length marks = omega arith in
    let low : row % 64 < 64 = omega arith in
    record {
      distinct = IsDistinct-push nat_eq_equiv _ _ are.distinct (sym (are.marked row) ∙ clear);
      marked = λ r. (
          elim (cases_eq r row) as (λ _. nat_eq (mark_of (set marks (row / 64) new) r) 1
          ≡ list_any (nat_eq r) (rows ++ row ∷ [])) [
            | inl same ↦
                rw same
                (ap (λ w. nat_eq (bit_at w (row % 64)) 1)
                (get_or-set_same marks (row / 64) new 0 index)
                ∙ ap (λ bit. nat_eq bit 1) (bit_at_set_same w64 _ _ low)
                ∙ sym (here row))
            | inr other ↦
                kept r other
                ∙ are.marked r
                ∙ sym (apart r other)
          ]
          );
    }
  where
    here : (r : ℕ) → list_any (nat_eq r) (rows ++ r ∷ []) ≡ true
    here r = search (rules, list_any-append, nat_eq, or-true)

    apart : (r : ℕ) → r ≢ row → list_any (nat_eq r) (rows ++ row ∷ []) ≡ list_any (nat_eq r) rows
    apart r other = search (rules, list_any-append, nat_eq, ne_eqb, or-false)

    kept : (r : ℕ) → r ≢ row
        → nat_eq (mark_of (set marks (row / 64) (bit_or word (1 * 2 ^ (row % 64) % 2 ^ 64))) r) 1
        ≡ nat_eq (mark_of marks r) 1
    kept r other =
        let new : ℕ = bit_or word (1 * 2 ^ (row % 64) % 2 ^ 64) in
        (elim (cases_eq (r / 64) (row / 64)) as (λ _.
        nat_eq (mark_of (set marks (row / 64) new) r) 1 ≡ nat_eq (mark_of marks r) 1) [
          | inl one ↦
              ap (λ x. nat_eq (bit_at (get_or (set marks (row / 64) new) x 0) (r % 64)) 1) one
              ∙ ap (λ x. nat_eq (bit_at x (r % 64)) 1)
              (get_or-set_same marks (row / 64) new 0 (omega arith))
              ∙ ap (λ x. nat_eq x 1)
              (bit_at_set_other w64 word (row % 64) (omega arith) (r % 64) (omega arith))
              ∙ ap (λ x. nat_eq (bit_at x (r % 64)) 1) (read ∙ ap (λ x. get_or marks x 0) (sym one))
          | inr two ↦ ap (λ x. nat_eq (bit_at x (r % 64)) 1)
              (get_or-set_other marks (row / 64) (r / 64) new 0 two)
        ])

-- what the test `word & bit != 0` answers
pub bit_test : (word k : ℕ) → k < 64 → not (nat_eq (bit_and word (1 * 2 ^ k % 2 ^ 64)) 0)
    ≡ nat_eq (bit_at word k) 1
bit_test word k low = search (rules, cases_eq, not, eq-eqb, bit_is_clear, set, ne_eqb, bit_is_set)
