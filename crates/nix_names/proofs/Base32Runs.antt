-- The runs of the alphabet, whose digits follow one another, and the gaps between them, which have
-- none.
use Rattle.std.proofs.Common.{◌≡◌, ◌+◌, ◌-◌, ◌<◌, ◌≤◌, ◌==◌, ℕ, Bool, true, get_or, refl, subst, ◌∙◌, arith, rules}
use Rattle.std.specs.List.{list_all, range_with_len}
use Rattle.std.proofs.lemmas.Bool.{eqb-true}
use Rattle.std.proofs.lemmas.List.Elements.{All-get_or}
use Rattle.std.proofs.lemmas.List.FromFn.{length-range_with_len, get_or-range_with_len}
use Rattle.std.proofs.lemmas.List.Sums.{AllPass-from_list_all}
use Rattle.nix_names.specs.Base32.{digit_of}

-- a test that each of some numbers in a row passes
pub each_from : (low n : ℕ) (p : ℕ → Bool) → list_all p (range_with_len low n) ≡ true → (c : ℕ)
    → low ≤ c → c < low + n → p c ≡ true
each_from low n p all c above below =
    let at : get_or (range_with_len low n) (c - low) 0
    ≡ c = get_or-range_with_len low n (c - low) 0 (omega arith) ∙ omega arith in
    let pass = All-get_or (λ x. p x ≡ true) (range_with_len low n) (c - low) 0
    (omega (arith, length-range_with_len low n))
    (AllPass-from_list_all p (range_with_len low n) all) in
    subst (λ x. p x ≡ true) at pass

-- the characters of a run have digits in a row
run : (low n first : ℕ) → list_all (λ c. digit_of c == c - low + first) (range_with_len low n)
    ≡ true → (c : ℕ) → low ≤ c → c < low + n → digit_of c ≡ c - low + first
run low n first all c above below =
    eqb-true (digit_of c) (c - low + first)
    (each_from low n (λ x. digit_of x == x - low + first) all c above below)

-- those of a gap have none
gap : (low n : ℕ) → list_all (λ c. digit_of c == 32) (range_with_len low n) ≡ true → (c : ℕ) → low
    ≤ c → c < low + n → digit_of c ≡ 32
gap low n all c above below = eqb-true (digit_of c) 32
    (each_from low n (λ x. digit_of x == 32) all c above below)

pub from_0_to_9 : (c : ℕ) → 48 ≤ c → c ≤ 57 → digit_of c ≡ c - 48
unfolding digit_of
from_0_to_9 c above below = run 48 10 0 refl c above (omega arith) ∙ omega arith

pub from_a_to_d : (c : ℕ) → 97 ≤ c → c ≤ 100 → digit_of c ≡ c - 97 + 10
unfolding digit_of
from_a_to_d c above below = run 97 4 10 refl c above (omega arith)

pub from_f_to_n : (c : ℕ) → 102 ≤ c → c ≤ 110 → digit_of c ≡ c - 102 + 14
unfolding digit_of
from_f_to_n c above below = run 102 9 14 refl c above (omega arith)

pub from_p_to_s : (c : ℕ) → 112 ≤ c → c ≤ 115 → digit_of c ≡ c - 112 + 23
unfolding digit_of
from_p_to_s c above below = run 112 4 23 refl c above (omega arith)

pub from_v_to_z : (c : ℕ) → 118 ≤ c → c ≤ 122 → digit_of c ≡ c - 118 + 27
unfolding digit_of
from_v_to_z c above below = run 118 5 27 refl c above (omega arith)

pub gap_before_0 : (c : ℕ) → c ≤ 47 → digit_of c ≡ 32
unfolding digit_of
gap_before_0 c below = search (rules, gap)

pub gap_colon_to_grave : (c : ℕ) → 58 ≤ c → c ≤ 96 → digit_of c ≡ 32
unfolding digit_of
gap_colon_to_grave c above below = gap 58 39 refl c above (omega arith)

pub gap_e : (c : ℕ) → 101 ≤ c → c ≤ 101 → digit_of c ≡ 32
unfolding digit_of
gap_e c above below = gap 101 1 refl c above (omega arith)

pub gap_o : (c : ℕ) → 111 ≤ c → c ≤ 111 → digit_of c ≡ 32
unfolding digit_of
gap_o c above below = gap 111 1 refl c above (omega arith)

pub gap_t_or_u : (c : ℕ) → 116 ≤ c → c ≤ 117 → digit_of c ≡ 32
unfolding digit_of
gap_t_or_u c above below = gap 116 2 refl c above (omega arith)

pub gap_past_z : (c : ℕ) → 123 ≤ c → c ≤ 255 → digit_of c ≡ 32
unfolding digit_of
gap_past_z c above below = gap 123 133 refl c above (omega arith)

-- the digit of each byte
pub ruleset digits = (
  from_0_to_9,
  from_a_to_d,
  from_f_to_n,
  from_p_to_s,
  from_v_to_z,
  gap_before_0,
  gap_colon_to_grave,
  gap_e,
  gap_o,
  gap_t_or_u,
  gap_past_z,
)
