-- Strings are spelled by runs of plain bytes and single bytes; how long their texts are.
use Rattle.std.proofs.Common.{◌≡◌, ℕ, zero, suc, ◌+◌, ◌-◌, ◌<◌, ◌≤◌, true, List, [], ◌∷◌, ◌++◌, length, get_or, take, drop, Option, Some, None, is_some, cond, Result, refl, sym, ap, ◌∙◌, append_assoc, arith, OnOk, rules}
use Rattle.std.specs.Prelude.{if◌then◌else◌, count_by, is_ok}
use Rattle.std.specs.List.{flat_map}
use Rattle.std.proofs.lemmas.List.{append-nil, length-append, nil_from_length, take_all}
use Rattle.std.proofs.lemmas.List.Sums.{sum_by-cons}
use Rattle.nix_drv.specs.Strings.{spelled, spelling, is_plain, letter, string_text}
use Rattle.nix_drv.specs.private.Passing.{offset_after}
use Rattle.nix_drv.proofs.Strings.{spelling-plain}
use Rattle.nix_drv.proofs.FormTexts.{added_last}
use Rattle.nix_drv.proofs.Runs.{is_plain-true}

pub by_letter_of : (b : ℕ) (l : Option ℕ) → l ≡ letter b → spelled b l ≡ spelling b
unfolding spelling
by_letter_of b l e = ap (spelled b) e

-- a byte's spelling is added
pub byte_added : {E : Type 0} (r : Result (Unit {0}) E) (old new : List ℕ) (b : ℕ) (l : Option ℕ)
    → l ≡ letter b → new ≡ (if is_ok r then old ++ spelled b l else old)
    → OnOk r (new ≡ old ++ spelling b)
byte_added r old new b l e is = search (rules, added_last, by_letter_of)

-- a run of plain bytes is spelled as itself
pub spelled_run : (n : ℕ) (s : List ℕ) → n ≤ length s
    → ((k : ℕ) → k < n → is_plain (get_or s k 0) ≡ true) → flat_map spelling s ≡ take n s
    ++ flat_map spelling (drop n s)
spelled_run zero s fits plain = refl
spelled_run (suc n) [] fits plain = refl
spelled_run (suc n) (b ∷ s) fits plain =
    let own : spelling b ≡ b ∷ [] = spelling-plain b (is_plain-true b (plain 0 (omega arith))) in
    rw own (ap (λ (t : List ℕ). b ∷ t)
    (spelled_run n s (omega arith) (λ k lt. plain (suc k) (omega arith))))

pub length-spellings : (v : List ℕ) → length (flat_map spelling v) ≡ length v
    + count_by (λ b. is_some (letter b)) v
length-spellings [] = refl
length-spellings (b ∷ v) =
    let one : (x : ℕ) (l : Option ℕ) → length (spelled x l) ≡ 1 + (if is_some l then 1 else 0) =
    λ x l. elim l as (λ o. length (spelled x o) ≡ 1 + (if is_some o then 1 else 0))
    [ Some y ↦ refl | None ↦ refl ] in
    omega (
      arith,
      length-append (spelling b) (flat_map spelling v),
      length-spellings v,
      ap length (by_letter_of b _ refl),
      one b (letter b),
      sum_by-cons (λ (x : ℕ). cond (is_some (letter x)) 1 0) b v,
    )

pub string_end : (offset escapes first second last : ℕ) (v : List ℕ) → escapes
    ≡ count_by (λ b. is_some (letter b)) v
    → first ≡ offset_after offset (length v) → second ≡ offset_after first escapes → last
    ≡ offset_after second 2
    → last ≡ offset_after offset (length (string_text v))
string_end offset escapes first second last v e one two three =
    search (rules, length-spellings, length-append)

rest_after : (s : List ℕ) → 1 ≤ length s → get_or s 0 0 ∷ take (length s - 1) (drop 1 s) ≡ s
rest_after [] long = absurd (omega arith)
rest_after (b ∷ s) long = search (rules, take_all)

-- a run and the byte after it
run_spelled : (part rest run special : List ℕ) (n byte : ℕ) (total : List ℕ) → n ≤ length rest
    → ((k : ℕ) → k < n → is_plain (get_or rest k 0) ≡ true)
    → part ++ flat_map spelling rest ≡ total → run ≡ take n rest → special ≡ drop n rest → 1
    ≤ length special → byte ≡ get_or special 0 0
    → (part ++ run ++ spelling byte) ++ flat_map spelling
    (take (length special - 1) (drop 1 special)) ≡ total
run_spelled part rest run special n byte total fits plain so_far run_is special_is long byte_is =
    search (rules, rest_after, append_assoc, spelled_run)

-- the last run, with nothing after it
last_spelled : (part rest run special : List ℕ) (n : ℕ) (total : List ℕ) → n ≤ length rest
    → ((k : ℕ) → k < n → is_plain (get_or rest k 0) ≡ true)
    → part ++ flat_map spelling rest ≡ total → run ≡ take n rest → special ≡ drop n rest
    → length special < 1 → part ++ run ≡ total
last_spelled part rest run special n total fits plain so_far run_is special_is short =
    let none : drop n rest ≡ [] = sym special_is ∙ nil_from_length _ (omega arith) in
    let whole : flat_map spelling rest ≡ take n rest = spelled_run n _ fits plain
    ∙ ap (λ (t : List ℕ). take n rest ++ flat_map spelling t) none ∙ append-nil (take n rest) in
    ap (λ (t : List ℕ). part ++ t) (run_is ∙ sym whole) ∙ so_far

-- a run and the byte after it were added
pub run_written : (old added new rest run special : List ℕ) (n byte : ℕ) (total : List ℕ)
    → old ++ flat_map spelling rest ≡ total → n ≤ length rest
    → ((k : ℕ) → k < n → is_plain (get_or rest k 0) ≡ true)
    → run ≡ take n rest → special ≡ drop n rest → 1 ≤ length special → byte ≡ get_or special 0 0
    → added ≡ old ++ run → new ≡ added ++ spelling byte
    → new ++ flat_map spelling (take (length special - 1) (drop 1 special)) ≡ total
run_written old added new rest run special n byte total begun fits plain run_is special_is long
    byte_is added_is new_is = rw (new_is, added_is)
    (run_spelled _ _ _ _ n _ _ fits plain begun run_is special_is long byte_is)

-- the last run and the quote after it are the string's
pub last_written : (base old added rest bytes run special : List ℕ) (n : ℕ)
    → old ++ flat_map spelling rest ≡ base ++ (34 ∷ flat_map spelling bytes) → n ≤ length rest
    → ((k : ℕ) → k < n → is_plain (get_or rest k 0) ≡ true)
    → run ≡ take n rest → special ≡ drop n rest → length special < 1 → added ≡ old ++ run
    → added ++ 34 ∷ [] ≡ base ++ string_text bytes
last_written base old added rest bytes run special n begun fits plain run_is special_is short
    added_is =
    let all : old ++ run ≡ base ++ (34 ∷ flat_map spelling bytes) =
    last_spelled _ _ _ _ n _ fits plain begun
    run_is special_is short in
    ap (λ (t : List ℕ). t ++ 34 ∷ []) (added_is ∙ all)
    ∙ append_assoc base (34 ∷ flat_map spelling bytes) (34 ∷ [])
