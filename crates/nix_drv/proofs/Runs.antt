-- Reading fixed bytes one by one, and a string by runs of plain bytes.
use Rattle.std.proofs.Common.{◌≡◌, ℕ, zero, suc, ◌<◌, ◌≤◌, Bool, true, false, List, [], ◌∷◌, ◌++◌, length, get_or, take, drop, Option, Some, None, Result, Ok, Err, refl, sym, ap, ◌∙◌, arith, drop-cons, rules}
use Rattle.std.specs.Prelude.{unwrap_or}
use Rattle.std.specs.List.{position}
use Rattle.std.proofs.lemmas.Grind.{common_steps}
use Rattle.std.proofs.lemmas.List.{append-nil, nil_from_length}
use Rattle.std.proofs.lemmas.List.Quantifiers.{position-Some}
use Rattle.std.proofs.lemmas.List.Sums.{fails_before_first}
use Rattle.nix_drv.specs.declared.fault.ParseFault.{ParseFault}
use Rattle.nix_drv.specs.declared.fault.ParseFault.TheVariants.{NoMemory, Left}
use Rattle.nix_drv.specs.Strings.{is_plain}
use Rattle.nix_drv.specs.private.Reading.{◌>>=◌, before, fixed_at, escape_at, byte_at, bytes_at}
use Rattle.nix_drv.specs.private.ParseFaults.{Fails}
use Rattle.nix_drv.proofs.Steps.{before_none, before-before}
use Rattle.nix_drv.proofs.Strings.{IsPlain, by_byte, by_letter, bytes_at-plain, bytes_at-refused}

-- ---- fixed bytes

pub fixed_ends : (wanted rest : List ℕ) (i : ℕ) → i < length wanted → length rest < 1
    → fixed_at (drop i wanted) rest ≡ Err 0
fixed_ends wanted rest i lt short =
    let none : rest ≡ [] = nil_from_length _ (omega arith) in
    rw (none, drop-cons wanted i 0) refl

-- ---- runs of plain bytes

pub is_plain-true : (b : ℕ) → is_plain b ≡ true → IsPlain b
is_plain-true = search (rules, by_byte)

-- a run of plain bytes is read as itself
pub bytes_at-run : (n : ℕ) (s : List ℕ) → n ≤ length s
    → ((k : ℕ) → k < n → is_plain (get_or s k 0) ≡ true) → bytes_at false s
    ≡ before (take n s) (bytes_at false (drop n s))
bytes_at-run zero s fits plain = sym (before_none _)
bytes_at-run (suc n) [] fits plain = absurd (omega arith)
bytes_at-run (suc n) (b ∷ s) fits plain =
    let later : bytes_at false s ≡ before (take n s) (bytes_at _ (drop n s)) =
    bytes_at-run n s (omega arith) (λ k lt. plain (suc k) (omega arith)) in
    bytes_at-plain b s (is_plain-true b (plain 0 (omega arith))) ∙ ap (before (b ∷ [])) later
    ∙ before-before (b ∷ []) _ _

pub run_read : (items rest : List ℕ) (n : ℕ) (total : Result (List ℕ × List ℕ) ℕ) → n ≤ length rest
    → ((k : ℕ) → k < n → is_plain (get_or rest k 0) ≡ true)
    → before items (bytes_at false rest) ≡ total
    → before (items ++ take n rest) (bytes_at false (drop n rest)) ≡ total
run_read items rest n total fits plain so_far =
    sym (before-before _ _ _) ∙ ap (before items) (sym (bytes_at-run n _ fits plain)) ∙ so_far

-- ---- one byte by its spelling

-- the bytes that follow one that was read
abbrev follow : Option ℕ → List ℕ → Result (List ℕ × List ℕ) ℕ
follow None s = Ok ([], s)
follow (Some b) s = before (b ∷ []) (bytes_at false s)

escape_open : (s : List ℕ) → bytes_at true s ≡ (escape_at s >>= λ x. follow x.0 x.1)
unfolding bytes_at
escape_open [] = refl
escape_open (letter ∷ s) = search (rules, by_letter, follow, bytes_at-refused)

byte_at-plain : (b : ℕ) (s : List ℕ) → IsPlain b → byte_at (b ∷ s) ≡ Ok (Some b, s)
byte_at-plain b s plain = search rules

bytes_open : (s : List ℕ) → bytes_at false s ≡ (byte_at s >>= λ x. follow x.0 x.1)
unfolding bytes_at
bytes_open [] = refl
bytes_open (b ∷ s) = search (rules, by_byte, follow, escape_open, bytes_at-plain, byte_at-plain)

abbrev following : Result (Option ℕ × List ℕ) ℕ → Result (List ℕ × List ℕ) ℕ
following r = r >>= λ x. follow x.0 x.1

-- no byte was read, and so no string
pub byte_fails : (stop : ParseFault) (items s : List ℕ) (total : Result (List ℕ × List ℕ) ℕ)
    → before items (bytes_at false s) ≡ total → Fails stop (byte_at s) → Fails stop total
byte_fails NoMemory items s total so_far fails = tt
byte_fails (Left left) items s total so_far fails = search (rules, bytes_open, following)

-- one more byte
pub byte_more : (items s : List ℕ) (b : ℕ) (rest : List ℕ) (total : Result (List ℕ × List ℕ) ℕ)
    → before items (bytes_at false s) ≡ total → byte_at s ≡ Ok (Some b, rest)
    → before (items ++ b ∷ []) (bytes_at false rest) ≡ total
byte_more items s b rest total so_far e = search (rules, before-before, bytes_open, following)

-- the last quote
pub byte_none : (items s rest : List ℕ) (total : Result (List ℕ × List ℕ) ℕ)
    → before items (bytes_at false s) ≡ total → byte_at s ≡ Ok (None, rest) → total
    ≡ Ok (items, rest)
byte_none items s rest total so_far e = search (rules, bytes_open, following, append-nil)

-- ---- where a run ends

-- the first offset at which a test passes, or the end
pub first_within : (test : ℕ → Bool) (s : List ℕ) (n : ℕ) (offset : Option ℕ) → offset
    ≡ position test s → n ≡ unwrap_or offset (length s) → n ≤ length s
first_within test s n None e is = omega arith
first_within test s n (Some i) e is = search (rules, position-Some)

none_within : (test : ℕ → Bool) (s : List ℕ) → position test s ≡ None → (k : ℕ) → k < length s
    → test (get_or s k 0) ≡ false
none_within test s e k lt = search (rules, common_steps, fails_before_first)

pub none_before : (test : ℕ → Bool) (s : List ℕ) (n : ℕ) (offset : Option ℕ) → offset
    ≡ position test s → n ≡ unwrap_or offset (length s) → (k : ℕ) → k < n → test (get_or s k 0)
    ≡ false
none_before test s n None e is k lt = none_within test s (sym e) k (omega arith)
none_before test s n (Some i) e is k lt = let at = position-Some test s i 0 (sym e)
    in at.2 k (omega arith)

pub passes_there : (test : ℕ → Bool) (s : List ℕ) (n : ℕ) (offset : Option ℕ) → offset
    ≡ position test s → n ≡ unwrap_or offset (length s) → n < length s → test (get_or s n 0) ≡ true
passes_there test s n None e is lt = absurd (omega arith)
passes_there test s n (Some i) e is lt = search (rules, position-Some)
