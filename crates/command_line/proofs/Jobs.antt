-- The number of builders among what was found.
use Rattle.std.proofs.Common.{◌≡◌, ◌==◌, refl, subst, ℕ, Bool, true, false, List, [], ◌∷◌, Option, Some, None, Result, Ok, Err, cond, drop, unwrap_or, arith, pos}
use Rattle.std.specs.Prelude.{IfSome, codes, find, option_and_then, option_map, slice_get}
use Rattle.std.specs.Str.{bytes_eq}
use Rattle.std.specs.Str.Parse.{ParsesUnsigned, starts_with_minus}
use Rattle.std.proofs.lemmas.Int.{ints}
use Rattle.clap.specs.Lexer.{without_minus}
use Rattle.clap.specs.Values.{IsSignedIn, read_as}
use Rattle.clap.specs.Matches.{ReadsOne}
use Rattle.clap.specs.Walk.{Row, Text, one_of, row_text}
use Rattle.clap.specs.declared.builder.value_parser.Reading.TheVariants.{WithoutMinus}
use Rattle.command_line.specs.private.Found.{HasJobs, IsJobsRow}
use Rattle.command_line.specs.Requests.{AreJobs, jobs_in}

without_minus-cond : (t : List ℕ) → without_minus t ≡ cond (starts_with_minus t) (drop 1 t) t
without_minus-cond [] = refl
without_minus-cond (x ∷ xs) = go (x == 45)
  where
    go : (b : Bool) → unwrap_or (cond b (Some xs) None) (x ∷ xs) ≡ cond b xs (x ∷ xs)
    go true = refl
    go false = refl

-- a text that passed the range reads as its number
read_in : (E : Type 0) (G : List ℕ → Result ℕ E → Type 0) (t : List ℕ) (o : Option ℕ) (d : ℕ)
    → ((u : List ℕ) (x : Result ℕ E) → G u x → ParsesUnsigned 8 10 u x)
    → ReadsOne G (without_minus t) o
    → IsSignedIn (pos 1) (pos 64) t → AreJobs t (unwrap_or o d)
read_in E G t o d only read passed =
    go (starts_with_minus t) refl o
    (subst (λ (u : List ℕ). ReadsOne G u o)
    (without_minus-cond t) read)
  where
    go : (b : Bool) → starts_with_minus t ≡ b → (o : Option ℕ)
        → ReadsOne G (cond (starts_with_minus t) (drop 1 t) t) o
        → AreJobs t (unwrap_or o d)
    go true minus o h =
        let low_ok = rw minus at passed.2 in
        absurd (omega (arith, ints))
    go false minus (Some v) h =
        let low_ok = rw minus at passed.2 in
        let high_ok = rw minus at passed.3 in
        let numeral = rw minus at passed.0 in
        let parsed = only t (Ok v) (rw minus at h) in
        ((numeral, parsed.1), (rw parsed.1 (omega (arith, ints)), rw parsed.1 (omega (arith, ints))))
    go false minus None h =
        let low_ok = rw minus at passed.2 in
        let high_ok = rw minus at passed.3 in
        let numeral = rw minus at passed.0 in
        absurd (only t (Err h.0) (rw minus at h.1) (numeral, omega (arith, ints)))

-- the default value
default_read : AreJobs (codes "1") 1
default_read = (((omega arith, (omega arith, tt)), refl), (omega arith, omega arith))

-- the number that is read from what was found is the number of builders
pub jobs_read : (E : Type 0) (G : List ℕ → Result ℕ E → Type 0) (rows : List Row) (o : Option ℕ)
    → ((u : List ℕ) (x : Result ℕ E) → G u x → ParsesUnsigned 8 10 u x) → HasJobs rows
    → (one_of (codes "jobs") rows ≡ None → o ≡ None)
    → ((t : List ℕ) → one_of (codes "jobs") rows ≡ Some t
    → ReadsOne G t o)
    → AreJobs (jobs_in rows) (unwrap_or o 1)
jobs_read E G rows o only has none some =
    at_row (find (λ r. bytes_eq r.id (codes "jobs")) rows) has none some
  where
    missing : (o : Option ℕ) → o ≡ None → AreJobs (codes "1") (unwrap_or o 1)
    missing o e = rw e default_read

    at_value : (r : Row) (v : Option Text) → r.reading ≡ WithoutMinus
        → IfSome v (IsSignedIn (pos 1) (pos 64))
        → (option_map (read_as r.reading) v ≡ None → o ≡ None)
        → ((t : List ℕ) → option_map (read_as r.reading) v ≡ Some t
        → ReadsOne G t o)
        → AreJobs (unwrap_or v (codes "1")) (unwrap_or o 1)
    at_value r None reading passed none some = missing o (none refl)
    at_value r (Some v) reading passed none some =
        read_in E G v o 1 only
        (subst (λ how. ReadsOne G (read_as how v) o) reading
        (some (read_as r.reading v) refl)) passed

    at_row : (found : Option Row) → IfSome found IsJobsRow
        → (option_and_then row_text found ≡ None → o ≡ None)
        → ((t : List ℕ) → option_and_then row_text found ≡ Some t
        → ReadsOne G t o)
        → AreJobs
        (unwrap_or (option_and_then (λ r. slice_get r.values 0) found) (codes "1"))
        (unwrap_or o 1)
    at_row None is none some = missing o (none refl)
    at_row (Some r) is none some = at_value r (slice_get r.values 0) is.0 is.1 none some
