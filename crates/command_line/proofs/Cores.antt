-- The number of processors among what was found.
use Rattle.std.proofs.Common.{◌≡◌, refl, subst, ℕ, List, Option, Some, None, Result, Ok, Err, arith}
use Rattle.std.specs.Prelude.{IfSome, codes, find, option_and_then, option_map, slice_get}
use Rattle.std.specs.Str.{bytes_eq}
use Rattle.std.specs.Str.Parse.{ParsesUnsigned}
use Rattle.clap.specs.Values.{IsUnsignedIn, read_as}
use Rattle.clap.specs.Matches.{ReadsOne}
use Rattle.clap.specs.Walk.{Row, Text, one_of, row_text}
use Rattle.clap.specs.Words.{first_of}
use Rattle.clap.specs.declared.builder.value_parser.Reading.TheVariants.{AsWritten}
use Rattle.command_line.specs.private.Found.{HasCores, IsCoresRow}
use Rattle.command_line.specs.Requests.{AreCores}

-- the number that is read from what was found is the number of processors
pub cores_read : (E : Type 0) (G : List ℕ → Result ℕ E → Type 0) (rows : List Row) (o : Option ℕ)
    → ((u : List ℕ) (x : Result ℕ E) → G u x → ParsesUnsigned 16 10 u x) → HasCores rows
    → (one_of (codes "cores") rows ≡ None → o ≡ None)
    → ((t : List ℕ) → one_of (codes "cores") rows ≡ Some t → ReadsOne G t o)
    → AreCores (first_of (codes "cores") rows) o
cores_read E G rows o only has none some =
    at_row (find (λ r. bytes_eq r.id (codes "cores")) rows) has none some
  where
    read_one : (t : List ℕ) (o : Option ℕ) → IsUnsignedIn 0 65535 t → ReadsOne G t o
        → AreCores (Some t) o
    read_one t (Some v) passed read =
        let parsed = only t (Ok v) read in
        ((passed.0, parsed.1), rw parsed.1 passed.3)
    read_one t None passed read =
        absurd (only t (Err read.0) read.1 (passed.0, omega (arith, passed.3)))

    missing : (o : Option ℕ) → o ≡ None → AreCores None o
    missing o e = rw e tt

    at_value : (r : Row) (v : Option Text) → r.reading ≡ AsWritten
        → IfSome v (IsUnsignedIn 0 65535)
        → (option_map (read_as r.reading) v ≡ None → o ≡ None)
        → ((t : List ℕ) → option_map (read_as r.reading) v ≡ Some t → ReadsOne G t o)
        → AreCores v o
    at_value r None reading passed none some = missing o (none refl)
    at_value r (Some v) reading passed none some =
        read_one v o passed
        (subst (λ how. ReadsOne G (read_as how v) o) reading (some (read_as r.reading v) refl))

    at_row : (found : Option Row) → IfSome found IsCoresRow
        → (option_and_then row_text found ≡ None → o ≡ None)
        → ((t : List ℕ) → option_and_then row_text found ≡ Some t → ReadsOne G t o)
        → AreCores (option_and_then (λ r. slice_get r.values 0) found) o
    at_row None is none some = missing o (none refl)
    at_row (Some r) is none some = at_value r (slice_get r.values 0) is.0 is.1 none some
