-- What the matches of a subcommand say, by the rows of what was found.
use Rattle.std.proofs.Common.{◌≡◌, refl, ℕ, List, Option, Some, None}
use Rattle.std.specs.Prelude.{option_map}
use Rattle.clap.specs.Words.{Row, all_of, first_of, first_value, found_of, matched_of, raw_values}
use Rattle.clap.specs.Words.{rows_of, subcommand_name_of, subcommand_rows_of}
use Rattle.clap.specs.declared.parser.matches.ArgMatches.{ArgMatches}
use Rattle.clap.proofs.WalkLemmas.{first_value-rows, raw_values-rows}

pub first_row : (m : ArgMatches) (id : List ℕ)
    → first_value (found_of m) id ≡ first_of id (rows_of (found_of m))
first_row m id = first_value-rows (found_of m) id

pub all_row : (m : ArgMatches) (id : List ℕ)
    → option_map raw_values (matched_of (found_of m) id) ≡ all_of id (rows_of (found_of m))
all_row m id = raw_values-rows (found_of m) id

-- two parts of a value that is there, each by itself and together
parts_agree : (B X Y : Type 0) (found : Option B) (name : B → X) (rows : B → Y) (n : X) (r : Y)
    → Some n ≡ option_map name found
    → Some r
    ≡ option_map (λ (p : X × Y). p.1) (option_map {U = X × Y} (λ b. (name b, rows b)) found)
    → option_map {U = X × Y} (λ b. (name b, rows b)) found ≡ Some (n, r)
parts_agree B X Y None name rows n r a b = cc
parts_agree B X Y (Some found) name rows n r a b =
    let same_name : n ≡ name found = cc in
    let same_rows : r ≡ rows found = cc in
    rw (same_name, same_rows) refl

none_agrees : (B X Y : Type 0) (found : Option B) (name : B → X) (rows : B → Y)
    → None ≡ option_map name found → option_map rows found ≡ None
none_agrees B X Y None name rows e = refl
none_agrees B X Y (Some found) name rows e = cc

-- no subcommand was met
pub none_met : (m : ArgMatches) → None ≡ subcommand_name_of m → subcommand_rows_of m ≡ None
none_met m none = none_agrees _ _ _ _ _ _ none

-- the name and the rows of the subcommand that was met
pub met : (m : ArgMatches) (name : List ℕ) (rows : List Row)
    → Some name ≡ subcommand_name_of m
    → Some rows ≡ option_map (λ p. p.1) (subcommand_rows_of m)
    → subcommand_rows_of m ≡ Some (name, rows)
met m name rows a b = parts_agree _ _ _ _ _ _ name rows a b
