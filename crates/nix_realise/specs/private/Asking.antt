-- Why the paths that are named are not verified.
use Rattle.std.specs.Prelude.{List, Contains}
use Rattle.std.specs.Borrow.{Bor}
use Rattle.nix_names.specs.Bytes.{Bytes}
use Rattle.valid_table.specs.Entries.{registered}
use Rattle.valid_table.specs.Tables.{JournalValue}
use Rattle.valid_table.specs.Valid.{IsValid}
use Rattle.nix_realise.specs.declared.cli.run_error.RunError.{RunError}
use Rattle.nix_realise.specs.declared.cli.run_error.RunError.TheVariants.{NoMemory, NotValid}

-- a word is one of them, and no valid path
abbrev pub IsStrayWord : (words : List Bytes) → JournalValue → Bor Bytes → Type 0
IsStrayWord words journal word =
    Contains words word.now × ¬ (IsValid (registered journal.entries) word.now)

-- why the paths are not verified: a word is no valid path; or memory is refused
abbrev pub IsNotAsked : (words : List Bytes) → JournalValue → RunError → Type 0
IsNotAsked words journal (NotValid word) = IsStrayWord words journal word
IsNotAsked words journal NoMemory = Unit {0}
IsNotAsked words journal stop = ⊥
