-- What `clap` found where it finds no fault in the words of a command line.
use Rattle.std.specs.Prelude.{◌≡◌, ◌⊎◌, List, Option, Some, None, IfSome, codes, find, pos, slice_get}
use Rattle.std.specs.Str.{bytes_eq}
use Rattle.clap.specs.Words.{IsSignedIn, IsUnsignedIn, Row}
use Rattle.clap.specs.declared.builder.value_parser.Reading.TheVariants.{AsWritten, WithoutMinus}
use Rattle.nix_names.specs.Bytes.{Name}

-- one of the subcommands has this name
abbrev pub IsSubcommand : Name → Type 0
IsSubcommand name =
    (name ≡ codes "check") ⊎ ((name ≡ codes "add-text") ⊎ ((name ≡ codes "add-drv")
    ⊎ ((name ≡ codes "plan") ⊎ ((name ≡ codes "realise") ⊎ ((name ≡ codes "dump")
    ⊎ ((name ≡ codes "restore") ⊎ ((name ≡ codes "hash") ⊎ (name ≡ codes "verify"))))))))

-- the first value is a whole number from 1 to 64, and is read as one
abbrev pub IsJobsRow : Row → Type 0
IsJobsRow row =
    (row.reading ≡ WithoutMinus)
    × IfSome (slice_get row.values 0) (IsSignedIn (pos 1) (pos 64))

-- the option with the number of builders, if it is among what was found, has such a value
abbrev pub HasJobs : List Row → Type 0
HasJobs rows = IfSome (find (λ r. bytes_eq r.id (codes "jobs")) rows) IsJobsRow

-- the first value is a whole number to 65,535, and is read as it is written
abbrev pub IsCoresRow : Row → Type 0
IsCoresRow row =
    (row.reading ≡ AsWritten) × IfSome (slice_get row.values 0) (IsUnsignedIn 0 65535)

-- the option with the number of processors, if it is among what was found, has such a value
abbrev pub HasCores : List Row → Type 0
HasCores rows = IfSome (find (λ r. bytes_eq r.id (codes "cores")) rows) IsCoresRow

-- a subcommand was found, with such values
abbrev pub IsFound : Option (Name × List Row) → Type 0
IsFound None = ⊥
IsFound (Some (name, rows)) = IsSubcommand name × HasJobs rows × HasCores rows
