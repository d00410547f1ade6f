-- The usage faults of words that `clap` takes: of one that is no profile, and of those that give
-- builtin builders their programs (this product's own).
use Rattle.std.specs.Prelude.{◌≡◌, ◌⊎◌, List, Option, Some, None, codes}
use Rattle.clap.specs.Words.{Row}
use Rattle.clap.specs.declared.error.kind.ErrorKind.{ErrorKind}
use Rattle.clap.specs.declared.error.kind.ErrorKind.TheVariants.{InvalidValue}
use Rattle.nix_names.specs.Bytes.{Bytes, Name}
use Rattle.drv_graph.specs.declared.profile.Profile.{Profile}
use Rattle.command_line.specs.Builtins.{IsBuiltinFault}
use Rattle.command_line.specs.Requests.{NamesNoProfile, NamesProfile, profile_in, words_in}

-- a word in the place of a profile
abbrev pub IsProfileFault : (text : Bytes) → ErrorKind → Type 0
IsProfileFault text kind = (kind ≡ InvalidValue) × NamesNoProfile text

-- the words of `plan` and of `realise`: the one in the place of a profile; or that one names a
-- profile, and those that give programs
abbrev pub IsRunFault : List Row → ErrorKind → Type 0
IsRunFault rows kind =
    IsProfileFault (profile_in rows) kind
    ⊎ (((profile : Profile) × NamesProfile (profile_in rows) profile)
    × IsBuiltinFault (words_in (codes "builtin") rows) kind)

-- the wrong word of the subcommand with this name and these words and options
abbrev pub IsWordFaultBy : (name : Name) → List Row → ErrorKind → Type 0
IsWordFaultBy name rows kind =
    (((name ≡ codes "add-text") ⊎ (name ≡ codes "add-drv"))
    × IsProfileFault (profile_in rows) kind)
    ⊎ (((name ≡ codes "plan") ⊎ (name ≡ codes "realise")) × IsRunFault rows kind)

-- the wrong word of the subcommand that was found, if there is one
abbrev pub IsWordFaultIn : Option (Name × List Row) → ErrorKind → Type 0
IsWordFaultIn None kind = ⊥
IsWordFaultIn (Some (name, rows)) kind = IsWordFaultBy name rows kind
