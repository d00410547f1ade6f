-- Why the words of a command line are taken or not: what `clap` finds in them (the documentation of
-- clap 4, `Command::try_get_matches_from`).
use Rattle.std.specs.Prelude.{◌≡◌, ◌⊎◌, List, [], ◌∷◌, codes}
use Rattle.clap.specs.Faults.{fault_of}
use Rattle.clap.specs.Kinds.{IsAmong, Kinds}
use Rattle.clap.specs.Words.{subcommand_of}
use Rattle.clap.specs.declared.error.kind.ErrorKind.{ErrorKind}
use Rattle.clap.specs.declared.error.kind.ErrorKind.TheVariants.{OutOfMemory}
use Rattle.nix_names.specs.Bytes.{Bytes}
use Rattle.command_line.specs.CommandLine.{command_line}
use Rattle.command_line.specs.Profiles.{IsWordFaultIn}
use Rattle.command_line.specs.Requests.{IsRequest}
use Rattle.command_line.specs.declared.options.Request.{Request}
use Rattle.command_line.specs.declared.options.Request.TheVariants.{Faults}

-- the faults that `clap` finds in the words; a call for help or the version is among them
unfoldable pub faults_in : (words : List Bytes) → Kinds
faults_in words = fault_of command_line words

-- the words ask for the table of faults: after the program's own name they are `help faults` (this
-- product's own)
abbrev pub AskForFaults : (words : List Bytes) → Type 0
AskForFaults words = (own : Bytes) × (words ≡ own ∷ codes "help" ∷ codes "faults" ∷ [])

-- The words ask for this: for the table of faults; or for something else, and have no fault.
abbrev pub IsAsked : (words : List Bytes) → Request → Type 0
IsAsked words request =
    (AskForFaults words × (request ≡ Faults))
    ⊎ (¬ AskForFaults words × IsRequest words request × (faults_in words ≡ []))

-- Why the words are not taken: `clap` finds a fault in them; or it finds none, and they name a
-- profile that is none, or give programs in a way that isn't taken; or memory is refused.
abbrev pub IsReadFault : (words : List Bytes) → ErrorKind → Type 0
IsReadFault words kind = (kind ≡ OutOfMemory) ⊎ (IsAmong kind (faults_in words)
    ⊎ (IsWordFaultIn (subcommand_of command_line words) kind × (faults_in words ≡ [])))

-- why the words are not taken, which do not ask for the table of faults
abbrev pub IsUsageFault : (words : List Bytes) → ErrorKind → Type 0
IsUsageFault words kind = ¬ AskForFaults words × IsReadFault words kind
