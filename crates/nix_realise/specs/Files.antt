-- What the program makes of the system's answers on a file.
use Rattle.std.specs.Prelude.{◌≡◌, ◌≤◌, ℕ, [], Option, Some, None, Result, Ok, Err, IfOk, length}
use Rattle.std.specs.Fs.{IsFile, IsSymlink, file_type, metadata_mode, permissions_mode}
use Rattle.std.specs.Global.{Vec}
use Rattle.std.specs.declared.fs.FileType.{FileType}
use Rattle.std.specs.declared.fs.Metadata.{Metadata}
use Rattle.std.specs.declared.fs.Permissions.{Permissions}
use Rattle.std.specs.declared.io.Error.{Error}
use Rattle.process_build.specs.Errors.{IsFailure, IsNotFound}
use Rattle.process_build.specs.declared.failures.Failure.{Failure}
use Rattle.process_build.specs.declared.failures.Failure.TheVariants as failure
use Rattle.nix_names.specs.Bytes.{Bytes}
use Rattle.nix_realise.specs.declared.io.files.FileFault.{FileFault}
use Rattle.nix_realise.specs.declared.io.files.FileFault.TheVariants.{NoMemory, Unreadable}
use Rattle.nix_realise.specs.declared.io.files.FileRead.{FileRead}

-- why a file gives no bytes, by this failure: all failures but want of memory are one fault
abbrev pub file_fault_of : Failure → FileFault
file_fault_of failure.NoMemory = NoMemory
file_fault_of failure = Unreadable

-- whether what lies at a path is a regular file, which alone is accepted
abbrev pub IsRegular : FileType → Result (Unit {0}) Failure → Type 0
IsRegular found (Ok done) = IsFile found
IsRegular found (Err fault) = (fault ≡ failure.Other) × ¬ (IsFile found)

-- what a file gave: its bytes, or why it gave no bytes
abbrev pub FileBytes : Type 0
FileBytes = Result Bytes FileFault

-- what a file gave, from the machine vector of its bytes
abbrev pub file_bytes : Result (Vec ℕ) FileFault → FileBytes
file_bytes (Ok bytes) = Ok bytes.items
file_bytes (Err fault) = Err fault

-- what a file gave that has to be there, by the system's answer
abbrev pub needed_by : Result (Vec ℕ) Failure → FileBytes
needed_by (Ok bytes) = Ok bytes.items
needed_by (Err fault) = Err (file_fault_of fault)

-- what the journal file gave, by the system's answer; where it isn't found it has no bytes
abbrev pub journal_by : Result (Vec ℕ) Failure → FileBytes
journal_by (Ok bytes) = Ok bytes.items
journal_by (Err failure.NotFound) = Ok []
journal_by (Err fault) = Err (file_fault_of fault)

-- what a file gave that has to be there
abbrev pub needed_bytes : FileRead → FileBytes
needed_bytes given = needed_by given.bytes

-- what the journal file gave
abbrev pub journal_bytes : FileRead → FileBytes
journal_bytes given = journal_by given.bytes

-- the file at this path was read, and at most so many of its bytes
abbrev pub IsReadFrom : (path : Bytes) → (most : ℕ) → FileRead → Type 0
IsReadFrom path most given =
    (given.path.now ≡ path) × (given.most ≡ most) × IfOk given.bytes (λ b. length b.items ≤ most)

-- What lies in the place of a file that will be written: a regular file, with its permissions, or a
-- link, without any. Nothing else can be written over.
abbrev pub IsWritableOver : Metadata → Result (Option Permissions) Failure → Type 0
IsWritableOver found (Ok (Some mode)) =
    IsFile (file_type found) × (permissions_mode mode ≡ metadata_mode found)
IsWritableOver found (Ok None) = IsSymlink (file_type found)
IsWritableOver found (Err fault) =
    (fault ≡ failure.Other) × ¬ (IsFile (file_type found)) × ¬ (IsSymlink (file_type found))

-- What lies there by an error of the system: nothing, exactly where the error is that nothing is
-- found. Every other error is a failure.
abbrev pub IsNothingThere : Error → Result (Option Permissions) Failure → Type 0
IsNothingThere error (Ok (Some mode)) = ⊥
IsNothingThere error (Ok None) = IsNotFound error
IsNothingThere error (Err fault) = ¬ (IsNotFound error) × IsFailure error fault
