-- What is answered when a builder has ended, and what may be a part of its outputs.
use Rattle.std.specs.Prelude.{◌≡◌, ◌≢◌, ◌⊎◌, ℕ, Bool, true, false, ⊤, bit_and, Option, Some, None, Result, Ok, Err}
use Rattle.std.specs.Fs.{IsDir, IsFile, IsSymlink}
use Rattle.std.specs.Process.{exit_code}
use Rattle.std.specs.declared.fs.FileType.{FileType}
use Rattle.std.specs.declared.io.Error.{Error}
use Rattle.drv_graph.specs.declared.profile.Profile.{Profile}
use Rattle.drv_graph.specs.declared.profile.Profile.TheVariants.{Nix}
use Rattle.process_build.specs.Errors.{IsNoMemory, IsNotFound}
use Rattle.process_build.specs.declared.process.process_end.EndedBuild.{EndedBuild}
use Rattle.process_build.specs.declared.disk.outputs.FileKind.{FileKind}
use Rattle.process_build.specs.declared.disk.outputs.FileKind.TheVariants as kind
use Rattle.process_build.specs.declared.walk.fault.Halt.{Halt}
use Rattle.process_build.specs.declared.walk.fault.Halt.TheVariants as halt
use Rattle.process_build.specs.declared.walk.fault.WalkFault.{WalkFault}
use Rattle.process_build.specs.declared.walk.fault.WalkFault.TheVariants.{NoMemory, Unreadable}
use Rattle.ref_scan.specs.declared.tree.Tree.{Tree, Pieces, Executable, Link, Dir'}
use Rattle.build_outcome.specs.declared.job.Answer.{Answer}
use Rattle.build_outcome.specs.declared.reason.Reason.{Reason}
use Rattle.build_outcome.specs.declared.reason.Reason.TheVariants.{NoStart, OutOfMemory, ReadFault, TooLarge}

-- the answer of what a builder left behind: the exit status of its process, and what lies at the
-- outputs' paths
abbrev pub answer_of : EndedBuild → Answer
answer_of left = record { status = exit_code left.ended.status; outputs = left.outputs }

-- whether a builder may have run, by what it left, or by the reason why it left nothing
abbrev pub may_have_run : {L : Type 0} → Result L Reason → Bool
may_have_run (Ok left) = true
may_have_run (Err NoStart) = false
may_have_run (Err OutOfMemory) = false
may_have_run (Err reason) = true

-- why there is no room for a builder
abbrev pub IsRoomFault : Reason → Type 0
IsRoomFault reason = (reason ≡ OutOfMemory) ⊎ (reason ≡ NoStart)

-- why a builder doesn't start, or why it can't be waited for
abbrev pub IsRunFault : Reason → Type 0
IsRunFault reason = (reason ≡ OutOfMemory) ⊎ (reason ≡ NoStart) ⊎ (reason ≡ ReadFault)

-- why outputs can't be read
abbrev pub IsReadingFault : Reason → Type 0
IsReadingFault reason = (reason ≡ OutOfMemory) ⊎ (reason ≡ ReadFault) ⊎ (reason ≡ TooLarge)

-- the kind of a file, by its mode
abbrev pub type_in : (mode : ℕ) → FileType
type_in mode = record { bits = bit_and mode 0o170000 }

-- the owner of a file may execute it, by its mode
abbrev pub IsExecutable : (mode : ℕ) → Type 0
IsExecutable mode = bit_and mode 0o100 ≢ 0

-- the group of a file or a folder, or others, may write it, by its mode: one of the bits 0022 is
-- set (Nix 2.8, `local-derivation-goal.cc`: `registerOutputs`). The mode of a symbolic link says
-- nothing.
abbrev pub OthersMayWrite : (mode : ℕ) → Type 0
OthersMayWrite mode = (bit_and mode 0o022 ≢ 0) × ¬ (IsSymlink (type_in mode))

-- the part of an output that lies at a path, by its mode: a file, a folder, or under `nix` a
-- symbolic link; anything else is a read fault. Under `nix` a file that its owner may execute is
-- told from others.
abbrev pub IsKindAt : Profile → (mode : ℕ) → Result FileKind Reason → Type 0
IsKindAt profile mode (Ok kind.File) = IsFile (type_in mode)
    × (profile ≡ Nix → ¬ (IsExecutable mode))
IsKindAt profile mode (Ok kind.Executable) = IsFile (type_in mode) × (profile ≡ Nix)
    × IsExecutable mode
IsKindAt profile mode (Ok kind.Folder) = IsDir (type_in mode)
IsKindAt profile mode (Ok kind.Link) = IsSymlink (type_in mode) × (profile ≡ Nix)
IsKindAt profile mode (Err reason) =
    (reason ≡ ReadFault) × ¬ (IsFile (type_in mode)) × ¬ (IsDir (type_in mode))
    × ¬ (IsSymlink (type_in mode) × (profile ≡ Nix))

-- the kind of what lies at a path where something does, though the answer may be that nothing does
abbrev pub IsKindOf : Profile → (mode : ℕ) → Result (Option FileKind) Reason → Type 0
IsKindOf profile mode (Ok (Some part)) = IsKindAt profile mode (Ok part)
IsKindOf profile mode (Ok None) = ⊥
IsKindOf profile mode (Err reason) = IsKindAt profile mode (Err reason)

-- what is read of a part of an output: a file's pieces, a folder's members, a link's own target
abbrev pub IsReadAs : FileKind → Tree → Type 0
IsReadAs kind.File (Pieces parts) = ⊤
IsReadAs kind.Executable (Executable parts) = ⊤
IsReadAs kind.Folder (Dir' shape members) = ⊤
IsReadAs kind.Link (Link target) = ⊤
IsReadAs part tree = ⊥

-- what lies at a path by an error of the system: nothing, exactly where the error is that nothing
-- is found; else want of memory or a read fault
abbrev pub IsNoKind : Error → Result (Option FileKind) Reason → Type 0
IsNoKind error (Ok (Some kind)) = ⊥
IsNoKind error (Ok None) = IsNotFound error
IsNoKind error (Err reason) =
    ¬ (IsNotFound error) × (IsNoMemory error → reason ≡ OutOfMemory)
    × (¬ (IsNoMemory error) → reason ≡ ReadFault)

-- the reason of a fault in the walk over an output
abbrev pub fault_reason : WalkFault → Reason
fault_reason NoMemory = OutOfMemory
fault_reason Unreadable = ReadFault

-- the reason of the end of a walk over an output that isn't told to its end
abbrev pub halt_reason : Halt → Reason
halt_reason (halt.Fault fault) = fault_reason fault
halt_reason halt.TooLarge = TooLarge
