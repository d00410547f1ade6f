-- What a run makes of the system's answers on the lock of its store folder, and of the look at the
-- database by which Nix manages a store.
use Rattle.std.specs.Prelude.{◌≡◌, ◌≢◌, ◌↔◌, ◌++◌, Bool, true, false, Option, Some, None, Result, Ok, Err, codes}
use Rattle.std.specs.Borrow.{Bor}
use Rattle.std.specs.IoError.{error_kind}
use Rattle.std.specs.Path.{path_with_file_name}
use Rattle.std.specs.declared.io.Error.{Error}
use Rattle.std.specs.declared.io.ErrorKind.TheVariants as kind
use Rattle.nix_names.specs.Bytes.{Bytes, Dir}
use Rattle.process_build.specs.Errors.{IsInterruption, IsNoMemory}
use Rattle.command_line.specs.declared.options.RealiseRequest.{RealiseRequest}
use Rattle.nix_realise.specs.declared.io.locks.Unlocked.{Unlocked}
use Rattle.nix_realise.specs.declared.io.locks.Unlocked.TheVariants.{NotOpened, Refused}
use Rattle.nix_realise.specs.declared.io.lock_file.LockRefusal.{LockRefusal}
use Rattle.nix_realise.specs.declared.io.lock_call.LockFault.{LockFault}
use Rattle.nix_realise.specs.declared.io.lock_call.LockFault.TheVariants.{Held, NoLock, Interrupted}
use Rattle.nix_realise.specs.declared.io.lock_call.LockFault.TheVariants as lock
use Rattle.nix_realise.specs.declared.io.nix_store.NotNixManaged.{NotNixManaged}
use Rattle.nix_realise.specs.declared.io.nix_store.DatabaseFinding.{DatabaseFinding}
use Rattle.nix_realise.specs.declared.io.nix_store.DatabaseFinding.TheVariants.{There, NotTold}
use Rattle.nix_realise.specs.declared.io.nix_store.DatabaseFinding.TheVariants as finding
use Rattle.nix_realise.specs.declared.cli.run_error.RunError.{RunError}
use Rattle.nix_realise.specs.declared.cli.run_error.RunError.TheVariants.{InUse, NixStore, NotLocked, NoMemory}

-- another process holds the lock
abbrev pub IsHeldElsewhere : Error → Type 0
IsHeldElsewhere error = error_kind error ≡ kind.WouldBlock

-- the file system knows no such lock
abbrev pub IsUnknownLock : Error → Type 0
IsUnknownLock error = error_kind error ≡ kind.Unsupported

-- what an error of a call for the lock means: each of these faults exactly for its kind, and
-- `Other` for every other error
abbrev pub IsLockFault : Error → LockFault → Type 0
IsLockFault error fault =
    ((fault ≡ Held) ↔ IsHeldElsewhere error) × ((fault ≡ NoLock) ↔ IsUnknownLock error)
    × ((fault ≡ Interrupted) ↔ IsInterruption error) × ((fault ≡ lock.NoMemory) ↔ IsNoMemory error)

-- what an error in opening or making the file means that is locked: never that another process
-- holds the lock, or that the file system knows none
abbrev pub IsOpenFault : Error → LockFault → Type 0
IsOpenFault error fault =
    (fault ≢ Held) × (fault ≢ NoLock)
    × ((fault ≡ Interrupted) ↔ IsInterruption error) × ((fault ≡ lock.NoMemory) ↔ IsNoMemory error)

-- why there is no lock
abbrev pub IsFaultOf : Unlocked → LockFault → Type 0
IsFaultOf (Refused refusal) fault = IsLockFault refusal.error fault
IsFaultOf (NotOpened error) fault = IsOpenFault error fault

-- A call for the lock gave this fault, for a reason that calls for this lock may have; or a signal
-- interrupted each call.
abbrev pub IsCallFault : (refuses : Unlocked → Type 0) → LockFault → Type 0
IsCallFault refuses Interrupted = Unit {0}
IsCallFault refuses fault = (why : Unlocked) × refuses why × IsFaultOf why fault

-- the file system knows no such lock: so said the error of a call for the lock
abbrev pub IsNoLock : (refuses : Unlocked → Type 0) → LockFault → Type 0
IsNoLock refuses fault = (refusal : LockRefusal) × refuses (Refused refusal)
    × IsUnknownLock refusal.error × (fault ≡ NoLock)

-- the path of the file that is locked for a store folder
abbrev pub lock_path : Dir → Bytes
lock_path dir = dir ++ codes "/.nix_realise-lock"

-- why there is no lock, if there is none
abbrev pub fault_in : {K : Type 0} → Result K LockFault → Option LockFault
fault_in (Ok lock) = None
fault_in (Err fault) = Some fault

-- whether another process holds the lock
abbrev pub is_held : {K : Type 0} → Result K LockFault → Bool
is_held (Err Held) = true
is_held answer = false

-- what ends a run that asked for the lock of this folder, and that is to wait or not; nothing where
-- it has the lock, or goes on without one
abbrev pub lock_stop : (dir : Bor Bytes) → (wait : Bool) → Option LockFault → Option RunError
lock_stop dir wait None = None
lock_stop dir wait (Some NoLock) = None
lock_stop dir wait (Some lock.NoMemory) = Some NoMemory
lock_stop dir false (Some Held) = Some (InUse dir)
lock_stop dir wait (Some fault) = Some (NotLocked dir)

-- what ended a run, if anything did
abbrev pub stop_in : {H : Type 0} → Result H RunError → Option RunError
stop_in (Ok held) = None
stop_in (Err stop) = Some stop

-- Why a run may not use its store folder: another run does, and it isn't to wait for that; the
-- system gives no lock; or memory is refused.
abbrev pub IsNotHeld : (dir : Bor Bytes) → (wait : Bool) → RunError → Type 0
IsNotHeld dir wait (InUse blamed) = (blamed ≡ dir) × (wait ≡ false)
IsNotHeld dir wait (NotLocked blamed) = blamed ≡ dir
IsNotHeld dir wait NoMemory = Unit {0}
IsNotHeld dir wait stop = ⊥

-- the path of the database by which Nix manages a store folder: that of the folder, and in place of
-- its last component `var/nix/db/db.sqlite` (the documentation of std, `Path::with_file_name`)
abbrev pub database_path : Dir → Bytes
database_path dir = path_with_file_name dir (codes "var/nix/db/db.sqlite")

-- whether `realise` may use its store folder, by the look at Nix's database: not where that is
-- there
abbrev pub IsAllowedBy : RealiseRequest → DatabaseFinding → Result NotNixManaged RunError → Type 0
IsAllowedBy request found (Ok allowed) =
    (found ≡ NotTold) × (allowed.dir ≡ request.run.store_dir)
IsAllowedBy request found (Err (NixStore blamed)) =
    (found ≡ There) × (blamed ≡ request.run.store_dir)
IsAllowedBy request found (Err NoMemory) = found ≡ finding.NoMemory
IsAllowedBy request found (Err stop) = ⊥

-- Why `realise` may not use its store folder: Nix manages it, and the run isn't to go on all the
-- same; or its lock isn't held.
abbrev pub IsKeptOut : RealiseRequest → RunError → Type 0
IsKeptOut request (NixStore blamed) =
    (blamed ≡ request.run.store_dir) × (request.in_nix_store ≡ false)
IsKeptOut request stop = IsNotHeld request.run.store_dir request.wait stop
