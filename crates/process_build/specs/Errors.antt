-- What an error of the system means for this program (the documentation of std, `io::Error`).
use Rattle.std.specs.Prelude.{◌≡◌, ◌↔◌, None}
use Rattle.std.specs.IoError.{error_kind, raw_os_error}
use Rattle.std.specs.declared.io.Error.{Error}
use Rattle.std.specs.declared.io.ErrorKind.TheVariants as kind
use Rattle.process_build.specs.declared.failures.Failure.{Failure}
use Rattle.process_build.specs.declared.failures.Failure.TheVariants.{NoMemory, NotFound, Taken}

-- the error is the program's own want of memory, and not a fault of the system
abbrev pub IsNoMemory : Error → Type 0
IsNoMemory error = (error_kind error ≡ kind.OutOfMemory) × (raw_os_error error ≡ None)

-- nothing is found at the path
abbrev pub IsNotFound : Error → Type 0
IsNotFound error = error_kind error ≡ kind.NotFound

-- something lies at the path already
abbrev pub IsOccupied : Error → Type 0
IsOccupied error = error_kind error ≡ kind.AlreadyExists

-- a signal interrupted the call, which did nothing
abbrev pub IsInterruption : Error → Type 0
IsInterruption error = error_kind error ≡ kind.Interrupted

-- what an error means: each of these three failures exactly for its kind, and `Other` for every
-- other error
abbrev pub IsFailure : Error → Failure → Type 0
IsFailure error failure =
    ((failure ≡ NoMemory) ↔ IsNoMemory error) × ((failure ≡ NotFound) ↔ IsNotFound error)
    × ((failure ≡ Taken) ↔ IsOccupied error)
