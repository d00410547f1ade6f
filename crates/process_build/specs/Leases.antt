-- The leases of a run: since when one runs, and which of them runs longest.
use Rattle.std.specs.Prelude.{◌≡◌, ◌⊎◌, ◌<◌, ◌≤◌, ◌-◌, ℕ, ◌==◌, not, List, [], ◌∷◌, ◌++◌, All, Contains, Option, Some, None, filter, length, take}
use Rattle.nix_names.specs.Bytes.{Name, Path}
use Rattle.nix_names.specs.StorePaths.{name_of}
use Rattle.process_build.specs.declared.process.lease.RunningLease.{RunningLease}

-- the lease has this number, and is of the derivation at this path since this time
abbrev pub IsRunning : (drv : Option Path) → (number start : ℕ) → RunningLease → Type 0
IsRunning (Some drv) number start running =
    running ≡ record { path = drv; number = number; start = start }
IsRunning None number start running = ⊥

-- the name of the derivation at a path: the name of its file without the last four bytes, `.drv`
abbrev pub drv_name : Path → Name
drv_name path = take (length (name_of path) - 4) (name_of path)

-- a lease began before another, or at the same time with a number that isn't greater
abbrev pub IsBefore : RunningLease → RunningLease → Type 0
IsBefore one other =
    (one.start < other.start) ⊎ ((one.start ≡ other.start) × (one.number ≤ other.number))

-- the lease is the one of these that runs longest
abbrev pub RunsLongest : List RunningLease → RunningLease → Type 0
RunsLongest running one = Contains running one × All (IsBefore one) running

-- the leases, and one more, or it is not known
abbrev pub HasMaybe : List RunningLease → RunningLease → List RunningLease → Type 0
HasMaybe before lease after = (after ≡ before ++ lease ∷ []) ⊎ (after ≡ before)

-- the leases with another number
abbrev pub others_than : ℕ → List RunningLease → List RunningLease
others_than number leases = filter (λ one. not (one.number == number)) leases
