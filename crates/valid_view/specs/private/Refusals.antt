-- Why a view could not be opened, or could not show what waits, and which fault is answered.
use Rattle.std.specs.Prelude.{List}
use Rattle.logbook.specs.Pages.{Book}
use Rattle.valid_table.specs.declared.entry.Entry.{Entry}
use Rattle.valid_table.specs.declared.fault.OutletFault.{OutletFault}
use Rattle.valid_table.specs.declared.fault.OutletFault.TheVariants as fault
use Rattle.valid_view.specs.Prefixes.{Hinders}
use Rattle.valid_view.specs.declared.refusal.OpenFault.{OpenFault}
use Rattle.valid_view.specs.declared.refusal.OpenFault.TheVariants as opening
use Rattle.valid_view.specs.declared.refusal.FeedFault.{FeedFault}
use Rattle.valid_view.specs.declared.refusal.FeedFault.TheVariants.{NoMemory, Hindered, TooManyReaders}

-- the fault that is answered for a refusal where a view was to be opened
abbrev pub opened_as : FeedFault → OpenFault
opened_as NoMemory = opening.NoMemory
opened_as (Hindered found) = opening.NoView (record { refusal = Hindered found })
opened_as (TooManyReaders error) = opening.NoView (record { refusal = TooManyReaders error })

-- the fault that is answered for a refusal where entries were to be shown
abbrev pub told_as : FeedFault → OutletFault
told_as NoMemory = fault.NoMemory
told_as (Hindered found) = fault.NoView
told_as (TooManyReaders error) = fault.NoView

-- what a refusal means where entries were to be shown, and these are known of the list with this
-- name: memory was refused, or that list went on or is full
abbrev pub IsShowRefused : Book → List Entry → FeedFault → Type 0
IsShowRefused book known NoMemory = Unit {0}
IsShowRefused book known (Hindered found) = Hinders book known found
IsShowRefused book known (TooManyReaders error) = ⊥
