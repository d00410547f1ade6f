-- The numbers of the faults of a reader, and of opening a view.
use Rattle.std.specs.Prelude.{ℕ}
use Rattle.valid_view.specs.declared.fault.ViewFault.{ViewFault}
use Rattle.valid_view.specs.declared.refusal.OpenFault.{OpenFault}
use Rattle.valid_view.specs.declared.refusal.OpenFault.TheVariants as opening
use Rattle.valid_view.specs.declared.fault.ViewFault.TheVariants.{NoMemory, NotValid, NoView}

-- a fault's number
abbrev pub number_of : ViewFault → ℕ
number_of NoMemory = 9
number_of (NotValid path) = 34
number_of (NoView why) = 40

-- the number of a fault of opening
abbrev pub open_number_of : OpenFault → ℕ
open_number_of opening.NoMemory = 9
open_number_of (opening.NoView why) = 40
