-- The numbers of reasons, of refusals and of faults in the table of faults.
use Rattle.std.specs.Prelude.{ℕ}
use Rattle.run_states.specs.declared.fault.BookFault.{BookFault}
use Rattle.run_states.specs.declared.fault.BookFault.TheVariants.{NoMemory, NoView, ForeignLease, NotLawful}
use Rattle.run_states.specs.declared.state.Refusal.{Refusal}
use Rattle.run_states.specs.declared.state.Refusal.TheVariants.{WrongSystem, Unsupported, MissingFeature, MissingSource, InputNotRealised, PartlyValid}
use Rattle.valid_table.specs.declared.fault.OutletFault.TheVariants as outlet
use Rattle.valid_table.specs.declared.fault.OutletFault.{OutletFault}

-- a refusal's number
abbrev pub refusal_number_of : Refusal → ℕ
refusal_number_of WrongSystem = 60
refusal_number_of Unsupported = 61
refusal_number_of (MissingSource source) = 62
refusal_number_of (InputNotRealised input) = 63
refusal_number_of (PartlyValid output) = 64
refusal_number_of (MissingFeature feature) = 78

-- a fault's number
abbrev pub fault_number_of : BookFault → ℕ
fault_number_of NoMemory = 9
fault_number_of NoView = 40
fault_number_of ForeignLease = 65
fault_number_of NotLawful = 66

-- an outlet's fault, as a book tells it
abbrev pub fault_of : OutletFault → BookFault
fault_of outlet.NoMemory = NoMemory
fault_of outlet.NoView = NoView
