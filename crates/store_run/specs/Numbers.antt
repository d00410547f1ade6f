-- The numbers of a run's faults (this product's own).
use Rattle.std.specs.Prelude.{ℕ}
use Rattle.store_run.specs.declared.fault.RunFault.{RunFault}
use Rattle.store_run.specs.declared.fault.RunFault.TheVariants.{NoView, NoWorkers, ThreadFault, NoMemory, ForeignPlan}

-- the number of a run's fault in the table of faults
abbrev pub fault_number_of : RunFault → ℕ
fault_number_of NoView = 40
fault_number_of NoWorkers = 70
fault_number_of ThreadFault = 71
fault_number_of NoMemory = 72
fault_number_of ForeignPlan = 73
