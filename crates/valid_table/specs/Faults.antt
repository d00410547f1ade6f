-- The numbers of the faults on journals, tables and outlets.
use Rattle.std.specs.Prelude.{ℕ}
use Rattle.valid_table.specs.declared.fault.TableFault.{TableFault}
use Rattle.valid_table.specs.declared.fault.TableFault.TheVariants.{NoMemory, BadLine, NotClosed, Twice, WrongVersion, NotValid, TooLong, Unclosed, AlreadyValid}
use Rattle.valid_table.specs.declared.fault.OutletFault.{OutletFault}
use Rattle.valid_table.specs.declared.fault.OutletFault.TheVariants.{NoMemory as NoMemoryOfOutlet, NoView}

-- a fault's number
abbrev pub number_of : TableFault → ℕ
number_of NoMemory = 9
number_of (BadLine line) = 30
number_of (NotClosed line) = 31
number_of (Twice line) = 32
number_of WrongVersion = 33
number_of (NotValid path) = 34
number_of TooLong = 35
number_of (Unclosed path) = 36
number_of (AlreadyValid path) = 37

-- the number of an outlet's fault
abbrev pub outlet_number_of : OutletFault → ℕ
outlet_number_of NoMemoryOfOutlet = 9
outlet_number_of NoView = 40
