-- The number of the fault of a scan.
use Rattle.std.specs.Prelude.{ℕ}
use Rattle.ref_scan.specs.declared.fault.ScanFault.{ScanFault}
use Rattle.ref_scan.specs.declared.fault.ScanFault.TheVariants.{NoMemory}

-- a fault's number
abbrev pub number_of : ScanFault → ℕ
number_of NoMemory = 9
