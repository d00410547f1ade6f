-- The numbers of the faults on names.
use Rattle.std.specs.Prelude.{ℕ}
use Rattle.nix_names.specs.declared.fault.NameFault.{NameFault}
use Rattle.nix_names.specs.declared.fault.NameFault.TheVariants.{BadLength, BadChar, Overflow, NotInStore, BadHashPart, BadName, BadStoreDir, NoMemory}

-- a fault's number
abbrev pub number_of : NameFault → ℕ
number_of BadLength = 1
number_of (BadChar offset) = 2
number_of Overflow = 3
number_of NotInStore = 4
number_of BadHashPart = 5
number_of BadName = 6
number_of BadStoreDir = 7
number_of NoMemory = 9
