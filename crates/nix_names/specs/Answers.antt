-- How a call answers that has one first thing to blame, and that asks for memory only where nothing
-- is to blame.
use Rattle.std.specs.Prelude.{◌≡◌, ◌⊎◌, Option, Some, None, Result, Ok, Err}
use Rattle.nix_names.specs.declared.fault.NameFault.{NameFault}
use Rattle.nix_names.specs.declared.fault.NameFault.TheVariants.{NoMemory}

-- Ok, with the wanted value, only where nothing is wrong; a fault only where it is the first thing
-- wrong; want of memory only where nothing is wrong.
abbrev pub Answers : {T : Type 0} → Option NameFault → Result T NameFault → (T → Type 0) → Type 0
Answers wrong (Ok value) IsWanted = (wrong ≡ None) × IsWanted value
Answers wrong (Err fault) IsWanted = (wrong ≡ Some fault) ⊎ ((wrong ≡ None) × (fault ≡ NoMemory))
