-- How the answer of a function of the program agrees with the reading of the same bytes.
use Rattle.std.specs.Prelude.{◌≡◌, ℕ, Result, Ok, Err}
use Rattle.nix_drv.specs.declared.fault.ParseFault.{ParseFault}
use Rattle.nix_drv.specs.declared.fault.ParseFault.TheVariants.{NoMemory, Left}

-- the function stopped where the reading does, or because memory was refused
abbrev pub Fails : {Y : Type 0} → ParseFault → Result Y ℕ → Type 0
Fails NoMemory reading = Unit {0}
Fails (Left left) reading = reading ≡ Err left

-- the function gave what the reading gives, viewed by `view`, unless memory was refused
abbrev pub Gives : {X Y : Type 0} → (X → Y) → Result X ParseFault → Result Y ℕ → Type 0
Gives view (Ok x) reading = reading ≡ Ok (view x)
Gives view (Err stop) reading = Fails stop reading
