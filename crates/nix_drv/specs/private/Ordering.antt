-- What the function answers that tests the order of parts.
use Rattle.std.specs.Prelude.{◌≡◌, ℕ, Result, Ok, Err}
use Rattle.nix_drv.specs.Order.{InOrder}
use Rattle.nix_drv.specs.private.Passing.{pass}
use Rattle.nix_drv.specs.Derivation.{Drv, derivation_form, drv_value}

-- the derivation of the parts, which keep the order rules, or the offset where passing over the
-- parts stops
abbrev pub IsOrdering : Drv → Result Drv ℕ → Type 0
IsOrdering parts (Ok drv) = (drv ≡ parts) × InOrder derivation_form (drv_value parts)
IsOrdering parts (Err offset) = pass derivation_form 0 (drv_value parts) ≡ Err offset
