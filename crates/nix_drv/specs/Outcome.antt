-- What the public calls answer, and the numbers of the faults.
use Rattle.std.specs.Prelude.{◌≡◌, ℕ, ◌<◌, ◌≤◌, ◌⊎◌, length, Vec, Result, Ok, Err}
use Rattle.std.specs.declared.alloc.Global.{Global}
use Rattle.nix_names.specs.Bytes.{Bytes}
use Rattle.nix_drv.specs.declared.fault.DrvFault.{DrvFault}
use Rattle.nix_drv.specs.declared.fault.DrvFault.TheVariants.{NoMemory, Syntax, Order, TooLong, TextPathMismatch, NotADrvName, NotSorted, BadReference}
use Rattle.nix_drv.specs.Grammar.{IsLongestPrefix}
use Rattle.nix_drv.specs.Order.{InOrder, IsFirstViolation}
use Rattle.nix_drv.specs.Derivation.{Drv, drv_value, derivation_form, IsLooseText, IsDrvText}

-- how many bytes a derivation's text may have
abbrev pub max_len : ℕ
max_len = 4194304

-- What reading answers for some bytes. It is a derivation exactly where the bytes are its text and
-- are within the limit. Else it is one of these faults: the bytes are too many; they are no text of
-- the language, even without its order rules, and the longest beginning that more bytes can
-- complete to a text has this length; they are a text that breaks an order rule, and the first
-- element that does so is at this offset; or memory was refused.
abbrev pub IsReading : Bytes → Result Drv DrvFault → Type 0
IsReading input (Ok drv) = (length input ≤ max_len) × IsDrvText drv input
IsReading input (Err TooLong) = max_len < length input
IsReading input (Err (Syntax offset)) = (length input ≤ max_len)
    × ((drv : Drv) → ¬ IsLooseText drv input) × IsLongestPrefix derivation_form input offset
IsReading input (Err (Order offset)) = (length input ≤ max_len)
    × ((drv : Drv) × IsLooseText drv input × IsFirstViolation derivation_form (drv_value drv)
    offset)
IsReading input (Err NoMemory) = length input ≤ max_len
IsReading input (Err other) = ⊥

-- the derivation of the parts exactly where they keep the order rules
abbrev pub IsMaking : Drv → Result Drv DrvFault → Type 0
IsMaking parts (Ok drv) = (drv ≡ parts) × InOrder derivation_form (drv_value parts)
IsMaking parts (Err fault) = (fault ≡ NotSorted) × (InOrder derivation_form (drv_value parts) → ⊥)

-- the derivation's text, unless memory was refused
abbrev pub IsWriting : Drv → Result (Vec ℕ Global) DrvFault → Type 0
IsWriting drv (Ok text) = IsDrvText drv text.items
IsWriting drv (Err fault) = fault ≡ NoMemory

-- a copy of the derivation, unless memory was refused
abbrev pub IsCopying : Drv → Result Drv DrvFault → Type 0
IsCopying drv (Ok copy) = copy ≡ drv
IsCopying drv (Err fault) = fault ≡ NoMemory

-- reading a derivation's text within the limit answers that derivation, unless memory is refused
abbrev pub ReadsBack : Type 0
ReadsBack = (drv : Drv) (text : Bytes) (answer : Result Drv DrvFault) → IsDrvText drv text
    → length text ≤ max_len → IsReading text answer → (answer ≡ Ok drv) ⊎ (answer ≡ Err NoMemory)

-- a fault's number in the table of faults
abbrev pub number_of : DrvFault → ℕ
number_of NoMemory = 9
number_of (Syntax offset) = 10
number_of (Order offset) = 11
number_of TooLong = 12
number_of (TextPathMismatch expected) = 13
number_of NotADrvName = 14
number_of NotSorted = 15
number_of (BadReference text) = 16
