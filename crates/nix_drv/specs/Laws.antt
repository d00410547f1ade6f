-- What it means that a text belongs to one value, and that an input has one answer.
use Rattle.std.specs.Prelude.{◌≡◌, ◌≢◌, ◌↔◌, Result, Err}
use Rattle.nix_names.specs.Bytes.{Bytes, Dir, Path}
use Rattle.nix_drv.specs.declared.fault.DrvFault.{DrvFault}
use Rattle.nix_drv.specs.declared.fault.DrvFault.TheVariants.{NoMemory, BadReference}
use Rattle.nix_drv.specs.Grammar.{Grammar, Value, IsText, Begins, IsTextPrefix, text}
use Rattle.nix_drv.specs.Order.{InOrder, KeysRise}
use Rattle.nix_drv.specs.Derivation.{Drv, IsLooseText}
use Rattle.nix_drv.specs.Outcome.{IsReading}
use Rattle.nix_drv.specs.Checked.{IsCheck}

-- each value has exactly one text
abbrev pub HasOneTextEach : Grammar → Type 0
HasOneTextEach g = (v : Value g) → (bytes : Bytes) × IsText g v bytes
    × ((other : Bytes) → IsText g v other → other ≡ bytes)

-- no bytes are the text of two values
abbrev pub HasOneValueEach : Grammar → Type 0
HasOneValueEach g = (v w : Value g) (bytes : Bytes) → IsText g v bytes → IsText g w bytes → v ≡ w

-- no text begins another
abbrev pub HasNoTextWithin : Grammar → Type 0
HasNoTextWithin g = (v w : Value g) (prefix whole : Bytes) → IsText g v prefix → IsText g w whole
    → Begins prefix whole → prefix ≡ whole

-- a value keeps the order rules exactly where, in each list that must rise, each key is less than
-- the next one
abbrev pub OrderMeansRising : Grammar → Type 0
OrderMeansRising g = (v : Value g) → InOrder g v ↔ KeysRise g v

-- some bytes are a prefix exactly where a text begins with them
abbrev pub PrefixesBeginTexts : Grammar → Type 0
PrefixesBeginTexts g = (prefix : Bytes) → IsTextPrefix g prefix
    ↔ ((v : Value g) × Begins prefix (text g v))

-- no bytes are the text of two derivations
abbrev pub HasOneDerivationEach : Type 0
HasOneDerivationEach = (drv other : Drv) (bytes : Bytes) → IsLooseText drv bytes
    → IsLooseText other bytes → drv ≡ other

-- no derivation's text begins another's
abbrev pub HasNoDerivationWithin : Type 0
HasNoDerivationWithin = (drv other : Drv) (prefix whole : Bytes) → IsLooseText drv prefix
    → IsLooseText other whole → Begins prefix whole → prefix ≡ whole

-- two answers of reading for one input are equal, unless one of them is want of memory
abbrev pub HasOneReading : Type 0
HasOneReading = (input : Bytes) (answer other : Result Drv DrvFault) → IsReading input answer
    → IsReading input other → answer ≢ Err NoMemory → other ≢ Err NoMemory → answer ≡ other

-- two answers are equal; references that they name are compared by their bytes
abbrev pub SaysSame : Result Drv DrvFault → Result Drv DrvFault → Type 0
SaysSame (Err (BadReference text)) (Err (BadReference other)) = text.items ≡ other.items
SaysSame answer other = answer ≡ other

-- two answers of the check for the same bytes at a path say the same, unless one is want of memory
abbrev pub HasOneCheck : Type 0
HasOneCheck = (dir : Dir) (path : Path) (bytes : Bytes) (answer other : Result Drv DrvFault)
    → IsCheck dir path bytes answer → IsCheck dir path bytes other → answer ≢ Err NoMemory
    → other ≢ Err NoMemory → SaysSame answer other
