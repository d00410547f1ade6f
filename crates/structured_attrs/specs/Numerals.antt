-- The number that a numeral of JSON stands for, as Nix reads it (RFC 8259, section 6; JSON for
-- Modern C++, which Nix reads with, "Numbers": integers of 64 bits, and else a double).
use Rattle.std.specs.Prelude.{ℕ, List, Option, Some, codes, if◌then◌else◌}
use Rattle.std.specs.Str.{bytes_eq}
use Rattle.serde_json.specs.Data.{Num, unsigned}
use Rattle.serde_json.specs.Read as kit

-- An integer from -2^63 to 2^64 - 1 is itself, where `-0` is 0; each other numeral is the nearest
-- double, and none where that is not finite. The kit's `number_of` takes `-0` for a double.
abbrev pub number_of : List ℕ → Option Num
number_of numeral = if bytes_eq numeral (codes "-0") then Some (unsigned 0) else kit.number_of numeral
