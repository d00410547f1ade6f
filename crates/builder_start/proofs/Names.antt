-- Names of files are texts.
use Rattle.std.proofs.Common.{◌≡◌, ◌&&◌, ℕ, ◌<◌, Bool, true, false, List, [], ◌∷◌, IsTrue, arith, refl}
use Rattle.std.specs.List.{list_all}
use Rattle.std.specs.Str.{IsAscii, IsUtf8}
use Rattle.std.proofs.lemmas.Bool.Decides.{nat_tests}
use Rattle.std.proofs.lemmas.Bool.{false≢true}
use Rattle.std.proofs.lemmas.Str.{IsUtf8-from_ascii}
use Rattle.std.proofs.lemmas.Str.Ascii.{IsAscii-cons, IsAscii-nil}
use Rattle.builder_start.specs.Entries.{is_file_byte, is_file_name, is_file_start}

left_true : (a b : Bool) → (a && b) ≡ true → a ≡ true
left_true true b both = refl
left_true false b both = both

right_true : (a b : Bool) → (a && b) ≡ true → b ≡ true
right_true true b both = both
right_true false b both = absurd (false≢true both)

start_low : (b : ℕ) → is_file_start b ≡ true → b < 128
start_low b is = grind (arith, nat_tests)

byte_low : (b : ℕ) → is_file_byte b ≡ true → b < 128
byte_low b is = grind (arith, nat_tests)

bytes_low : (bs : List ℕ) → list_all is_file_byte bs ≡ true → IsAscii bs
bytes_low [] all = IsAscii-nil
bytes_low (b ∷ bs) all =
    IsAscii-cons b bs (byte_low b (left_true (is_file_byte b) (list_all is_file_byte bs) all))
    (bytes_low bs (right_true (is_file_byte b) (list_all is_file_byte bs) all))

-- a file's name is UTF-8
pub file_name_utf8 : (name : List ℕ) → IsTrue (is_file_name name) → IsUtf8 name
file_name_utf8 [] is = absurd (false≢true is)
file_name_utf8 (b ∷ bs) is =
    IsUtf8-from_ascii (b ∷ bs)
    (IsAscii-cons b bs (start_low b (left_true (is_file_start b) (list_all is_file_byte bs) is))
    (bytes_low bs (right_true (is_file_start b) (list_all is_file_byte bs) is)))
