-- Worked examples, computed from the definitions: what Nix 2.8 wrote for the same values.
use Rattle.std.proofs.Common.{◌≡◌, ℕ, pos, negsuc, List, [], ◌∷◌, ◌++◌, true, false, Some, None, codes, refl}
use Rattle.std.specs.Fmt.{digits}
use Rattle.json.specs.Json as json
use Rattle.json.specs.Print.{print, print_from, escape_byte}
use Rattle.json.specs.Tree.{json_tokens}
use Rattle.serde_json.specs.Data.{unsigned, negative, null, boolean, number, string, array, object, no_items, item, no_members, member}
use Rattle.structured_attrs.specs.FloatTexts.{size_text}
use Rattle.structured_attrs.specs.Numerals.{number_of}
use Rattle.structured_attrs.specs.ShellTexts.{line_of, number_word}
use Rattle.structured_attrs.specs.declared.decimal.Point.TheVariants.{After, Before}

-- ---- the layout of doubles

fifteen_digits_are_plain : size_text (codes "1") (After 15) ≡ codes "100000000000000.0"
unfolding digits
fifteen_digits_are_plain = refl

sixteen_digits_have_an_exponent : size_text (codes "1") (After 16) ≡ codes "1e+15"
unfolding digits
sixteen_digits_have_an_exponent = refl

three_zeros_are_plain : size_text (codes "1") (Before 3) ≡ codes "0.0001"
unfolding digits
three_zeros_are_plain = refl

four_zeros_have_an_exponent : size_text (codes "1") (Before 4) ≡ codes "1e-05"
unfolding digits
four_zeros_have_an_exponent = refl

whole_doubles_end_in_zero : size_text (codes "123456789") (After 9) ≡ codes "123456789.0"
unfolding digits
whole_doubles_end_in_zero = refl

largest_double : size_text (codes "17976931348623157") (After 309) ≡ codes "1.7976931348623157e+308"
unfolding digits
largest_double = refl

least_double : size_text (codes "5") (Before 323) ≡ codes "5e-324"
unfolding digits
least_double = refl

-- ---- numerals

minus_zero_is_zero : number_of (codes "-0") ≡ Some (unsigned 0)
minus_zero_is_zero = refl

-- ---- words of numbers

cut_to_32_bits : number_word (unsigned 4294967297) ≡ Some (codes "1")
unfolding digits
cut_to_32_bits = refl

beyond_31_bits : number_word (unsigned 2147483648) ≡ Some (codes "-2147483648")
unfolding digits
beyond_31_bits = refl

small : number_word (negative (negsuc 9223372036854775806)) ≡ Some (codes "1")
unfolding digits
small = refl

-- ---- lines of the shell

-- declare -a listOk=('a' 'b c' 'it'\''s' 1 2 1  '' )
list_line : line_of (codes "listOk") (array (item (string (codes "a")) (item (string (codes "b c")) (item (string (codes "it's"))
    (item (number (unsigned 1)) (item (number (unsigned 2)) (item (boolean true) (item (boolean false) (item null no_items)))))))))
    ≡ codes "declare -a listOk=('a' 'b c' 'it'\\''s' 1 2 1  '' )\n"
unfolding digits
list_line = refl

-- declare -A set=(['a']=1 ['b']='x' ['f']= ['it'\''s']=1 ['key with space']='v'\''v' ['n']='' )
set_line : line_of (codes "set") (object (member (codes "a") (number (unsigned 1)) (member (codes "b") (string (codes "x"))
    (member (codes "f") (boolean false) (member (codes "it's") (boolean true) (member (codes "key with space") (string (codes "v'v"))
    (member (codes "n") null no_members)))))))
    ≡ codes "declare -A set=(['a']=1 ['b']='x' ['f']= ['it'\\''s']=1 ['key with space']='v'\\''v' ['n']='' )\n"
unfolding digits
set_line = refl

-- an array of arrays has no line, nor has a key with a dash
no_line_for_arrays_of_arrays : line_of (codes "nested") (array (item (array no_items) no_items)) ≡ []
no_line_for_arrays_of_arrays = refl

no_line_for_other_keys : line_of (codes "foo-bar") (string (codes "BAD")) ≡ []
no_line_for_other_keys = refl

-- ---- texts of JSON

escapes : print (json_tokens (json.array (json.item (json.string (1 ∷ 31 ∷ 8 ∷ 12 ∷ 127 ∷ codes "a/b\"\\\n\t\r")) json.no_items)))
    ≡ codes "[\"\\u0001\\u001f\\b\\f" ++ (127 ∷ codes "a/b\\\"\\\\\\n\\t\\r\"]")
unfolding print_from escape_byte
escapes = refl

-- the members of the vector `structured-raw-json`, without its doubles
raw_text : print (json_tokens (json.object (json.member (codes "dup") (json.number (codes "2")) (json.member (codes "g") (json.number (codes "4294967297"))
    (json.member (codes "outputs") (json.object (json.member (codes "out") (json.string (codes "/s")) json.no_members)) json.no_members)))))
    ≡ codes "{\"dup\":2,\"g\":4294967297,\"outputs\":{\"out\":\"/s\"}}"
unfolding print_from escape_byte
raw_text = refl
