-- What a reading tells of structured attributes, and of the features that they list.
use Rattle.std.proofs.Common.{◌≡◌, Bool, true, false, List, ℕ, Some, None, refl, sym}
use Rattle.std.specs.Prelude.{IsUtf8, if◌then◌else◌}
use Rattle.std.specs.Str.{is_utf8}
use Rattle.std.proofs.lemmas.Str.{IsUtf8-from_is_utf8, is_utf8-from_IsUtf8}
use Rattle.serde_json.specs.Data.{Members}
use Rattle.structured_attrs.specs.Reading.{attributes_of}
use Rattle.run_states.specs.Structured.{attributes_of_text}

-- attributes that were read
pub read_told : (text : List ℕ) (ms : Members) → IsUtf8 text → attributes_of text ≡ Some ms
    → Some ms ≡ attributes_of_text text
unfolding attributes_of_text
read_told text ms utf8 is = rw (is_utf8-from_IsUtf8 text utf8) (sym is)

-- and a text that is none
pub none_told : (text : List ℕ) → (IsUtf8 text → attributes_of text ≡ None)
    → None ≡ attributes_of_text text
unfolding attributes_of_text
none_told text none = by (is_utf8 text) refl
  where
    by : (b : Bool) → is_utf8 text ≡ b → None ≡ (if b then attributes_of text else None)
    by true is = sym (none (IsUtf8-from_is_utf8 text is))
    by false is = refl
