-- Structured attributes of a derivation (Nix manual, "Advanced Attributes",
-- `__structuredAttrs`).
use Rattle.std.specs.Prelude.{Option, Some, None, List, [], codes, find, if◌then◌else◌, option_and_then, option_map}
use Rattle.std.specs.Str.{is_utf8}
use Rattle.serde_json.specs.Data.{Members}
use Rattle.serde_json.specs.Find.{get_member}
use Rattle.nix_names.specs.Bytes.{Bytes, Name}
use Rattle.nix_names.specs.Names.{same_bytes}
use Rattle.nix_drv.specs.Derivation.{Drv, EnvEntry}
use Rattle.structured_attrs.specs.Reading.{attributes_of}
use Rattle.structured_attrs.specs.Strings.{array_texts}

-- the value of the first entry of a derivation's environment that has a key, where there is one
abbrev pub value_of : (key : Name) → Drv → Option Bytes
value_of key drv = option_map (λ (e : EnvEntry). e.value)
    (find (λ (e : EnvEntry). same_bytes e.key key) drv.env)

-- the text of a derivation's structured attributes, where it has any
abbrev pub json_of : Drv → Option Bytes
json_of drv = value_of (codes "__json") drv

-- the attributes that a text is: UTF-8, and an object of JSON
unfoldable pub attributes_of_text : Bytes → Option Members
attributes_of_text text = if is_utf8 text then attributes_of text else None

-- the texts that there are, or none
abbrev pub texts_or_none : Option (List Bytes) → List Bytes
texts_or_none (Some texts) = texts
texts_or_none None = []

-- the features that attributes ask for: the strings of the array `requiredSystemFeatures`; none
-- where there is no array of strings
abbrev pub listed_features : Option Members → List Bytes
listed_features attributes = texts_or_none (option_and_then array_texts
    (option_and_then (get_member (codes "requiredSystemFeatures")) attributes))
