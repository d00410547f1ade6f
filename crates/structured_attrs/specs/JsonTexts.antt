-- The text that Nix writes of a value in `.attrs.json` (JSON for Modern C++, `dump`): no spaces,
-- the members of an object by the bytes of their keys, and each string with the kit's escapes,
-- which are the shortest that RFC 8259 allows, with `\u00xx` in lower case.
use Rattle.std.specs.Prelude.{◌≡◌, ℕ, List, decimal}
use Rattle.std.specs.Fmt.{signed_decimal}
use Rattle.json.specs.Json as json
use Rattle.json.specs.Print.{print}
use Rattle.json.specs.Tree.{json_tokens}
use Rattle.serde_json.specs.Data.{Num, unsigned, negative, float, Data, null, boolean, number, string, array, object, Items, no_items, item, Members, no_members, member}
use Rattle.structured_attrs.specs.FloatTexts.{IsFloatText}

-- the numeral of a number: an integer in decimal, or a text of a double
abbrev pub IsNumeralOf : Num → List ℕ → Type 0
IsNumeralOf (unsigned n) numeral = numeral ≡ decimal n
IsNumeralOf (negative z) numeral = numeral ≡ signed_decimal z
IsNumeralOf (float x) numeral = IsFloatText x numeral

-- a value with numerals has the items and members of a value, in their order, each number by a
-- numeral of it
abbrev mutual
  pub Spells : Data → json.Json → Type 0
  Spells null j = j ≡ json.null
  Spells (boolean b) j = j ≡ json.boolean b
  Spells (number n) j = (numeral : List ℕ) × (j ≡ json.number numeral) × IsNumeralOf n numeral
  Spells (string text) j = j ≡ json.string text
  Spells (array ds) j = (js : json.Items) × (j ≡ json.array js) × SpellsItems ds js
  Spells (object ms) j = (js : json.Members) × (j ≡ json.object js) × SpellsMembers ms js

  pub SpellsItems : Items → json.Items → Type 0
  SpellsItems no_items js = js ≡ json.no_items
  SpellsItems (item d ds) js = (first : json.Json) × (rest : json.Items)
      × (js ≡ json.item first rest) × Spells d first × SpellsItems ds rest

  pub SpellsMembers : Members → json.Members → Type 0
  SpellsMembers no_members js = js ≡ json.no_members
  SpellsMembers (member key d ms) js = (first : json.Json) × (rest : json.Members)
      × (js ≡ json.member key first rest) × Spells d first × SpellsMembers ms rest

-- a text of a value, with numerals of its numbers
abbrev pub IsJsonText : Data → List ℕ → Type 0
IsJsonText d text = (j : json.Json) × Spells d j × (text ≡ print (json_tokens j))
