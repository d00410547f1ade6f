-- What the writer of a value leaves among the tokens: those of a value with numerals that spells
-- it, and that is read as it.
use Rattle.std.specs.Prelude.{◌≡◌, ◌≤◌, List, ◌++◌, Some}
use Rattle.json.specs.Token.{Token}
use Rattle.json.specs.Json as json
use Rattle.json.specs.Tree as tree
use Rattle.serde_json.specs.Data.{Data, Items, Members, no_members, depth, items_depth, members_depth}
use Rattle.structured_attrs.specs.JsonTexts.{Spells, SpellsItems, SpellsMembers}
use Rattle.structured_attrs.specs.Reading.{data_of, items_of, members_of}

abbrev pub WritesValue : Data → (old new : List Token) → Type 0
WritesValue d old new = (j : json.Json) × (new ≡ old ++ tree.json_tokens j)
    × (data_of j ≡ Some d) × (tree.depth j ≤ depth d) × Spells d j

-- with the closing bracket
abbrev pub WritesItems : Items → (old new : List Token) → Type 0
WritesItems ds old new = (js : json.Items) × (new ≡ old ++ tree.items_tokens js)
    × (items_of js ≡ Some ds) × (tree.items_depth js ≤ items_depth ds) × SpellsItems ds js

abbrev pub WritesMembers : Members → (old new : List Token) → Type 0
WritesMembers ms old new = (js : json.Members) × (new ≡ old ++ tree.members_tokens js)
    × (members_of js no_members ≡ Some ms) × (tree.members_depth js ≤ members_depth ms)
    × SpellsMembers ms js
