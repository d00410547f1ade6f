-- Lists of strings among structured attributes, as Nix 2.8 takes them.
use Rattle.std.specs.Prelude.{ℕ, List, [], ◌∷◌, Option, Some, None, option_and_then, option_map}
use Rattle.serde_json.specs.Find.{as_array, as_object, get_member}
use Rattle.serde_json.specs.Data.{Data, null, boolean, number, string, array, object, Items, no_items, item, Members, no_members, member}

-- the text of a string
abbrev pub text_of : Data → Option (List ℕ)
text_of null = None
text_of (boolean b) = None
text_of (number n) = None
text_of (string text) = Some text
text_of (array ds) = None
text_of (object ms) = None

-- the texts of an array's items, where all are strings
abbrev pub item_texts : Items → Option (List (List ℕ))
item_texts no_items = Some []
item_texts (item d ds) =
    option_and_then (λ text. option_map (λ rest. text ∷ rest) (item_texts ds)) (text_of d)

-- the texts of an object's values, by key, where all are strings
abbrev pub value_texts : Members → Option (List (List ℕ))
value_texts no_members = Some []
value_texts (member key d ms) =
    option_and_then (λ text. option_map (λ rest. text ∷ rest) (value_texts ms)) (text_of d)

-- The texts of a value that Nix goes over as over a list (JSON for Modern C++, iterators): a string
-- is a list of one, null an empty one, an object the list of its values.
abbrev pub texts_of : Data → Option (List (List ℕ))
texts_of null = Some []
texts_of (boolean b) = None
texts_of (number n) = None
texts_of (string text) = Some (text ∷ [])
texts_of (array ds) = item_texts ds
texts_of (object ms) = value_texts ms

-- the texts of the items of an array, which nothing else stands for
abbrev pub array_texts : Data → Option (List (List ℕ))
array_texts d = option_and_then item_texts (as_array d)

-- the object at a key of an object, where there is one
abbrev pub object_at : List ℕ → Members → Option Members
object_at key ms = option_and_then as_object (get_member key ms)
