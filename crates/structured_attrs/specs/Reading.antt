-- The value that a text of JSON stands for (RFC 8259), over the grammar of the kit's `json`.
use Rattle.std.specs.Prelude.{ℕ, List, Option, Some, None, option_map, option_and_then}
use Rattle.json.specs.Token.{Token}
use Rattle.json.specs.Lex.{tokens}
use Rattle.json.specs.Json as json
use Rattle.serde_json.specs.Data.{Data, null, boolean, number, string, array, object, Items, no_items, item, Members, no_members, put}
use Rattle.structured_attrs.specs.Numerals.{number_of}

-- Each number is the number of its numeral, and the members of an object go in one after another,
-- by the bytes of their keys, so that of repeated keys the last one stays. None where some number
-- is none.
abbrev mutual
  pub data_of : json.Json → Option Data
  data_of json.null = Some null
  data_of (json.boolean b) = Some (boolean b)
  data_of (json.number numeral) = option_map number (number_of numeral)
  data_of (json.string text) = Some (string text)
  data_of (json.array ds) = option_map array (items_of ds)
  data_of (json.object ms) = option_map object (members_of ms no_members)

  pub items_of : json.Items → Option Items
  items_of json.no_items = Some no_items
  items_of (json.item first rest) =
      option_and_then (λ d. option_map (item d) (items_of rest)) (data_of first)

  pub members_of : json.Members → Members → Option Members
  members_of json.no_members found = Some found
  members_of (json.member key value rest) found =
      option_and_then (λ d. members_of rest (put key d found)) (data_of value)

-- how deep the arrays and objects of a text may nest, the outermost one counted
abbrev pub max_depth : ℕ
max_depth = 127

-- the value of a text, where the text is JSON that nests no deeper than that
abbrev pub read : List ℕ → Option Data
read text = option_and_then data_of
    (option_and_then (λ p. json.if_last p.0 p.1) (json.value max_depth (tokens text)))

-- the members of an object, where the value is one
abbrev pub object_of : Data → Option Members
object_of null = None
object_of (boolean b) = None
object_of (number n) = None
object_of (string text) = None
object_of (array ds) = None
object_of (object ms) = Some ms

-- the members of the object that a text is, where it is one
abbrev pub attributes_of : List ℕ → Option Members
attributes_of text = option_and_then object_of (read text)
