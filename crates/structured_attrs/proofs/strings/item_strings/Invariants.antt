use Rattle.std.proofs.Common.{◌≡◌, String, Global, drop, map, string_bytes}
use Rattle.serde_json.specs.View.{items_view}
use Rattle.structured_attrs.specs.Strings.{item_texts}
use Rattle.structured_attrs.proofs.Gathered.{gathered}
use Rattle.structured_attrs.proofs.strings.item_strings.Given as goal

-- the texts so far and those of the items that are left are the texts of all
abbrev pub invariant-items : goal.invariant-items
invariant-items l = gathered (map (λ (s : String Global). string_bytes s) l.strings.items) (item_texts (items_view (drop l.item-index l.item-items))) ≡ item_texts (items_view l.item-items)
