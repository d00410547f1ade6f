use Rattle.std.proofs.Common.{◌≡◌, ◌++◌, drop, option_map}
use Rattle.serde_json.specs.View.{items_view}
use Rattle.structured_attrs.specs.ShellTexts.{words_of}
use Rattle.structured_attrs.proofs.shell.array_words.Given as goal

-- the words so far and those of the items that are left are the words of all
abbrev pub invariant-items : goal.invariant-items
invariant-items l = option_map (λ rest. l.words.items ++ rest) (words_of (items_view (drop l.item-index l.item-items))) ≡ words_of (items_view l.item-items)
