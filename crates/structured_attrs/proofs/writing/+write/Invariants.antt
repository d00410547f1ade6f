use Rattle.std.proofs.Common.{◌≡◌, ◌≤◌, List, ◌++◌, drop, Some}
use Rattle.json.specs.Token.{Token}
use Rattle.json.specs.Json as json
use Rattle.json.specs.Tree as tree
use Rattle.serde_json.specs.Data.{members_depth}
use Rattle.serde_json.specs.View.{items_view, members_view}
use Rattle.serde_json.proofs.Views.{Entry}
use Rattle.structured_attrs.specs.JsonTexts.{SpellsMembers}
use Rattle.structured_attrs.specs.Reading.{members_of}
use Rattle.structured_attrs.specs.private.Written.{WritesItems, WritesMembers}
use Rattle.structured_attrs.proofs.writing.+write.Given as goal

-- whatever ends the array well from here ends it well from the start
abbrev pub invariant-write_items-loop-item : goal.invariant-write_items-loop-item
invariant-write_items-loop-item l =
    (l.out.before ≡ l.initial.out.before)
    × ((end : List Token) → WritesItems (items_view (drop l.item-index l.item-items)) l.out.tokens end → WritesItems (items_view l.item-items) l.initial.out.tokens end)

-- whatever ends the object well from here ends it well from the start
abbrev pub invariant-write_members-loop-key : goal.invariant-write_members-loop-key
invariant-write_members-loop-key l =
    let all = members_view l.members.entries in
    (l.out.before ≡ l.initial.out.before) × (done : List Entry) × (l.members.entries ≡ done ++ l.key-iterator)
    × ((ms : json.Members) → members_of ms (members_view done) ≡ Some all → tree.members_depth ms ≤ members_depth (members_view l.key-iterator)
    → SpellsMembers (members_view l.key-iterator) ms
    → WritesMembers all l.initial.out.tokens (l.out.tokens ++ tree.members_tokens ms))
