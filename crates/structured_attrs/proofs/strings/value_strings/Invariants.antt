use Rattle.std.proofs.Common.{◌≡◌, String, Global, map, string_bytes}
use Rattle.serde_json.specs.View.{members_view}
use Rattle.structured_attrs.specs.Strings.{value_texts}
use Rattle.structured_attrs.proofs.Gathered.{gathered}
use Rattle.structured_attrs.proofs.strings.value_strings.Given as goal

-- the texts so far and those of the members that are left are the texts of all
abbrev pub invariant-members : goal.invariant-members
invariant-members l = gathered (map (λ (s : String Global). string_bytes s) l.strings.items) (value_texts (members_view l.member-iterator)) ≡ value_texts (members_view l.members.entries)
