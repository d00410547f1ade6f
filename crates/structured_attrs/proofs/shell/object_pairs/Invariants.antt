use Rattle.std.proofs.Common.{◌≡◌, ◌++◌, option_map}
use Rattle.serde_json.specs.View.{members_view}
use Rattle.structured_attrs.specs.ShellTexts.{pairs_of}
use Rattle.structured_attrs.proofs.shell.object_pairs.Given as goal

-- the pairs so far and those of the members that are left are the pairs of all
abbrev pub invariant-members : goal.invariant-members
invariant-members l = option_map (λ rest. l.pairs.items ++ rest) (pairs_of (members_view l.key-iterator)) ≡ pairs_of (members_view l.members.entries)
