use Rattle.std.proofs.Common.{◌≡◌, ◌++◌}
use Rattle.serde_json.specs.View.{members_view}
use Rattle.structured_attrs.specs.ShellTexts.{shell_text}
use Rattle.structured_attrs.proofs.attributes.Attributes.shell_text.Given as goal

-- the lines so far and those of the members that are left are the lines of all
abbrev pub invariant-members : goal.invariant-members
invariant-members l = l.out.items ++ shell_text (members_view l.key-iterator) ≡ shell_text (members_view l.self.members.entries)
