use Rattle.std.proofs.Common.{◌≡◌, ◌++◌, drop}
use Rattle.std.specs.List.{flat_map}
use Rattle.structured_attrs.specs.ShellTexts.{quoted_byte}
use Rattle.structured_attrs.proofs.shell.push_quoted.Given as goal

-- what is written, and what stands for the bytes that are left
abbrev pub invariant-bytes : goal.invariant-bytes
invariant-bytes l = l.out.items ++ flat_map quoted_byte (drop l.byte-index l.text) ≡ l.initial.out.items ++ flat_map quoted_byte l.text
