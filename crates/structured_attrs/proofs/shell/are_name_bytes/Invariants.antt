use Rattle.std.proofs.Common.{◌≡◌, drop}
use Rattle.std.specs.List.{list_all}
use Rattle.structured_attrs.specs.ShellTexts.{is_name_byte}
use Rattle.structured_attrs.proofs.shell.are_name_bytes.Given as goal

-- the bytes that are left have the answer of all
abbrev pub invariant-bytes : goal.invariant-bytes
invariant-bytes l = list_all is_name_byte (drop l.byte-index l.bytes) ≡ list_all is_name_byte l.bytes
