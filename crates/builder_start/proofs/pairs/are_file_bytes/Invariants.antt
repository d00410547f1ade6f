use Rattle.std.proofs.Common.{◌≡◌, drop}
use Rattle.std.specs.List.{list_all}
use Rattle.builder_start.specs.Entries.{is_file_byte}
use Rattle.builder_start.proofs.pairs.are_file_bytes.Given as goal

-- the bytes that are left have the answer of all
abbrev pub invariant-bytes : goal.invariant-bytes
invariant-bytes l = list_all is_file_byte (drop l.byte-index l.bytes) ≡ list_all is_file_byte l.bytes
