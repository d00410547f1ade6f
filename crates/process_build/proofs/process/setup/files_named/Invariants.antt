use Rattle.std.proofs.Common.{map, take}
use Rattle.std.specs.Prelude.{filter}
use Rattle.std.specs.List.{AllZip}
use Rattle.nix_drv.specs.Parts.{entry_of}
use Rattle.process_build.specs.Setups.{IsFileOf, file_of_entry, is_among}
use Rattle.process_build.proofs.process.setup.files_named.Given as goal

-- the files of the entries so far
abbrev pub invariant-loop-entry : goal.invariant-loop-entry
invariant-loop-entry l = AllZip (IsFileOf l.placeholders.outputs.now)
    (map file_of_entry (filter (λ e. is_among (map (λ n. n.now) l.names) e.key)
    (map entry_of (take l.entry-index l.entries)))) l.files.items
