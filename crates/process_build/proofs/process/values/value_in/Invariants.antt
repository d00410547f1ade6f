use Rattle.std.proofs.Common.{◌≡◌, map, take}
use Rattle.nix_drv.specs.Parts.{entry_of}
use Rattle.process_build.specs.Setups.{or_empty, value_of}
use Rattle.process_build.proofs.process.values.value_in.Given as goal

-- the value after the entries so far
abbrev pub invariant-loop-entry : goal.invariant-loop-entry
invariant-loop-entry l = l.value
    ≡ or_empty (value_of l.key (map entry_of (take l.entry-index l.entries)))
