use Rattle.std.proofs.Common.{◌≡◌, ◌++◌, map, take}
use Rattle.nix_drv.specs.Parts.{entry_of}
use Rattle.process_build.specs.Setups.{entry_under_nix}
use Rattle.process_build.specs.private.RawVars.{entry_of_raw}
use Rattle.process_build.proofs.process.entries.push_own.Given as goal

-- what is set for the entries so far stands after the others
abbrev pub invariant-loop-entry : goal.invariant-loop-entry
invariant-loop-entry l = map entry_of_raw l.entries.items ≡ map entry_of_raw l.fn.entries.items
    ++ map (entry_under_nix l.folder (map (λ f. f.now) l.files))
    (map entry_of (take l.entry-index l.own))
