use Rattle.std.proofs.Common.{◌≡◌, ◌++◌, map, take}
use Rattle.nix_drv.specs.Parts.{entry_of}
use Rattle.process_build.specs.Setups.{caller_entry}
use Rattle.process_build.specs.private.RawVars.{entry_of_raw}
use Rattle.process_build.proofs.process.entries.push_callers.Given as goal

-- the variables so far stand after the others
abbrev pub invariant-loop-name : goal.invariant-loop-name
invariant-loop-name l = map entry_of_raw l.entries.items ≡ map entry_of_raw l.fn.entries.items
    ++ map (caller_entry (map entry_of l.caller)) (map (λ n. n.now) (take l.name-index l.names))
