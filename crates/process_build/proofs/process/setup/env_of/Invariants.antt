use Rattle.std.proofs.Common.{All, map, take}
use Rattle.std.specs.List.{AllZip}
use Rattle.process_build.specs.Setups.{IsFilledEntry, IsProcessEntry, entry_of_var}
use Rattle.process_build.specs.private.RawVars.{entry_of_raw}
use Rattle.process_build.proofs.process.setup.env_of.Given as goal

-- the entries so far are filled, and an environment can have them
abbrev pub invariant-loop-entry : goal.invariant-loop-entry
invariant-loop-entry l = record {
  filled : AllZip (λ e filled. IsFilledEntry l.placeholders.outputs.now e (entry_of_var filled))
      (map entry_of_raw (take l.entry-index l.entries)) l.env.items;
  given : All (λ var. IsProcessEntry (entry_of_var var)) l.env.items;
}
