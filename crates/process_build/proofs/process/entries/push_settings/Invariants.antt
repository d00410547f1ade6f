use Rattle.std.proofs.Common.{◌≡◌, ◌++◌, map, take}
use Rattle.process_build.specs.private.RawVars.{entry_of_raw, entry_of_setting}
use Rattle.process_build.proofs.process.entries.push_settings.Given as goal

-- the variables so far stand after the others
abbrev pub invariant-loop-setting : goal.invariant-loop-setting
invariant-loop-setting l = map entry_of_raw l.entries.items ≡ map entry_of_raw l.fn.entries.items
    ++ map entry_of_setting (take l.setting-index l.settings)
