use Rattle.process_build.specs.private.RawVars.{entry_of_raw, entry_of_setting}
use Rattle.process_build.proofs.Mapped.{mapped_next}
use Rattle.process_build.proofs.process.entries.push_settings.Goals as goal

pub loop-setting-preserved : goal.loop-setting-preserved
loop-setting-preserved c =
    mapped_next entry_of_raw entry_of_setting c.args.entries.now.items c.loop-setting.entries.items
    _ _ c.args.settings.now c.loop-setting.setting-index _ c.loop-setting-test.true
    c.in_ok-push.ensures.items c.loop-setting.invariant c.setting_var.ensures
