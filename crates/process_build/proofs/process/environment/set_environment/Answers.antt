use Rattle.std.proofs.Common.{◌∙◌}
use Rattle.process_build.proofs.BuilderCalls.{set_more}
use Rattle.process_build.proofs.process.environment.set_environment.Goals as goal

pub loop-setting-preserved : goal.loop-setting-preserved
loop-setting-preserved c =
    let had = c.loop-setting.invariant in
    let has = c.in_ok-set.ensures in
    record {
      clears = has.clears ∙ had.clears;
      call = (has.call.0 ∙ had.call.0, has.call.1 ∙ had.call.1);
      dir = has.dir ∙ had.dir;
      vars = set_more c.loop-setting.command c.set.new.command c.args.settings.now c.loop-setting.setting-index
          c.setting-item.result c.loop-setting-test.true c.setting-item.is has.set has.others had.vars;
    }
