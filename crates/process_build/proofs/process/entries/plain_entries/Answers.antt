use Rattle.std.proofs.Common.{◌∙◌, [], ap, map}
use Rattle.nix_drv.specs.Parts.{entry_of}
use Rattle.process_build.specs.private.RawVars.{entry_of_raw}
use Rattle.process_build.proofs.Mapped.{all_own, three_more}
use Rattle.process_build.proofs.process.entries.plain_entries.Goals as goal

pub returns-clause-entries : goal.returns-clause-entries
returns-clause-entries c =
    three_more [] _ _ _ _ _ _ _ _ _ _ (ap (map entry_of_raw) c.new-entries.ensures.items)
    c.in_ok-push_settings.ensures c.in_ok-push_own.ensures.own c.in_ok-push_settings-2.ensures
    c.settings_before.ensures
    (all_own c.args.around.now.folder.now (map entry_of c.deref.result.now)
    ∙ ap (map entry_of) c.deref.ensures.value)
    c.settings_after.ensures
