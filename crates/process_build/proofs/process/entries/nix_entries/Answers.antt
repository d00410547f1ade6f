use Rattle.std.proofs.Common.{◌∙◌, ◌++◌, ◌∷◌, [], ap, map, refl}
use Rattle.std.proofs.lemmas.List.{map-append}
use Rattle.process_build.specs.Setups.{text_entries}
use Rattle.process_build.specs.private.RawVars.{entry_of_raw}
use Rattle.process_build.proofs.Mapped.{three_more}
use Rattle.process_build.proofs.process.entries.nix_entries.Goals as goal

pub returns-clause-entries : goal.returns-clause-entries
returns-clause-entries c =
    c.in_ok-push_text_paths.ensures
    ∙ ap (λ l. l ++ text_entries c.args.around.now.folder.now c.args.prepared.now)
    (three_more _ _ _ _ _ _ _ _ _ _ _
    (three_more [] _ _ _ _ _ _ _ _ _ _ (ap (map entry_of_raw) c.new-entries.ensures.items)
    c.in_ok-push_settings.ensures
    (ap (map entry_of_raw) c.in_ok-push.ensures.items ∙ map-append entry_of_raw _ (_ ∷ []))
    c.in_ok-push_attributes.ensures.own c.settings_before.ensures c.in_ok-cores_var.ensures refl)
    c.in_ok-push_settings-2.ensures c.in_ok-push_fixed.ensures c.in_ok-push_settings-3.ensures
    c.settings_after.ensures refl c.settings_at_last.ensures)
