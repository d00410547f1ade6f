use Rattle.std.proofs.Common.{◌∙◌, ap, map, subst}
use Rattle.std.specs.List.{AllZip}
use Rattle.process_build.specs.Setups.{IsFileOf, IsFilled, IsFilledEntry, entries_under}
use Rattle.process_build.specs.Setups.{entry_of_var, files_under, name_under, text_bytes}
use Rattle.process_build.specs.private.RawVars.{entry_of_raw}
use Rattle.process_build.proofs.process.setup.Setup.of.Goals as goal

pub returns-clause-setup : goal.returns-clause-setup
returns-clause-setup c =
    let job = c.args.job.now in
    let held = c.in_ok-placeholders.placeholders.outputs.now in
    let outputs = c.in_ok-placeholders.ensures.outputs ∙ c.filled_outputs.ensures in
    record {
      builder = c.in_ok-builder.ensures.text.0 ∙ c.builder_of-text.ensures;
      name = c.in_ok-name.ensures.text.0 ∙ c.name_of.ensures
          ∙ ap (name_under job.profile) c.builder_of-text.ensures;
      args =
          subst (λ o. AllZip (λ arg filled. IsFilled o arg.items (text_bytes filled)) job.args.items
          c.in_ok-args.args.items) outputs
          (subst (λ l. AllZip (λ arg filled. IsFilled held arg.items (text_bytes filled)) l
          c.in_ok-args.args.items) c.deref.ensures.value c.in_ok-args.ensures.filled);
      env =
          subst (λ o. AllZip (λ e filled. IsFilledEntry o e (entry_of_var filled))
          (entries_under job.profile c.args.around.now job c.args.prepared.now)
          c.in_ok-env.env.items) outputs
          (subst (λ l. AllZip (λ e filled. IsFilledEntry held e (entry_of_var filled)) l
          c.in_ok-env.env.items)
          (ap (map entry_of_raw) c.deref-2.ensures.value ∙ c.in_ok-entries.ensures.entries)
          c.in_ok-env.ensures.filled);
      files =
          subst (λ o. AllZip (IsFileOf o) (files_under job.profile job c.args.prepared.now)
          c.in_ok-files.files.items) outputs c.in_ok-files.ensures.files;
    }
