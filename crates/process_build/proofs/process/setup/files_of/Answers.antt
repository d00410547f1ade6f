use Rattle.std.proofs.Common.{◌∙◌, ◌++◌, ap, map, subst, sym}
use Rattle.std.specs.List.{AllZip}
use Rattle.build_outcome.specs.declared.preparation.Prepared.TheVariants.{Entries}
use Rattle.process_build.specs.Setups.{IsFileOf, entries_in_files, file_of_entry, file_of_graph}
use Rattle.process_build.specs.Setups.{files_under}
use Rattle.process_build.proofs.process.setup.files_of.Goals as goal

pub returns-in_ok-push_graphs-in-Nix-Entries-clause-files :
    goal.returns-in_ok-push_graphs-in-Nix-Entries-clause-files
returns-in_ok-push_graphs-in-Nix-Entries-clause-files c =
    let job = c.args.job.now in
    let texts = map file_of_entry (entries_in_files job) in
    subst (λ l. AllZip (IsFileOf c.args.placeholders.now.outputs.now) l c.push_graphs.new.files.items)
    (ap (λ graphs. texts ++ map file_of_graph graphs) c.deref.ensures.value
    ∙ ap (λ p. files_under p job (Entries c.in-Nix-Entries.graphs)) (sym c.in-Nix-Entries.is-0)
    ∙ ap (files_under job.profile job) (sym c.in-Nix-Entries.is-1))
    (c.in_ok-push_graphs-in-Nix-Entries.ensures c.args.placeholders.now.outputs.now texts
    c.in_ok-files-in-Nix-Entries.ensures.files)
