use Rattle.std.proofs.Common.{◌++◌, ◌∙◌, ℕ, List, ap, map}
use Rattle.valid_table.specs.Entries.{paths_registered}
use Rattle.build_outcome.specs.declared.job.JobOutput.{JobOutput}
use Rattle.builder_start.proofs.Lacking.{namable_found}
use Rattle.builder_start.proofs.requests.namable.Goals as goal

pub returns : goal.returns
returns c =
    namable_found c.args.rows.now c.args.job.now c.add_outputs.new.paths.items
    c.sort_paths.result.items
    (c.in_ok-add_outputs.ensures
    ∙ ap (λ (ps : List (List ℕ)). ps ++ map (λ (o : JobOutput). o.path) c.deref.result.now)
    (c.in_ok-paths.ensures ∙ ap paths_registered c.as_slice.ensures.value)
    ∙ ap (λ (os : List JobOutput). paths_registered c.args.rows.now ++ map (λ (o : JobOutput). o.path) os)
    c.deref.ensures.value)
    c.sort_paths.ensures.rising c.sort_paths.ensures.same
