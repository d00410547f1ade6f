use Rattle.std.proofs.Common.{◌≡◌, ◌∙◌, ap, map, subst, sym}
use Rattle.std.proofs.lemmas.List.{take_all}
use Rattle.std.proofs.lemmas.List.Filters.{dedup_is}
use Rattle.nix_names.specs.Rising.{IsRising}
use Rattle.nix_names.proofs.RisingLists.{members_of_dedup, rising_dedup}
use Rattle.valid_table.specs.private.Closing.{HaveSame}
use Rattle.build_outcome.specs.Verdicts.{outputs_of}
use Rattle.build_outcome.specs.declared.job.JobOutput.{JobOutput}
use Rattle.sched_core.proofs.permitted.sorted_outputs.Goals as goal

pub returns-clause-rising : goal.returns-clause-rising
returns-clause-rising c =
    subst IsRising (sym (dedup_is _ _ _ c.dedup.ensures.filtered))
    (rising_dedup _ c.sort_unstable.ensures.sorted)

pub returns-clause-same : goal.returns-clause-same
returns-clause-same c =
    let all : c.loop-output.sorted.items ≡ outputs_of c.args.job.now = c.loop-output.invariant.paths
    ∙ ap (map (λ (o : JobOutput). o.path))
    (take_all c.loop-output.output-index c.args.job.now.outputs.items
    (rw (← c.deref-output-items.ensures.value) c.loop-output-test.false)) in
    subst (HaveSame c.dedup.new.self.items) all
    (rw (dedup_is _ _ _ c.dedup.ensures.filtered)
    (members_of_dedup _ _ c.sort_unstable.ensures.permutation))
