use Rattle.std.proofs.Common.{◌∙◌, refl}
use Rattle.sched_core.proofs.JobParts.{job_is, paths_count}
use Rattle.sched_core.proofs.job_of.job_of.Goals as goal

pub outputs_of-requires : goal.outputs_of-requires
outputs_of-requires c =
    paths_count c.args.plan.now.nodes c.args.d c.drv-drv.result.now c.outputs.result.now
    c.output_paths.result.now c.requires c.drv-drv.ensures c.outputs.ensures
    c.output_paths.ensures.value

pub returns : goal.returns
returns c = record {
  ok = job_is c.args.plan.now c.args.d c.drv-drv.result.now c.outputs.result.now
      c.output_paths.result.now c.in_ok-builder.field-0 _
      c.requires c.drv-drv.ensures c.outputs.ensures c.output_paths.ensures.value
      c.in_ok-outputs.ensures.names c.in_ok-outputs.ensures.paths
      (c.in_ok-builder.ensures ∙ c.parts.ensures.parts) refl refl refl refl c.profile.ensures c.kind.ensures
      c.in_ok-seeds.ensures c.in_ok-whole_inputs.ensures;
}
