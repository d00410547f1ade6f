-- The parts by which a job is compared with a derivation.
use Rattle.std.specs.Prelude.{◌≡◌, List, map}
use Rattle.nix_names.specs.Bytes.{Path}
use Rattle.nix_drv.specs.Derivation.{Drv}
use Rattle.nix_drv.specs.Parts.{bytes_of, entry_of}
use Rattle.nix_drv.specs.declared.derivation.Output.{Output as OutputStruct}
use Rattle.build_outcome.specs.declared.job.Job.{Job}
use Rattle.build_outcome.specs.declared.job.JobOutput.{JobOutput}

-- A job has a derivation's builder, arguments and environment.
pub record HasRecipe (drv : Drv) (job : Job) : Type 0 where
  pub builder : job.builder.items ≡ drv.builder
  pub args : map bytes_of job.args.items ≡ drv.args
  pub env : map entry_of job.env.items ≡ drv.env

-- Just these outputs are to be made, at these paths.
pub record MakesAt (outputs : List OutputStruct) (paths : List Path) (made : List JobOutput)
    : Type 0 where
  pub names : map (λ (o : JobOutput). o.name.items) made
      ≡ map (λ (o : OutputStruct). o.name.items) outputs
  pub paths_are : map (λ (o : JobOutput). o.path) made ≡ paths
