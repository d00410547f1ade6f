-- The files of the first inputs were copied.
use Rattle.std.proofs.Common.{◌≡◌, map, take}
use Rattle.build_outcome.specs.declared.job.WholeInput.{WholeInput}
use Rattle.builder_start.proofs.starts.files_of.Given as goal

abbrev pub invariant-inputs : goal.invariant-inputs
invariant-inputs l = l.files.items
    ≡ map (λ (input : WholeInput). input.drv) (take l.input-index l.whole)
