use Rattle.std.proofs.Common.{◌≡◌, map, take}
use Rattle.process_build.proofs.disk.folders.output_paths.Given as goal

-- the paths so far are those of the outputs so far
abbrev pub invariant-loop-output : goal.invariant-loop-output
invariant-loop-output l =
    map (λ p. p.now) l.paths.items
    ≡ map (λ output. output.path) (take l.output-index l.job.outputs.items)
