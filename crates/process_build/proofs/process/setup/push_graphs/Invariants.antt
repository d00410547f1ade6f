use Rattle.std.proofs.Common.{◌++◌, List, map, take}
use Rattle.std.specs.List.{AllZip}
use Rattle.build_outcome.specs.declared.job.JobOutput.{JobOutput}
use Rattle.process_build.specs.Setups.{FileText, IsFileOf, file_of_graph}
use Rattle.process_build.proofs.process.setup.push_graphs.Given as goal

-- the files so far stand after the others
abbrev pub invariant-loop-graph : goal.invariant-loop-graph
invariant-loop-graph l = (outputs : List JobOutput) → (texts : List FileText)
    → AllZip (IsFileOf outputs) texts l.fn.files.items
    → AllZip (IsFileOf outputs) (texts ++ map file_of_graph (take l.graph-index l.graphs))
    l.files.items
