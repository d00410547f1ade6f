use Rattle.builder_start.proofs.GraphStarts.{files_same}
use Rattle.builder_start.proofs.starts.files_of.Goals as goal

pub returns-clause-same : goal.returns-clause-same
returns-clause-same c =
    files_same c.args.whole.now c.inputs.input-index c.inputs.files.items
    c.sort_paths.result.items c.inputs-test.false c.inputs.invariant c.sort_paths.ensures.same
