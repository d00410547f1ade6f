use Rattle.std.proofs.Common.{◌≡◌, ◌∙◌, ◌++◌, ◌∷◌, [], ◌+◌, ◌<◌, ℕ, List, ap, append_assoc, get_or}
use Rattle.std.proofs.Common.{length, map, subst, sym, take}
use Rattle.std.specs.List.{AllZip}
use Rattle.std.proofs.lemmas.List.{map_more, take_all}
use Rattle.std.proofs.lemmas.Slice.Zip.{all_zipped_more}
use Rattle.build_outcome.specs.declared.job.JobOutput.{JobOutput}
use Rattle.build_outcome.specs.declared.preparation.PreparedFile.{PreparedFile}
use Rattle.process_build.specs.Setups.{FileText, IsFileOf, file_of_graph}
use Rattle.process_build.specs.declared.process.setup.SetupFile.{SetupFile}
use Rattle.process_build.proofs.process.setup.push_graphs.Goals as goal

-- one more file
graph_more : (outputs : List JobOutput) (texts : List FileText) (graphs : List PreparedFile) (i : ℕ)
    (graph : PreparedFile) (files : List SetupFile) (file : SetupFile) → i < length graphs
    → graph ≡ get_or graphs i graph
    → AllZip (IsFileOf outputs) (texts ++ map file_of_graph (take i graphs)) files
    → IsFileOf outputs (file_of_graph graph) file
    → AllZip (IsFileOf outputs) (texts ++ map file_of_graph (take (i + 1) graphs)) (files ++ file ∷ [])
graph_more outputs texts graphs i graph files file low is had one =
    let before : List FileText = map file_of_graph (take i graphs) in
    subst (λ l. AllZip (IsFileOf outputs) l (files ++ file ∷ []))
    (append_assoc texts before (file_of_graph graph ∷ [])
    ∙ ap (λ l. texts ++ l) (ap (λ v. before ++ file_of_graph v ∷ []) is
    ∙ sym (map_more file_of_graph graphs i graph low)))
    (all_zipped_more (IsFileOf outputs) (texts ++ before) files (file_of_graph graph) file had one)

pub loop-graph-preserved : goal.loop-graph-preserved
loop-graph-preserved c = λ outputs texts had.
    subst (AllZip (IsFileOf outputs)
    (texts ++ map file_of_graph (take (c.loop-graph.graph-index + 1) c.args.graphs.now)))
    (sym c.in_ok-push.ensures.items)
    (graph_more outputs texts c.args.graphs.now c.loop-graph.graph-index c.graph-item.result
    c.loop-graph.files.items _ c.loop-graph-test.true c.graph-item.is
    (c.loop-graph.invariant outputs texts had) c.file_of_graph.ensures)

pub returns : goal.returns
returns c = λ outputs texts had.
    subst (λ l. AllZip (IsFileOf outputs) (texts ++ map file_of_graph l) c.loop-graph.files.items)
    (take_all c.loop-graph.graph-index c.args.graphs.now c.loop-graph-test.false)
    (c.loop-graph.invariant outputs texts had)
