use Rattle.std.proofs.Common.{◌≡◌, ◌+◌, ◌<◌, ℕ, [], ◌∷◌, List, Some, arith, drop, get_or, length, length-drop, subst, sym}
use Rattle.std.proofs.lemmas.List.{get_or_default, take_all}
use Rattle.std.proofs.lemmas.Result.{err_from_is_err_and}
use Rattle.valid_table.specs.declared.entry.Registration.{Registration}
use Rattle.build_outcome.specs.declared.reason.Reason.TheVariants.{BadGraph}
use Rattle.builder_start.specs.Entries.{root_of}
use Rattle.builder_start.specs.Graphs.{IsGraph}
use Rattle.builder_start.specs.declared.pairs.Pair.{Pair}
use Rattle.builder_start.proofs.Files.{all_good, one_bad, one_more, why_follows}
use Rattle.builder_start.proofs.entries.files_of.Goals as goal

none : Pair
none = record {
  name = record { ref_ptr = (0, 0); now = [] };
  text = record { ref_ptr = (0, 0); now = [] };
}

pub loop-i-preserved : goal.loop-i-preserved
unfolding none
loop-i-preserved c =
    let rows = c.args.rows.now in
    let pairs = c.args.pairs.now in
    let i = c.loop-i.i in
    let within : i < length pairs = omega arith in
    let pair : Pair = get_or pairs i none in
    one_more rows c.args.whole.now pairs i pair c.deref.result.now c.loop-i.files.items c.add_last.new.files.items
    within (get_or_default pairs i none pair within) c.loop-i.invariant c.in_ok-graph.ensures.good
    (subst (λ (graph : List Registration). (root : List ℕ)
    × (root_of rows pair.text.now ≡ Some root) × IsGraph rows c.args.whole.now (root ∷ []) graph)
    (sym c.deref.ensures.value) c.in_ok-graph.ensures.graph)
    _ (take_all _ (drop (i + 1) pairs) (omega (arith, length-drop (i + 1) pairs)))
    c.in_ok-add_last.ensures

pub returns-in_err-graph-clause-bad : goal.returns-in_err-graph-clause-bad
unfolding none
returns-in_err-graph-clause-bad c =
    let pairs = c.args.pairs.now in
    let i = c.loop-i.i in
    let within : i < length pairs = omega arith in
    let p = err_from_is_err_and c.from_residual.result c.from_residual.ensures.1 in
    rw (p.1, p.2)
    (why_follows BadGraph _
    (one_bad c.args.rows.now c.args.whole.now pairs i (get_or pairs i none) within
    (get_or_default pairs i none (get_or pairs i none) within))
    c.in_err-graph.ensures.bad)

pub returns-clause-good : goal.returns-clause-good
returns-clause-good c =
    all_good c.args.rows.now c.args.whole.now c.args.pairs.now c.loop-i.i c.loop-i.files.items (omega arith)
    c.loop-i.invariant
