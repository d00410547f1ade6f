use Rattle.std.proofs.Common.{◌≡◌, ◌∙◌, ◌++◌, ◌∷◌, ◌&&◌, Bool, List, [], ap, ap₂, arith, false, length, refl, subst, sym}
use Rattle.std.proofs.lemmas.List.FromFn.{length-map-range_with_len, map-range_with_len_more}
use Rattle.std.specs.List.{range_with_len}
use Rattle.std.specs.Prelude.{map}
use Rattle.run_states.specs.Runs.{Run, terms_of}
use Rattle.run_states.specs.StateTables.{ArePreconditions}
use Rattle.run_states.specs.declared.precondition.Precondition.{Precondition}
use Rattle.run_states.specs.declared.precondition.Precondition.TheVariants.{Free}
use Rattle.nix_realise.proofs.CauseLines.{mark_of, marks_are, read_within}
use Rattle.nix_realise.specs.CauseLines.{is_refused_so}
use Rattle.nix_realise.proofs.words.cause_lines.refused_marks.Goals as goal

pub loop-number-preserved : goal.loop-number-preserved
loop-number-preserved c =
    let n = c.loop-number.number in
    let below = c.loop-number-test.true in
    let nodes = c.len-number-end.ensures.value in
    let many = c.in_ok-wanted.ensures.count in
    let preconditions = c.in_ok-preconditions.ensures.ok.count in
    let wanted = read_within c.in_ok-wanted.wanted.items n c.index.result.now false
    (omega (arith, below, nodes, many)) c.index.ensures in
    let precondition =
    read_within c.in_ok-preconditions.preconditions.items n c.index-in-loop-number.result.now Free
    (omega (arith, below, nodes, preconditions)) c.index-in-loop-number.ensures in
    c.in_ok-push.ensures.items
    ∙ ap₂ (λ marks mark. marks ++ mark ∷ []) c.loop-number.invariant
    (c.is_refused_so.ensures ∙ ap₂ (λ w s. w && is_refused_so s) wanted precondition)
    ∙ sym (map-range_with_len_more
    (mark_of c.in_ok-wanted.wanted.items c.in_ok-preconditions.preconditions.items) 0 n n
    (omega arith))

pub returns-clause-count : goal.returns-clause-count
returns-clause-count c =
    let most = c.loop-number-test.false in
    let least = c.loop-number.auto.number-end in
    let count = c.len-number-end.ensures.value in
    ap length c.loop-number.invariant
    ∙ length-map-range_with_len
    (mark_of c.in_ok-wanted.wanted.items c.in_ok-preconditions.preconditions.items) 0
    c.loop-number.number
    ∙ omega (arith, most, least, count)

pub returns-clause-each : goal.returns-clause-each
returns-clause-each c =
    let run : Run = record { graph = c.args.plan.now; system = c.args.system.now } in
    let opening = c.args.opening.now.entries in
    let preconditions : List Precondition = c.in_ok-preconditions.preconditions.items in
    let wanted : List Bool = c.in_ok-wanted.wanted.items in
    let most = c.loop-number-test.false in
    let least = c.loop-number.auto.number-end in
    let count = c.len-number-end.ensures.value in
    let all : c.loop-number.number ≡ length c.args.plan.now.nodes =
    omega (arith, most, least, count) in
    let are_wanted = c.in_ok-wanted.ensures.ok run opening refl
    (subst (ArePreconditions (terms_of run) opening run.graph.nodes) (sym c.deref.ensures.value)
    c.in_ok-preconditions.ensures.ok) in
    marks_are run opening wanted preconditions c.loop-number.marks.items
    c.in_ok-preconditions.ensures.ok
    are_wanted
    (c.loop-number.invariant
    ∙ ap (λ n. map (mark_of wanted preconditions) (range_with_len 0 n)) all)
