use Rattle.std.proofs.Common.{◌≡◌, ◌<◌, ◌∙◌, arith, length, refl, rules, subst, sym}
use Rattle.std.proofs.lemmas.Bool.{false≢true}
use Rattle.std.proofs.lemmas.Option.{slice_get_read}
use Rattle.build_outcome.proofs.RootPaths.{AreOutside, outside_more, outside_none, outside_same}
use Rattle.build_outcome.proofs.checks.roots.paths_outside.Goals as goal
use Rattle.build_outcome.proofs.checks.roots.paths_outside.Goals.{then-is_met+in_ok-add_outside, else-is_met}

pub loop-n-init : goal.loop-n-init
loop-n-init c = search (rules, outside_none)

pub loop-n-preserved : goal.loop-n-preserved
loop-n-preserved c =
    let below : c.loop-n.n < length c.args.outputs.now =
    omega (arith, c.loop-n-test.true, c.requires.count) in
    let path_at = slice_get_read _ _ _
    _ refl below c.index-outputs-n.is in
    let info_at = slice_get_read _ _ _
    _ refl c.loop-n-test.true c.index-records-n.is in
    elim c.if-is_met.branch [
      | then-is_met+in_ok-add_outside w ↦
          let adds = rw w.references.ensures.value at w.in_ok-add_outside.ensures in
          rw w.outside-is
          (outside_more _ _ _ _ _ _ _ _ _
          c.loop-n.invariant path_at info_at (c.is_met.ensures.0 w.if-is_met.true) adds)
      | else-is_met w ↦ rw w.outside-is
          (outside_same _ _ _ _ _ _ _ c.loop-n.invariant path_at
          (λ is. false≢true (sym w.if-is_met.false ∙ c.is_met.ensures.1 is)))
    ]

pub returns : goal.returns
returns c =
    let all : c.loop-n.n ≡ length c.args.records.now = omega arith in
    subst (λ n. AreOutside c.args.outputs.now c.args.records.now c.args.keys.now.keys
    c.args.marks.now n c.loop-n.outside.items) all c.loop-n.invariant
