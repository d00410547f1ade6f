use Rattle.std.proofs.Common.{◌≡◌, ◌∙◌, ◌-◌, ◌+◌, ◌<◌, length, ap, arith, false, replicate, sym, subst}
use Rattle.std.specs.List.{slice_index_or}
use Rattle.std.proofs.lemmas.Bool.{false≢true}
use Rattle.run_states.proofs.Wanting.{AreMarked, IsMarked, Marks, any_default, inputs_marked, passed_over, read_is, roots_marked, wanted_are, written}
use Rattle.run_states.specs.declared.precondition.Precondition.TheVariants.{Free}
use Rattle.run_states.proofs.wanted.wanted_of.Goals as goal
use Rattle.run_states.proofs.wanted.wanted_of.Goals.{else-index-via-then-index+else-is_free, else-index-via-else-index}

pub loop-d-init : goal.loop-d-init
loop-d-init c =
    let before = c.in_ok-wanted.wanted.items in
    let deref_is : c.deref_mut.result.now ≡ before = c.deref_mut.ensures.value in
    let none : before ≡ replicate (length c.args.plan.now.nodes) false =
    c.in_ok-wanted.ensures.items_if_clones_equal (λ y is. is)
    ∙ ap (λ n. replicate n false) c.len.ensures.value in
    let size : c.in_ok-wanted.wanted.len ≡ length c.mark.new.wanted = c.in_ok-wanted.wanted.ok.0
    ∙ sym (c.mark.ensures.count ∙ ap length deref_is) in
    let marks : Marks before c.mark.new.wanted c.args.plan.now.roots =
    subst (Marks before c.mark.new.wanted) c.roots.ensures
    (subst (λ l. Marks l c.mark.new.wanted c.roots.result.now) deref_is
    (record { count = c.mark.ensures.count; each = c.mark.ensures.each })) in
    subst (λ l. AreMarked c.args.plan.now c.args.preconditions.now l c.len-d.result)
    (sym (written _ _ _ size))
    (roots_marked _ _ _ _ _
    c.len-d.ensures.value (none ∙ ap (λ n. replicate n false) (sym c.len-d.ensures.value))
    marks)

pub loop-d-preserved-then-is_free : goal.loop-d-preserved-then-is_free
loop-d-preserved-then-is_free c =
    let d = c.loop-d.d - 1 in
    let before = c.loop-d.wanted.items in
    let low : d < length c.args.plan.now.nodes =
    omega (arith, c.loop-d-test.true, c.loop-d.auto.d, c.len-d.ensures.value) in
    let next : c.loop-d.d ≡ d + 1 = omega (arith, c.loop-d-test.true) in
    let deref_is : c.deref_mut-then-is_free.result.now ≡ before =
    c.deref_mut-then-is_free.ensures.value
    in
    let size : c.loop-d.wanted.len ≡ length c.mark-then-is_free.new.wanted = c.loop-d.wanted.ok.0
    ∙ sym (c.mark-then-is_free.ensures.count ∙ ap length deref_is) in
    let marks : Marks before c.mark-then-is_free.new.wanted c.inputs.result.now =
    subst (λ l. Marks l c.mark-then-is_free.new.wanted c.inputs.result.now) deref_is
    (record {
      count = c.mark-then-is_free.ensures.count;
      each = c.mark-then-is_free.ensures.each;
    }) in
    let marked : IsMarked before d = read_is _ d _ _
    (omega (arith, low, c.loop-d.invariant.count)) c.index.ensures ∙ c.if-index.true in
    let stands : slice_index_or c.args.preconditions.now d Free
    ≡ Free = any_default c.args.preconditions.now d Free _ (omega (arith, low, c.requires))
    ∙ c.is_free.ensures.0 c.if-is_free.true in
    subst (λ l. AreMarked c.args.plan.now c.args.preconditions.now l d)
    (sym (written _ _ _ size))
    (inputs_marked _ _ _ _
    _ _ d c.len-d.ensures.sound low next c.inputs.ensures.numbers
    marked stands marks c.loop-d.invariant)

pub loop-d-preserved : goal.loop-d-preserved
loop-d-preserved c = elim c.else-index.branch [
  | else-index-via-then-index+else-is_free w ↦
      passed_over c.args.plan.now c.args.preconditions.now c.loop-d.wanted.items c.loop-d.d
      (c.loop-d.d - 1) (omega (arith, c.loop-d-test.true))
      (λ marked stands.
      let low : c.loop-d.d - 1 < length c.args.preconditions.now =
      omega (arith, c.loop-d-test.true, c.loop-d.auto.d, c.len-d.ensures.value, c.requires) in
      false≢true (sym w.if-is_free.false ∙ w.is_free.ensures.1
      (any_default _ _ _ _ low ∙ stands)))
      c.loop-d.invariant
  | else-index-via-else-index w ↦
      passed_over c.args.plan.now c.args.preconditions.now c.loop-d.wanted.items c.loop-d.d
      (c.loop-d.d - 1) (omega (arith, c.loop-d-test.true))
      (λ marked stands.
      let low : c.loop-d.d - 1 < length c.loop-d.wanted.items =
      omega (
        arith,
        c.loop-d-test.true,
        c.loop-d.auto.d,
        c.len-d.ensures.value,
        c.loop-d.invariant.count,
      ) in
      let told = read_is _ _ _ _ low
      c.index.ensures in
      false≢true (sym (told ∙ w.if-index.false) ∙ marked))
      c.loop-d.invariant
]

pub returns-clause-ok : goal.returns-clause-ok
returns-clause-ok c =
    wanted_are _ _ _
    (subst (AreMarked c.args.plan.now c.args.preconditions.now c.loop-d.wanted.items)
    (omega (arith, c.loop-d-test.false)) c.loop-d.invariant)
