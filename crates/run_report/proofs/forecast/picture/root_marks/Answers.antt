use Rattle.std.proofs.Common.{◌≡◌, ◌∙◌, ap, false, length, replicate, subst, sym}
use Rattle.run_states.proofs.Wanting.{Marks, written}
use Rattle.run_report.specs.private.Marks.{AreRoots}
use Rattle.run_report.proofs.Drawn.{roots_are}
use Rattle.run_report.proofs.forecast.picture.root_marks.Goals as goal

pub returns : goal.returns
returns c =
    let before = c.in_ok-marks.marks.items in
    let deref_is : c.deref_mut.result.now ≡ before = c.deref_mut.ensures.value in
    let none : before ≡ replicate (length c.args.plan.now.nodes) false =
    c.in_ok-marks.ensures.items_if_clones_equal (λ y is. is)
    ∙ ap (λ n. replicate n false) c.len.ensures.value in
    let size : c.in_ok-marks.marks.len ≡ length c.mark.new.wanted = c.in_ok-marks.marks.ok.0
    ∙ sym (c.mark.ensures.count ∙ ap length deref_is) in
    let marks : Marks before c.mark.new.wanted c.args.plan.now.roots =
    subst (Marks before c.mark.new.wanted) c.roots.ensures
    (subst (λ l. Marks l c.mark.new.wanted c.roots.result.now) deref_is
    (record { count = c.mark.ensures.count; each = c.mark.ensures.each })) in
    subst (AreRoots c.args.plan.now) (sym (written c.mark.new.wanted _ c.in_ok-marks.marks.len
    size))
    (roots_are c.args.plan.now before c.mark.new.wanted none marks)
