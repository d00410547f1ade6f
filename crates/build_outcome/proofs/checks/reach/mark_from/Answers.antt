use Rattle.std.proofs.Common.{◌<◌, [], ◌∷◌, ap, arith, length, length-append, refl, subst}
use Rattle.std.proofs.lemmas.Option.{slice_get_read}
use Rattle.build_outcome.specs.private.Reaching.{IsReaching}
use Rattle.build_outcome.proofs.Reaches.{nothing_waits, numbers_within, reaching_begun, reaching_done, reaching_step, waiting_within}
use Rattle.build_outcome.proofs.checks.reach.mark_from.Goals as goal

pub loop-top-init : goal.loop-top-init
loop-top-init c =
    rw c.in_ok-left.ensures.items
    (reaching_begun _ _ _ c.requires.within c.requires.none)

pub bounds-links-top : goal.bounds-links-top
bounds-links-top c =
    waiting_within _ _ _ _ _
    (subst (λ l. IsReaching c.args.links.now c.args.start c.loop-top.marks l)
    c.in-Some.ensures.items c.loop-top.invariant)

pub offset_bounds-links-top : goal.offset_bounds-links-top
offset_bounds-links-top c =
    let below : c.in-Some.top < length c.args.links.now = waiting_within _ _ _ _ _
    (subst (λ l. IsReaching c.args.links.now c.args.start c.loop-top.marks l)
    c.in-Some.ensures.items c.loop-top.invariant) in
    omega arith

pub mark_all-requires : goal.mark_all-requires
mark_all-requires c =
    let before = subst (λ l. IsReaching c.args.links.now c.args.start c.loop-top.marks l)
    c.in-Some.ensures.items c.loop-top.invariant in
    let at = slice_get_read _ _ _ _ refl (waiting_within _ _ _ _ _ before) c.index-links-top.is in
    rw c.deref.ensures.value
    (numbers_within _ _ _ _ c.requires.inner c.loop-top.invariant.count at)

pub loop-top-preserved : goal.loop-top-preserved
loop-top-preserved c =
    let before = subst (λ l. IsReaching c.args.links.now c.args.start c.loop-top.marks l)
    c.in-Some.ensures.items c.loop-top.invariant in
    let at = slice_get_read _ _ _ _ refl (waiting_within _ _ _ _ _ before) c.index-links-top.is in
    reaching_step _ _ _ _ _ _ _ _ before at (rw c.deref.ensures.value at c.in_ok-mark_all.ensures)

pub loop-top-smaller : goal.loop-top-smaller
loop-top-smaller c =
    omega (
      arith,
      c.in_ok-mark_all.ensures.measure,
      ap (λ l. length l) c.in-Some.ensures.items,
      length-append c.pop.new.self.items (c.in-Some.top ∷ []),
    )

pub returns : goal.returns
returns c = reaching_done _ _ _ _ c.loop-top.invariant
    (nothing_waits _ (omega (arith, c.in_default.ensures.cases)))
