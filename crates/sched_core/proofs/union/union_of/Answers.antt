use Rattle.std.proofs.Common.{◌≡◌, ◌∙◌, ◌++◌, ◌∷◌, [], ap, arith, drop, reverse, subst, sym}
use Rattle.std.specs.Prelude.{Contains}
use Rattle.std.proofs.lemmas.List.{take-append-drop}
use Rattle.nix_names.specs.Rising.{IsRising}
use Rattle.nix_names.proofs.RisingLists.{rising_front}
use Rattle.valid_table.specs.Unions.{IsUnion}
use Rattle.sched_core.proofs.UnitedPaths.{IsGap, IsUniting, found_told, gap_told, nothing_left, turned, uniting_all, uniting_found, uniting_inserted}
use Rattle.sched_core.proofs.union.union_of.Goals as goal

pub loop-path-preserved : goal.loop-path-preserved
loop-path-preserved c =
    let below = c.loop-path.below.items in
    let before = subst (λ l. IsUniting c.args.paths.items c.args.others.items below l
    (reverse c.loop-path.above.items)) c.in-Some.ensures.items c.loop-path.invariant in
    uniting_found _ _ _ _
    _ _ before
    (subst (λ l. Contains l c.in-Some.path) c.deref.ensures.value
    (found_told _ _ _
    c.in_default-binary_search.ensures.bound c.in_default-binary_search.ensures.ok))

pub loop-path-preserved-in-Continue-branch-2 : goal.loop-path-preserved-in-Continue-branch-2
loop-path-preserved-in-Continue-branch-2 c =
    let below = c.loop-path.below.items in
    let above = c.loop-path.above.items in
    let path = c.in-Some.path in
    let index = c.in-Err.index in
    let before = subst (λ l. IsUniting c.args.paths.items c.args.others.items below l
    (reverse above)) c.in-Some.ensures.items c.loop-path.invariant in
    let tail = drop index below in
    let gap : IsGap below path index = subst (λ l. IsGap l path index) c.deref.ensures.value
    (gap_told _ _ _
    (subst IsRising (sym c.deref.ensures.value)
    (rising_front _ _ c.loop-path.invariant.below_rises))
    c.in-Err.ensures.bound c.in-Err.ensures.position) in
    let up : reverse c.push.new.self.items ≡ path ∷ (tail ++ reverse above)
    = ap reverse (c.in_ok-push.ensures.items
    ∙ ap (λ l. l ++ path ∷ []) c.in_ok-take_off.ensures.above) ∙ turned above tail _ in
    rw (up, c.in_ok-take_off.ensures.below)
    (uniting_inserted _ _ _ _
    _ _ before _ _ (sym (take-append-drop index below))
    gap.before gap.above)

pub returns : goal.returns
returns c =
    let below = c.loop-path.below.items in
    let above = reverse c.loop-path.above.items in
    let none : c.loop-path.left.items ≡ [] = nothing_left _
    (omega (arith, c.in_default.ensures.cases)) in
    let all : c.append.new.self.items ≡ below ++ above = c.in_ok-append.ensures.items
    ∙ ap (λ l. below ++ l) c.reverse.ensures.items in
    subst (IsUnion c.args.paths.items c.args.others.items) (sym all)
    (uniting_all _ _ _ _
    (subst (λ l. IsUniting c.args.paths.items c.args.others.items below l above) none
    c.loop-path.invariant))
