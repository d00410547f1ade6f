use Rattle.std.proofs.Common.{◌≡◌, arith, length, refl, subst, sym, rules}
use Rattle.drv_graph.specs.PlanNodes.{nodes_of}
use Rattle.drv_graph.specs.private.Walks.{IsVisited}
use Rattle.drv_graph.proofs.Counting.{counted_before}
use Rattle.drv_graph.proofs.Owners.{contains_item}
use Rattle.drv_graph.proofs.Walking.{IsWalk}
use Rattle.drv_graph.proofs.WalkSteps.{gives_trans, less_going, popped_is, popped_sources, reverse_one, root_opens, root_read, root_stops, walk_ends, walk_goes_on, walk_stops}
use Rattle.drv_graph.proofs.Ends.{err_is}
use Rattle.drv_graph.proofs.walks.walk.walk.Goals as goal

pub go_on-requires-clause-pending : goal.go_on-requires-clause-pending
go_on-requires-clause-pending g c =
    (popped_is _ (g.S.DrvSource.gives _)
    (g.S.DrvSource.gives c.walk.source) _ _
    _ _ _
    _ _ c.walk.invariant.walk c.in-Some.ensures.items).1

pub go_on-requires-clause-is_new : goal.go_on-requires-clause-is_new
go_on-requires-clause-is_new g c =
    (popped_is _ (g.S.DrvSource.gives _)
    (g.S.DrvSource.gives c.walk.source) _ _
    _ _ _
    _ _ c.walk.invariant.walk c.in-Some.ensures.items).2

pub go_on-requires-clause-in_store : goal.go_on-requires-clause-in_store
go_on-requires-clause-in_store g c =
    popped_sources _ (g.S.DrvSource.gives _)
    (g.S.DrvSource.gives c.walk.source) _ _
    _ _ _
    _ _ c.walk.invariant.walk c.in-Some.ensures.items

pub returns-in_err-go_on-in-Some-clause-device : goal.returns-in_err-go_on-in-Some-clause-device
returns-in_err-go_on-in-Some-clause-device g c = search (rules, err_is, counted_before)

pub returns-in_err-number-in-None-clause-device : goal.returns-in_err-number-in-None-clause-device
returns-in_err-number-in-None-clause-device g c = search (rules, err_is, counted_before)

pub walk-smaller-in-Continue-1 : goal.walk-smaller-in-Continue-1
walk-smaller-in-Continue-1 g c =
    less_going _ (g.S.DrvSource.gives _) _ _
    _ _ _ _ _
    c.in-Some.ensures.items c.in_ok-go_on-in-Some.ensures.going_on

pub walk-preserved-in-Continue-1 : goal.walk-preserved-in-Continue-1
walk-preserved-in-Continue-1 g c =
    let has_root = contains_item _ _ _
    _ c.requires.index c.index-roots-index.is refl in
    record {
      keeps = gives_trans (g.S.DrvSource.gives _)
          (g.S.DrvSource.gives _) (g.S.DrvSource.gives _)
          c.walk.invariant.keeps c.in_ok-go_on-in-Some.ensures.keeps;
      counts = omega (arith, c.walk.invariant.counts, c.in_ok-go_on-in-Some.ensures.counts);
      walk = walk_goes_on _ (g.S.DrvSource.gives _)
          (g.S.DrvSource.gives _) _ _
          _ _ _ _
          _ _ _ _ has_root
          c.walk.invariant.keeps c.walk.invariant.walk c.in-Some.ensures.items
          c.in_ok-go_on-in-Some.ensures.going_on;
    }

pub returns-in_err-go_on-in-Some-clause-walking : goal.returns-in_err-go_on-in-Some-clause-walking
returns-in_err-go_on-in-Some-clause-walking g c = λ root at.
    let has_root = contains_item _ _ _
    _ c.requires.index c.index-roots-index.is refl in
    rw (err_is _ _ c.from_residual.ensures.1)
    (walk_stops _ (g.S.DrvSource.gives _)
    (g.S.DrvSource.gives _) _ _
    _ _ c.go_on.new.found _
    _ c.go_on.new.visits.items _
    _ has_root c.walk.invariant.keeps c.walk.invariant.walk
    c.in-Some.ensures.items c.in_err-go_on-in-Some.ensures.going_on)

pub returns-in_err-number-in-None-clause-walking : goal.returns-in_err-number-in-None-clause-walking
returns-in_err-number-in-None-clause-walking g c = λ root at.
    let has_root = contains_item _ _ _
    _ c.requires.index c.index-roots-index.is refl in
    let cases = c.in-None.ensures.cases in
    let none : length c.walk.visits.items ≡ 0 = omega (arith, cases.0, c.walk.visits.ok.0) in
    rw (err_is _ _ c.from_residual-in_err-number-in-None.ensures.1)
    (root_stops _ (g.S.DrvSource.gives _)
    (g.S.DrvSource.gives _) _ _
    _ _ _
    _ has_root c.walk.invariant.keeps c.walk.invariant.walk none
    c.in_err-number-in-None.ensures.meeting)

pub returns-in-Done-clause-walking : goal.returns-in-Done-clause-walking
returns-in-Done-clause-walking g c = λ root at.
    let cases = c.in-None.ensures.cases in
    let none : length c.walk.visits.items ≡ 0 = omega (arith, cases.0, c.walk.visits.ok.0) in
    let met = rw c.in-Done.is at c.in_ok-number-in-None.ensures.meeting in
    let same = root_read _ _ _ _
    c.requires.index c.index-roots-index.is at in
    let ends = walk_ends _ (g.S.DrvSource.gives _) _
    _ _ _ _
    _ c.walk.invariant.walk none met.1 in
    subst
    (λ r. IsVisited c.args.rules.now.profile c.args.rules.now.dir.now (g.S.DrvSource.gives
    c.args.source.now) c.args.roots.now r
    c.args.found.now
    (record {
      nodes = c.walk.found.nodes;
      marks = c.meet.new.marks;
      owners = c.walk.found.owners;
    }) c.in-Done.number) same
    (subst (λ m. IsVisited c.args.rules.now.profile c.args.rules.now.dir.now (g.S.DrvSource.gives
    c.args.source.now) c.args.roots.now
    c.index-roots-index.result c.args.found.now
    (record { nodes = c.walk.found.nodes; marks = m; owners = c.walk.found.owners })
    c.in-Done.number) (sym met.0) ends)

pub walk-preserved : goal.walk-preserved
walk-preserved g c =
    let has_root = contains_item _ _ _
    _ c.requires.index c.index-roots-index.is refl in
    let cases = c.in-None.ensures.cases in
    let none : length c.walk.visits.items ≡ 0 = omega (arith, cases.0, c.walk.visits.ok.0) in
    let none_left : length c.pop.new.self.items ≡ 0 = omega (arith, cases.1, c.pop.new.self.ok.0) in
    let met = rw c.in-New.is at c.in_ok-number-in-None.ensures.meeting in
    let shape = reverse_one _ _ _ none_left
    c.in_ok-push-in-New.ensures.items in
    record {
      keeps = gives_trans (g.S.DrvSource.gives _)
          (g.S.DrvSource.gives _) (g.S.DrvSource.gives _)
          c.walk.invariant.keeps c.in_ok-number-in-None.ensures.keeps;
      counts = omega (arith, c.walk.invariant.counts, c.in_ok-number-in-None.ensures.counts);
      walk = subst (IsWalk _ _ (g.S.DrvSource.gives _) _
          _ (nodes_of _)
          (record {
            nodes = c.walk.found.nodes;
            marks = c.meet.new.marks;
            owners = c.walk.found.owners;
          })) (sym shape)
          (root_opens _ (g.S.DrvSource.gives _)
          (g.S.DrvSource.gives _) _ _
          _ _
          _ _ _ has_root
          c.walk.invariant.keeps c.walk.invariant.walk none
          (record { nodes = refl; owners = refl }) met);
    }
