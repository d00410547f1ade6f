use Rattle.drv_graph.specs.private.Owners.{owned}
use Rattle.drv_graph.proofs.Marks.{sets_entry}
use Rattle.drv_graph.proofs.Owners.{enter_step, enter_stops, other_owner, same_owner}
use Rattle.drv_graph.proofs.walks.output_owners.enter.Goals as goal

pub returns-then-ne : goal.returns-then-ne
returns-then-ne c =
    enter_stops (owned c.args.owners.now) (owned c.loop-path.owners) (owned c.insert.new.self)
    _ _ _ _ _
    _ _ c.loop-path-test.true c.path-item.is
    c.in_ok-key.ensures.same c.requires c.loop-path.invariant.entered c.in_ok-insert.ensures.old
    (other_owner _ _ _ c.ne.ensures c.if-ne.true)

pub loop-path-preserved : goal.loop-path-preserved
loop-path-preserved c =
    let made = enter_step (owned c.args.owners.now) (owned c.loop-path.owners)
    (owned c.insert.new.self) _ _ _
    _ _ _ _ c.loop-path-test.true
    c.path-item.is c.in_ok-key.ensures.same c.requires c.loop-path.invariant.were
    c.loop-path.invariant.entered c.in_ok-insert.ensures.old
    (same_owner _ _ _ c.ne.ensures c.if-ne.false)
    (sets_entry c.loop-path.owners c.insert.new.self _ _
    c.in_ok-insert.ensures.updates) in
    record { were = made.0; entered = made.1 }
