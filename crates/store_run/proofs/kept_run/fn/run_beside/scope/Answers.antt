use contract.Lifetimes.{Lfts}
use denote.Param.Send.{IsSend, IsSync, param_send, sendable}
use Rattle.store_run.proofs.kept_run.fn.run_beside.scope.Given.{Over}
use Rattle.store_run.proofs.kept_run.fn.run_beside.scope.Lts.{arg-0-1}
use Rattle.std.proofs.Crossing.{crosses}
use Rattle.store_run.proofs.checkpoint_sink.TextSink.TheSendSync.{the_send as sink_send}
use Rattle.store_run.proofs.kept_text.KeptText.TheSendSync.{the_send as text_send}
use Rattle.store_run.proofs.locked.Locked.TheSendSync.{the_sync as locked_sync}
use Rattle.store_run.proofs.kept_run.fn.run_beside.scope.Goals as goal

-- what the keeper takes may go to a thread, since it may of the outlet, the sink and the runtime
keeper_send : (g : Over) (κs : Lfts 7) (outlet : IsSend g.row.O) (sink : IsSend g.row.K)
    (runtime : IsSync g.row.R) → IsSend (arg-0-1 g.row.S g.row.R g.row.J g.row.O g.row.B g.row.K g.row.O-Told g.S.laws g.R.laws
    g.J.laws g.O.laws g.B.laws g.K.laws g.O.Told.laws g.S.Basis g.S.Basis-dict g.R.Threads
    g.R.Threads-dict g.R.Wait g.R.Wait-dict g.R.Clock g.R.Clock-dict g.J.ListId g.J.ListId-dict
    g.J.Showing g.J.Showing-dict g.O.Tells g.O.Tells-dict g.O.Outlet g.O.Outlet-dict g.B.Build
    g.B.Build-dict g.B.LeaseObserver g.B.LeaseObserver-dict g.K.CheckpointSink g.K.CheckpointSink-dict g.B.Destruct-dict
    g.K.Destruct-dict g.O.Told.Destruct-dict κs)
keeper_send g κs outlet sink runtime =
    search (sendable, crosses, text_send, sink_send, locked_sync) depth 60 fits 20000

-- the keeper may go to a thread, since the bounds say so of its parts
pub spawn-requires-send-F : goal.spawn-requires-send-F
spawn-requires-send-F g c κs within =
    param_send 1 (arg-0-1 g.row.S g.row.R g.row.J g.row.O g.row.B g.row.K g.row.O-Told g.S.laws g.R.laws
    g.J.laws g.O.laws g.B.laws g.K.laws g.O.Told.laws g.S.Basis g.S.Basis-dict g.R.Threads
    g.R.Threads-dict g.R.Wait g.R.Wait-dict g.R.Clock g.R.Clock-dict g.J.ListId g.J.ListId-dict
    g.J.Showing g.J.Showing-dict g.O.Tells g.O.Tells-dict g.O.Outlet g.O.Outlet-dict g.B.Build
    g.B.Build-dict g.B.LeaseObserver g.B.LeaseObserver-dict g.K.CheckpointSink g.K.CheckpointSink-dict g.B.Destruct-dict
    g.K.Destruct-dict g.O.Told.Destruct-dict κs) (keeper_send g κs c.requires.1.1.1.1.1.1.1.2 c.requires.1.1.1.1.1.1.1.4
    c.requires.1.1.1.1.1.1.1.6)

pub run_workers-requires-send-J : goal.run_workers-requires-send-J
run_workers-requires-send-J g c κs within =
    let bound = c.requires.1.1.1.1.1.1.1.1 in
    search (sendable, bound)

pub run_workers-requires-send-O : goal.run_workers-requires-send-O
run_workers-requires-send-O g c κs within =
    let bound = c.requires.1.1.1.1.1.1.1.2 in
    search (sendable, bound)

pub run_workers-requires-send-B : goal.run_workers-requires-send-B
run_workers-requires-send-B g c κs within =
    let bound = c.requires.1.1.1.1.1.1.1.3 in
    search (sendable, bound)

pub run_workers-requires-send-S : goal.run_workers-requires-send-S
run_workers-requires-send-S g c κs within =
    let bound = c.requires.1.1.1.1.1.1.1.0 in
    search (sendable, bound)

pub run_workers-requires-send-O-Told : goal.run_workers-requires-send-O-Told
run_workers-requires-send-O-Told g c κs within =
    let bound = c.requires.1.1.1.1.1.1.1.5 in
    search (sendable, bound)

pub ends-requires-send-O-Told : goal.ends-requires-send-O-Told
ends-requires-send-O-Told g c κs within =
    let bound = c.requires.1.1.1.1.1.1.1.5 in
    search (sendable, bound)
