use denote.Param.Send.{sendable}
use Rattle.std.proofs.Crossing.{crosses}
use Rattle.valid_view.proofs.reader.ViewReader.TheSendSync.{the_send as reader_send}
use Rattle.store_run.proofs.locked.Locked.TheSendSync.{the_sync as locked_sync}
use Rattle.thread_tests.proofs.heard.fn.work_all.scope.Goals as goal

-- a worker may go to a thread, since the bounds say so of its parts
pub spawn-requires-send-F : goal.spawn-requires-send-F
spawn-requires-send-F g c κs within =
    let bounds = c.requires.1.1.1.1.1 in
    search (sendable, crosses, reader_send, locked_sync, bounds) depth 60 fits 20000
