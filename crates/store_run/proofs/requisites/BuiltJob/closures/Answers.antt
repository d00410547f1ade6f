use Rattle.std.proofs.Common.{◌∙◌, ◌+◌, [], ◌∷◌, ap, length, length-append}
use Rattle.valid_view.proofs.Prefixes.{prefix_trans}
use Rattle.store_run.proofs.OutputClosures.{closures_more, closures_stay, refers_after_all}
use Rattle.store_run.proofs.requisites.BuiltJob.closures.Goals as goal

pub closure_asked-requires-clause-refers : goal.closure_asked-requires-clause-refers
closure_asked-requires-clause-refers g c =
    refers_after_all c.args.reader.now.seen c.loop-n.reader.seen c.args.self.now.job.now
    c.args.self.now.checked.now c.loop-n.invariant.later c.requires.refers

pub loop-n-preserved : goal.loop-n-preserved
loop-n-preserved g c =
    let job = c.args.self.now.job.now in
    let infos = c.args.self.now.checked.now in
    let seen = c.loop-n.reader.seen in
    let now = c.closure_asked.new.reader.seen in
    let closure = c.in_ok-closure.closure in
    record {
      later = prefix_trans c.args.reader.now.seen seen now c.loop-n.invariant.later
          c.in_ok-closure.ensures.later;
      showable = c.in_ok-closure.ensures.showable;
      count = ap length c.push_reserved.ensures.items
          ∙ length-append c.loop-n.closures.items (closure ∷ [])
          ∙ ap (λ n. n + 1) c.loop-n.invariant.count;
      given = closures_more now job infos c.loop-n.closures.items
          c.push_reserved.new.self.items c.loop-n.n closure
          (closures_stay seen now job infos c.in_ok-closure.ensures.later
          c.in_ok-closure.ensures.showable
          (refers_after_all c.args.reader.now.seen seen job infos
          c.loop-n.invariant.later c.requires.refers) c.loop-n.closures.items
          c.loop-n.invariant.given)
          c.loop-n.invariant.count c.in_ok-closure.ensures.closure c.push_reserved.ensures.items;
      room = c.push_reserved.ensures.capacity ∙ c.loop-n.invariant.room;
    }
