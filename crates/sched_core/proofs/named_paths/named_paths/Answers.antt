use Rattle.std.proofs.Common.{◌∙◌, ◌+◌, [], ◌∷◌, ap, length, length-append}
use Rattle.run_report.specs.NamedPaths.{IsNamedIn}
use Rattle.run_states.specs.StateTables.{table_state}
use Rattle.sched_core.proofs.Naming.{named_more}
use Rattle.sched_core.proofs.named_paths.named_paths.Goals as goal

pub loop-d-preserved : goal.loop-d-preserved
loop-d-preserved c = record {
  count = ap length c.push_reserved.ensures.items
      ∙ length-append c.loop-d.named.items (c.in_ok-named_path.field-0 ∷ [])
      ∙ ap (λ n. n + 1) c.loop-d.invariant.count;
  each = rw c.push_reserved.ensures.items
      (named_more (λ e path. IsNamedIn c.args.states.now.graph c.args.journal.now.entries e
      (table_state c.args.states.now e) path) c.loop-d.named.items
      c.in_ok-named_path.field-0 c.loop-d.d c.loop-d.invariant.count c.loop-d.invariant.each
      c.in_ok-named_path.ensures.ok);
  room = c.push_reserved.ensures.capacity ∙ c.loop-d.invariant.room;
}
