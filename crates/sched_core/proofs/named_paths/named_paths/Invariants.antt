-- The paths so far are named in the lines of the first derivations, and there is room for all.
use Rattle.std.proofs.Common.{◌≡◌, ◌<◌, ℕ, length, vec_capacity}
use Rattle.run_report.specs.NamedPaths.{IsNamedIn, named_at}
use Rattle.run_states.specs.StateTables.{table_state}
use Rattle.sched_core.proofs.named_paths.named_paths.Given as goal

abbrev pub invariant-loop-d : goal.invariant-loop-d
invariant-loop-d l = record {
  count : length l.named.items ≡ l.d;
  each : (e : ℕ) → e < l.d
      → IsNamedIn l.states.graph l.journal.entries e (table_state l.states e)
      (named_at l.named.items e);
  room : vec_capacity l.named ≡ length l.states.graph.nodes;
}
