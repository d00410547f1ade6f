use Rattle.std.proofs.Common.{◌≡◌, length, take, vec_capacity}
use Rattle.drv_graph.specs.Nodes.{paths_of}
use Rattle.process_build.proofs.process.drv_paths.copy_paths.Given as goal

-- the paths so far stand there, and there is room for all
abbrev pub invariant-loop-number : goal.invariant-loop-number
invariant-loop-number l = record {
  count : length l.paths.items ≡ l.number;
  paths : l.paths.items ≡ take l.number (paths_of l.plan.nodes);
  room : vec_capacity l.paths ≡ length l.plan.nodes;
}
