use Rattle.std.proofs.Common.{rules}
use Rattle.nix_names.specs.Names.{is_name}
use Rattle.nix_names.specs.StorePaths.{store_path}
use Rattle.drv_graph.proofs.InStore.{item_named}
use Rattle.drv_graph.proofs.Loops.{seen_twice, took_more}
use Rattle.drv_graph.proofs.outputs.expected_paths.output_paths.Goals as goal

pub loop-output-preserved : goal.loop-output-preserved
loop-output-preserved c = search (rules, took_more, seen_twice, store_path)

pub addressed_path-requires : goal.addressed_path-requires
addressed_path-requires c = search (rules, is_name, item_named)
