use Rattle.ref_scan.proofs.MadeTrees.{archives_have_trees, heard_trees_lie, short_archives_lie}
use Rattle.ref_scan.proofs.laws.archives_have_trees.Goals as goal

pub returns : goal.returns
returns c = record {
  trees = archives_have_trees;
  short = short_archives_lie;
  heard = heard_trees_lie;
}
