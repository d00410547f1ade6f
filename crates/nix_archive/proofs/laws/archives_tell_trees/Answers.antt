use Rattle.nix_archive.proofs.Telling.{none_within, one_tree}
use Rattle.nix_archive.proofs.laws.archives_tell_trees.Goals as goal

pub returns : goal.returns
returns c = record { one_tree = one_tree; none_within = none_within }
