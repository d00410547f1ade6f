-- If the keys from here on rise above the last, all of them do.
use Rattle.std.proofs.Common.{drop}
use Rattle.valid_table.specs.private.Keys.{KeysRiseAbove}
use Rattle.valid_table.proofs.path_table.sort_paths.keys_rise.Given as goal

abbrev pub invariant-loop-item : goal.invariant-loop-item
invariant-loop-item l = KeysRiseAbove l.last (drop l.item-index l.keyed) → KeysRiseAbove 0 l.keyed
