use Rattle.std.proofs.Common.{◌≡◌, length, map, take, vec_capacity}
use Rattle.std.specs.Prelude.{All, IsTrue}
use Rattle.nix_names.specs.StorePaths.{hash_part_of, is_hash_part}
use Rattle.ref_scan.proofs.index.parts_of.Given as goal

abbrev pub invariant-loop-path : goal.invariant-loop-path
invariant-loop-path l = record {
  value : l.parts.items ≡ map hash_part_of (take l.path-index l.paths);
  are_parts : All (λ part. IsTrue (is_hash_part part)) l.parts.items;
  capacity : vec_capacity l.parts ≡ length l.paths;
}
