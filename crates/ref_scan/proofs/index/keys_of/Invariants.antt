use Rattle.std.proofs.Common.{◌≡◌, length, map, take, vec_capacity}
use Rattle.std.specs.Prelude.{All}
use Rattle.nix_names.specs.Keys.{key_of}
use Rattle.nix_names.specs.StorePaths.{IsStorePath}
use Rattle.ref_scan.proofs.index.keys_of.Given as goal

abbrev pub invariant-loop-path : goal.invariant-loop-path
invariant-loop-path l = record {
  value : l.keys.items ≡ map key_of (take l.path-index l.paths);
  are_paths : All IsStorePath (take l.path-index l.paths);
  capacity : vec_capacity l.keys ≡ length l.paths;
}
