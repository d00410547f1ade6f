use Rattle.std.proofs.Common.{sym, arith}
use Rattle.std.proofs.lemmas.List.{length-take-le}
use Rattle.nix_names.proofs.store_path.begins_with_hash_part.Goals as goal

pub slice_bounds-is_hash_part-end : goal.slice_bounds-is_hash_part-end
slice_bounds-is_hash_part-end c = sym (length-take-le 32 c.args.base.now (omega arith))
