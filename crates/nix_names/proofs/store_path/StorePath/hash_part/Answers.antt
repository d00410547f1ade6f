use Rattle.std.proofs.Common.{◌≡◌, length, sym, ap, arith}
use Rattle.std.proofs.lemmas.List.{length-take-le}
use Rattle.nix_names.specs.StorePaths.{base_of}
use Rattle.nix_names.proofs.PathTexts.{base_long}
use Rattle.nix_names.proofs.store_path.StorePath.hash_part.Goals as goal

pub slice_bounds-result-end : goal.slice_bounds-result-end
slice_bounds-result-end c =
    let base = c.base.ensures in
    let long = base_long _ base.is_path in
    let same : length c.base.result.now ≡ length (base_of c.args.self.now) = ap length base.value in
    sym (length-take-le 32 c.base.result.now (omega arith))
