use Rattle.std.proofs.Common.{◌≤◌, length, ap, ◌∙◌, arith}
use Rattle.nix_names.specs.StorePaths.{path_text}
use Rattle.nix_names.proofs.PathTexts.{hash_part_len, name_len, path_of_parts, stored}
use Rattle.nix_names.proofs.store_path.join_path.Goals as goal

pub join_text-requires : goal.join_text-requires
join_text-requires c =
    let hash = hash_part_len _ c.requires.is_hash in
    let name = name_len _ c.requires.named in
    let dir : length c.text.result.now ≤ 255 = rw c.text.ensures.value c.text.ensures.is_dir.short
    in
    omega arith

pub keyed_path-requires : goal.keyed_path-requires
keyed_path-requires c =
    let dir = c.text.ensures in
    stored c.args.dir.now (path_text c.args.dir.now c.args.hash.now c.args.name.now) _ dir.is_dir
    (path_of_parts _ _ _ c.requires.is_hash c.requires.named)
    (c.in_ok-text.ensures.value
    ∙ ap (λ d. path_text d c.args.hash.now c.args.name.now) dir.value)
