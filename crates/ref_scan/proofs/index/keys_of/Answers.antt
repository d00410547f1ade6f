use Rattle.std.proofs.Common.{◌∙◌, ◌++◌, ◌∷◌, [], arith, ap, map, sym, take}
use Rattle.std.proofs.lemmas.List.{map-append}
use Rattle.std.proofs.lemmas.List.Elements.{All-push}
use Rattle.nix_names.specs.Keys.{key_of}
use Rattle.nix_names.specs.StorePaths.{IsStorePath}
use Rattle.ref_scan.proofs.index.keys_of.Goals as goal
use Rattle.nix_names.proofs.Lists.{taken_more}

pub loop-path-preserved : goal.loop-path-preserved
loop-path-preserved c =
    let paths = c.args.paths.now in
    let i = c.loop-path.path-index in
    let path = c.path-item.result in
    let held = c.loop-path.invariant in
    let taken = taken_more paths i path (omega arith) c.path-item.is in
    record {
      value = c.push_reserved.ensures.items ∙ ap (λ ks. ks ++ c.key.result ∷ []) held.value
          ∙ ap (λ k. map key_of (take i paths) ++ k ∷ []) c.key.ensures.value
          ∙ sym (map-append key_of (take i paths) (path ∷ []))
          ∙ ap (map key_of) (sym taken);
      are_paths = rw taken
          (All-push IsStorePath (take i paths) path held.are_paths c.key.ensures.is_path);
      capacity = c.push_reserved.ensures.capacity ∙ held.capacity;
    }
