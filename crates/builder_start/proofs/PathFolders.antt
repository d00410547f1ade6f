-- The folder in which a path stands.
use Rattle.std.proofs.Common.{◌≡◌, ◌∙◌, ◌-◌, ◌∷◌, ◌++◌, ℕ, List, ap, arith, length, length-append, refl, take}
use Rattle.std.proofs.lemmas.List.{take_at}
use Rattle.nix_names.specs.StorePaths.{IsPathOf, base_of, path_text}
use Rattle.nix_names.proofs.PathTexts.{base_of_path}
use Rattle.builder_start.specs.Addresses.{folder_of}

-- a path of a folder stands in that folder
pub folder_is_of : (dir path : List ℕ) → IsPathOf dir path → folder_of path ≡ dir
folder_is_of dir path is =
    let base : base_of path ≡ is.hash ++ 45 ∷ is.name =
    ap base_of is.parts ∙ base_of_path dir is.hash is.name is.is_hash is.named in
    let base_long : length (base_of path) ≡ length (is.hash ++ 45 ∷ is.name) =
    ap (λ (l : List ℕ). length l) base in
    let long : length path ≡ length (path_text dir is.hash is.name) =
    ap (λ (l : List ℕ). length l) is.parts in
    let whole = length-append dir (47 ∷ is.hash ++ (45 ∷ is.name)) in
    let index : length path - length (base_of path) - 1 ≡ length dir =
    omega (arith, base_long, long, whole) in
    ap (λ n. take n path) index ∙ ap (take (length dir)) is.parts
    ∙ take_at dir (47 ∷ is.hash ++ (45 ∷ is.name)) (length dir) refl
