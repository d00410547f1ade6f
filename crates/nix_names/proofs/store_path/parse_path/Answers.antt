use Rattle.std.proofs.Common.{◌≡◌, ap, sym, ◌∙◌, None, List, ℕ}
use Rattle.nix_names.specs.StorePaths.{path_fault}
use Rattle.nix_names.proofs.PathFaults.{path_of_no_fault}
use Rattle.nix_names.proofs.store_path.parse_path.Goals as goal

-- nothing is wrong in the folder where nothing is wrong in one with the same text
in_same_dir : (lent dir text : List ℕ) → lent ≡ dir → path_fault lent text ≡ None
    → path_fault dir text ≡ None
in_same_dir lent dir text same none = ap (λ d. path_fault d text) (sym same) ∙ none

pub known_path-requires : goal.known_path-requires
known_path-requires c =
    let none = in_same_dir _ c.args.dir.now c.args.text.now c.text.ensures.value
    c.in_ok-check_path.ensures in
    record {
      dir = c.args.dir.now;
      is_dir = c.text.ensures.is_dir;
      is_path = path_of_no_fault _ _ none;
    }

pub returns : goal.returns
returns c =
    let none = in_same_dir _ c.args.dir.now c.args.text.now c.text.ensures.value
    c.in_ok-check_path.ensures in
    (none, (c.in_ok-known_path.ensures, path_of_no_fault _ _ none))
