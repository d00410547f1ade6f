-- A text has one own path, since its references rise and their members tell them.
use Rattle.std.proofs.Common.{◌≡◌, ℕ, List, sym, ap, ◌∙◌}
use Rattle.nix_names.proofs.RisingLists.{rising_same}
use Rattle.nix_drv.specs.OwnPath.{HasOneOwnPath, text_path}

pub one_own_path : HasOneOwnPath
one_own_path dir name drv bytes path other is_path is_other =
    let refs : is_path.refs ≡ is_other.refs =
    rising_same _ _ is_path.rising is_other.rising (λ z. (
      λ has. (is_other.same z).1 ((is_path.same z).0 has),
      λ has. (is_path.same z).1 ((is_other.same z).0 has),
    )) in
    is_path.is_path ∙ ap (λ (r : List (List ℕ)). text_path _ _ _ r) refs
    ∙ sym is_other.is_path
