-- A list that rises strictly is told by its elements, so what is found is one list.
use Rattle.std.proofs.Common.{◌≡◌, ℕ, List}
use Rattle.nix_names.proofs.RisingLists.{rising_same}
use Rattle.ref_scan.specs.Scan.{IsFoundIn}

pub found_once : (lists permitted a b : List (List ℕ)) → IsFoundIn lists permitted a
    → IsFoundIn lists permitted b → a ≡ b
found_once lists permitted a b found found' =
    rising_same a b found.rising found'.rising (λ path. (
      λ has. (found'.each path).1 ((found.each path).0 has),
      λ has. (found.each path).1 ((found'.each path).0 has),
    ))
