use Rattle.std.proofs.Common.{◌≡◌, map, drop, option_map, Bor, List, ℕ}
use Rattle.nix_drv.specs.Grammar.{Many}
use Rattle.nix_drv.specs.Order.{key}
use Rattle.nix_drv.specs.private.Listings.{order_of}
use Rattle.nix_drv.specs.private.Passing.{pass, pass_among}
use Rattle.nix_drv.proofs.element.pass_list.Given as goal

-- the elements that are left decide what the list does
abbrev pub invariant-items : goal.invariant-items
invariant-items g l =
    pass_among (order_of l.order) (key g.T.Element.form) (pass g.T.Element.form)
    (option_map (λ (k : Bor (List ℕ)). k.now) l.before) l.at
    (map g.T.Element.value (drop l.item-index l.items))
    ≡ pass (Many (order_of l.order) g.T.Element.form) l.offset (map g.T.Element.value l.items)
