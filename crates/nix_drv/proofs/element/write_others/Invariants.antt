use Rattle.std.proofs.Common.{◌≡◌, ◌++◌, map, drop}
use Rattle.nix_drv.specs.Grammar.{text}
use Rattle.nix_drv.specs.private.Listings.{others_text}
use Rattle.nix_drv.proofs.element.write_others.Given as goal

-- what is written, and the texts of the elements that are left
abbrev pub invariant-others : goal.invariant-others
invariant-others g l =
    (l.out.items ++ others_text (text g.T.Element.form)
    (map g.T.Element.value (drop l.other-index l.others))) ≡ l.initial.out.items
    ++ others_text (text g.T.Element.form) (map g.T.Element.value l.others)
