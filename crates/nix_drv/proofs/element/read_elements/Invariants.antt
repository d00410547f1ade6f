use Rattle.std.proofs.Common.{◌≡◌, map, length}
use Rattle.nix_drv.specs.private.Reading.{before, elements_of, read}
use Rattle.nix_drv.proofs.element.read_elements.Given as goal

-- the elements so far and those of the rest are those of the list
abbrev pub invariant-items : goal.invariant-items
invariant-items g l = before (map g.T.Element.value l.items.items)
    (elements_of (read g.T.Element.form) l.rest) ≡ elements_of (read g.T.Element.form) l.bytes

abbrev pub decreases-items : goal.decreases-items
decreases-items g l = length l.rest
