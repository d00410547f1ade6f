use Rattle.std.proofs.Common.{◌∙◌, ap, Ok, rules}
use Rattle.nix_drv.specs.declared.element.Next.{Next}
use Rattle.nix_drv.specs.private.Reading.{read}
use Rattle.nix_drv.proofs.ListReadings.{form_shrinks, element_fails, sign_fails, element_more, element_last, element_shorter, more_values}
use Rattle.nix_drv.proofs.Stopping.{gives_stop}
use Rattle.nix_drv.proofs.element.read_elements.Goals as goal

pub returns-in_err-item : goal.returns-in_err-item
returns-in_err-item g c = search (rules, gives_stop, element_fails, read, form_shrinks)

pub returns-in_err-tail : goal.returns-in_err-tail
returns-in_err-tail g c = gives_stop _ _ _ _ c.from_residual-in_err-tail.ensures.1
    (sign_fails (read _) (form_shrinks _ g.met.T.Element.clear) _ _ _ _
    _ _ c.items.invariant c.in_ok-item.ensures c.in_err-tail.ensures)

pub items-smaller : goal.items-smaller
items-smaller g c = element_shorter (read _) (form_shrinks _ g.met.T.Element.clear) _ _ _ _
    c.in_ok-item.ensures c.in_ok-tail.ensures

pub items-preserved : goal.items-preserved
items-preserved g c = rw (more_values g.T.Element.value _ _ _ c.in_ok-push.ensures.items)
    (element_more (read _) (form_shrinks _ g.met.T.Element.clear) _ _ _ _ _ _
    c.items.invariant c.in_ok-item.ensures
    (c.in_ok-tail.ensures ∙ ap (λ (n : Next). Ok (n, c.in_ok-tail.field-0.1.now))
    c.in-Comma-default.is-0))

pub returns-in-End-default : goal.returns-in-End-default
returns-in-End-default g c = rw (more_values g.T.Element.value _ _ _ c.in_ok-push.ensures.items)
    (element_last (read _) (form_shrinks _ g.met.T.Element.clear) _ _ _ _ _ _
    c.items.invariant c.in_ok-item.ensures
    (c.in_ok-tail.ensures ∙ ap (λ (n : Next). Ok (n, c.in_ok-tail.field-0.1.now))
    c.in-End-default.is-0))
