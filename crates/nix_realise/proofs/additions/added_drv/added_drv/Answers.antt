use Rattle.std.proofs.Common.{Err, Ok, ℕ, List, inl, inr, subst}
use Rattle.std.proofs.lemmas.Result.{err_from_is_err_and}
use Rattle.drv_graph.specs.Filling.{IsFilling}
use Rattle.nix_realise.specs.AddedDrv.{IsFillingOf}
use Rattle.nix_realise.proofs.additions.added_drv.added_drv.Goals as goal

pub returns : goal.returns
returns g c =
    let gives = g.S.DrvSource.gives c.args.source.now in
    let request = c.args.request.now in
    let made = subst (λ (dir : List ℕ). IsFilling request.profile dir gives request.name.now
    c.in_ok-draft.draft (Ok (c.in_ok-filled.filled, c.in_ok-filled.path))) c.in_ok-dir.ensures.0
    c.in_ok-filled.ensures
    in (
      c.in_ok-draft.draft,
      (c.in_ok-dir.ensures.1, c.in_ok-draft.ensures),
      (c.in_ok-filled.filled, made, c.in_ok-text.ensures.ok),
    )

pub returns-in_err-filled : goal.returns-in_err-filled
returns-in_err-filled g c =
    let gives = g.S.DrvSource.gives c.args.source.now in
    let step = c.from_residual-in_err-filled in
    let e = err_from_is_err_and step.result step.ensures.1 in
    let not_filled = subst (λ (dir : List ℕ). IsFillingOf dir gives c.args.request.now
    c.in_ok-draft.draft (Err c.in_err-filled.field-0.0)) c.in_ok-dir.ensures.0
    c.in_err-filled.ensures in
    rw (e.1, e.2) (inr (inr (inl (
      c.in_ok-draft.draft,
      (c.in_ok-dir.ensures.1, c.in_ok-draft.ensures),
      not_filled,
    ))))

pub returns-in_err-text : goal.returns-in_err-text
returns-in_err-text g c =
    let step = c.from_residual-in_err-text in
    let e = err_from_is_err_and step.result step.ensures.1 in
    rw (e.1, e.2) (inr (inr (inr (c.in_err-text.ensures.err, c.in_ok-dir.ensures.1))))
