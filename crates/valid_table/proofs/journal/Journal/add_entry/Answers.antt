use Rattle.std.proofs.lemmas.Result.{err_from_is_err_and}
use Rattle.std.proofs.Common.{◌≡◌, ◌∙◌, ◌++◌, ◌∷◌, [], Err, ap, refl}
use Rattle.valid_table.specs.private.Blames.{IsBlamed}
use Rattle.valid_table.specs.Entries.{registered, registered_by}
use Rattle.valid_table.proofs.Blamed.{blamed_read, taking_no_memory, taking_refused}
use Rattle.valid_table.proofs.journal.Journal.add_entry.Goals as goal

pub returns-in-Some-clause-adding : goal.returns-in-Some-clause-adding
returns-in-Some-clause-adding c =
    let old = c.args.self.now.entries in
    let entry = c.args.entry in
    let r = c.into_registration-registration.result in
    let blamed : IsBlamed (registered old) (registered_by entry) c.in-Some.blame =
    rw (← c.self.view_is, ← c.self.invariant.1) c.in-Some.ensures in
    taking_refused _ _ (old ≡ old ++ entry ∷ []) _ r
    _ _
    (blamed_read _ _ _ r blamed
    c.into_registration-registration.ensures) c.fault_of.ensures refl

pub returns-in_err-copy-clause-adding : goal.returns-in_err-copy-clause-adding
returns-in_err-copy-clause-adding c =
    let old = c.args.self.now.entries in
    let p = err_from_is_err_and _ c.from_residual.ensures.1 in
    taking_no_memory _ _ _
    _ _
    (rw (← c.self.view_is, ← c.self.invariant.1) c.in_default.ensures.0)
    (rw (← c.self.view_is, ← c.self.invariant.1) c.in_default.ensures.1)
    (p.1 ∙ ap Err p.2)
    refl

pub returns-in_err-reserve-clause-adding : goal.returns-in_err-reserve-clause-adding
returns-in_err-reserve-clause-adding c =
    let old = c.args.self.now.entries in
    let new = c.reserve.new.self.entries in
    let p = err_from_is_err_and _
    c.from_residual-in_err-reserve.ensures.1 in
    taking_no_memory _ _ _
    _ _
    (rw (← c.self.view_is, ← c.self.invariant.1) c.in_default.ensures.0)
    (rw (← c.self.view_is, ← c.self.invariant.1) c.in_default.ensures.1)
    (p.1 ∙ ap Err p.2)
    c.reserve.ensures.same

pub push_reserved-requires-clause-new : goal.push_reserved-requires-clause-new
push_reserved-requires-clause-new c = rw (
  c.reserve.ensures.same,
  ← c.self.view_is,
  ← c.self.invariant.1,
) c.in_default.ensures.0

pub push_reserved-requires-clause-closed : goal.push_reserved-requires-clause-closed
push_reserved-requires-clause-closed c = rw (
  c.reserve.ensures.same,
  ← c.self.view_is,
  ← c.self.invariant.1,
) c.in_default.ensures.1

pub returns-clause-adding : goal.returns-clause-adding
returns-clause-adding c = (
  rw (← c.self.view_is, ← c.self.invariant.1) c.in_default.ensures.0,
  rw (← c.self.view_is, ← c.self.invariant.1) c.in_default.ensures.1,
  c.push_reserved.ensures.entries ∙ ap (λ l. l ++ c.args.entry ∷ []) c.reserve.ensures.same,
)
