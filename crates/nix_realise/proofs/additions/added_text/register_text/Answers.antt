use Rattle.std.proofs.Common.{◌≡◌, ◌∙◌, [], sym}
use Rattle.std.proofs.lemmas.Bool.{false≢true}
use Rattle.std.proofs.lemmas.Result.{err_from_is_err_and}
use Rattle.valid_table.specs.Entries.{registered}
use Rattle.valid_table.specs.Valid.{IsValid}
use Rattle.nix_realise.proofs.Registrations.{refused_for_memory}
use Rattle.nix_realise.proofs.additions.added_text.register_text.Goals as goal

pub returns-in_err-add : goal.returns-in_err-add
returns-in_err-add c =
    let p = err_from_is_err_and c.from_residual-in_err-add.result
    c.from_residual-in_err-add.ensures.1 in
    let fresh : ¬ (IsValid (registered c.args.journal.now.entries) c.args.path.now) =
    λ v. false≢true (sym c.if-registers.false ∙ c.registers.ensures.1 v) in
    let none : c.in_ok-info.info.references ≡ [] = c.in_ok-info.ensures.references
    ∙ c.new.ensures.items in
    rw (p.1, p.2)
    (refused_for_memory _ _ c.args.path.now _ c.in_ok-info.info _ fresh c.in_ok-path.ensures.same
    none
    c.in_err-add.ensures.adding)
