use Rattle.std.proofs.Common.{List, subst, sym}
use Rattle.valid_table.specs.declared.entry.Registration.{Registration}
use Rattle.build_outcome.specs.declared.reason.Reason.TheVariants.{BadGraph}
use Rattle.builder_start.specs.Asked.{graphs_of, tokens_or_none}
use Rattle.builder_start.specs.Entries.{AskForBadGraphs}
use Rattle.builder_start.specs.private.Shown.{IsUntold, IsWhy}
use Rattle.std.proofs.lemmas.Result.{err_from_is_err_and}
use Rattle.builder_start.proofs.Preparings.{no_files, no_texts}
use Rattle.builder_start.proofs.preparing.prepare.Goals as goal

pub returns-in_err-texts_told-in-Some-clause-refused : goal.returns-in_err-texts_told-in-Some-clause-refused
returns-in_err-texts_told-in-Some-clause-refused c =
    let p = err_from_is_err_and c.from_residual-in_err-texts_told-in-Some.result
    c.from_residual-in_err-texts_told-in-Some.ensures.1 in
    rw (p.1, p.2)
    (no_texts c.args.rows.items c.args.job.now c.in-Some.text.now c.in_err-texts_told-in-Some.field-0.0 (sym c.in-Some.ensures)
    (subst (λ (rs : List Registration). IsUntold rs c.args.job.now c.in-Some.text.now c.in_err-texts_told-in-Some.field-0.0)
    c.in_ok-rows.ensures c.in_err-texts_told-in-Some.ensures.bad))

pub returns-in_err-files_asked-in-None-clause-refused : goal.returns-in_err-files_asked-in-None-clause-refused
returns-in_err-files_asked-in-None-clause-refused c =
    let p = err_from_is_err_and c.from_residual-in_err-files_asked-in-None.result
    c.from_residual-in_err-files_asked-in-None.ensures.1 in
    rw (p.1, p.2)
    (no_files c.args.rows.items c.args.job.now c.in_err-files_asked-in-None.field-0.0 (sym c.in-None.ensures)
    (subst (λ (rs : List Registration).
    IsWhy BadGraph (AskForBadGraphs rs c.args.job.now.whole_inputs.items (tokens_or_none (graphs_of c.args.job.now))) c.in_err-files_asked-in-None.field-0.0)
    c.in_ok-rows.ensures c.in_err-files_asked-in-None.ensures.bad))
