use Rattle.std.proofs.Common.{◌≡◌, ◌∙◌, ap, inl, inr, map, refl, subst, sym, true, ℕ, List, ⊎_elim}
use Rattle.std.proofs.lemmas.Result.{IfErr-weaker, IfOk-weaker, err_from_is_err_and}
use Rattle.clap.specs.Faults.{is_simple_and_free}
use Rattle.clap.specs.Words.{App, is_simple, kind_of, subcommand_of}
use Rattle.clap.proofs.OnLiterals.{clap_on_literals}
use Rattle.command_line.proofs.Found.{found_rows}
use Rattle.command_line.proofs.Usage.{fault_found, is_free, none_found}
use Rattle.command_line.specs.CommandLine.{command_line}
use Rattle.command_line.specs.private.Found.{IsFound}
use Rattle.command_line.specs.Profiles.{IsWordFaultIn}
use Rattle.command_line.specs.Requests.{IsAskedIn}
use Rattle.command_line.proofs.words.read_request.Goals as goal

is_read : is_simple command_line ≡ true
unfolding clap_on_literals
is_read = refl

pub returns-in_err-matches-clause-err : goal.returns-in_err-matches-clause-err
returns-in_err-matches-clause-err c =
    let line = c.in_ok-command.ensures in
    let words : List (List ℕ) = map (λ w. w.now) c.args.words.now in
    let step = c.from_residual-in_err-matches in
    let e = err_from_is_err_and step.result step.ensures.1 in
    rw (e.1, e.2)
    (fault_found words _ c.in_err-matches.field-0.0 line
    (c.in_err-matches.ensures.kinds (ap is_simple_and_free line ∙ is_free)))

pub found_request-requires : goal.found_request-requires
found_request-requires c =
    let line = c.in_ok-command.ensures in
    let words : List (List ℕ) = map (λ w. w.now) c.args.words.now in
    let matches = c.in_ok-matches.ensures.matches (ap is_simple line ∙ is_read) in
    let same = matches.1 ∙ ap (λ (app : App). subcommand_of app words) line in
    let none =
    none_found words _ line
    (c.in_ok-matches.ensures.kinds (ap is_simple_and_free line ∙ is_free)) in
    subst IsFound (sym same) (found_rows words none)

pub returns-clause-ok : goal.returns-clause-ok
returns-clause-ok c =
    let line = c.in_ok-command.ensures in
    let words : List (List ℕ) = map (λ w. w.now) c.args.words.now in
    let matches = c.in_ok-matches.ensures.matches (ap is_simple line ∙ is_read) in
    let same = matches.1 ∙ ap (λ (app : App). subcommand_of app words) line in
    let none =
    none_found words _ line
    (c.in_ok-matches.ensures.kinds (ap is_simple_and_free line ∙ is_free)) in
    IfOk-weaker c.found_request.result _ _
    (λ request asked. (subst (λ f. IsAskedIn f request) same asked, none))
    c.found_request.ensures.ok

pub returns-clause-err : goal.returns-clause-err
returns-clause-err c =
    let line = c.in_ok-command.ensures in
    let words : List (List ℕ) = map (λ w. w.now) c.args.words.now in
    let matches = c.in_ok-matches.ensures.matches (ap is_simple line ∙ is_read) in
    let same = matches.1 ∙ ap (λ (app : App). subcommand_of app words) line in
    let none =
    none_found words _ line
    (c.in_ok-matches.ensures.kinds (ap is_simple_and_free line ∙ is_free)) in
    IfErr-weaker c.found_request.result _ _
    (λ e fault. ⊎_elim inl
    (λ other. inr (inr (subst (λ f. IsWordFaultIn f (kind_of e)) same other, none))) fault)
    c.found_request.ensures.err
