use Rattle.std.proofs.Common.{sym, ◌∙◌}
use Rattle.std.proofs.lemmas.List.{take_rest}
use Rattle.std.proofs.lemmas.Result.{MatchResult-weaker}
use Rattle.nix_names.proofs.PathFaults.{fault_inside, fault_outside}
use Rattle.nix_names.proofs.store_path.check_path.Goals as goal

pub returns-then-not-is_under : goal.returns-then-not-is_under
returns-then-not-is_under c = fault_outside _ _
    (sym c.is_under.ensures.value ∙ c.if-not-is_under.true)

pub returns : goal.returns
returns c =
    let inside = fault_inside c.args.dir.now c.args.text.now _
    (sym c.is_under.ensures.value ∙ c.if-not-is_under.false) (take_rest c.args.text.now _) in
    MatchResult-weaker c.check_base.result c.check_base.ensures (λ _ none. inside ∙ none)
    (λ _ some. inside ∙ some)
