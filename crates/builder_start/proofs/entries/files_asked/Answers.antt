use Rattle.std.proofs.Common.{◌≡◌, ◌∙◌, ℕ, List, IfErr, IfOk, ap, map, subst}
use Rattle.build_outcome.specs.declared.job.WholeInput.{WholeInput}
use Rattle.build_outcome.specs.declared.reason.Reason.TheVariants.{BadGraph}
use Rattle.builder_start.specs.Asked.{graphs_of, tokens_or_none}
use Rattle.builder_start.specs.Entries.{AreFiles, AskForBadGraphs}
use Rattle.builder_start.specs.private.Shown.{IsWhy}
use Rattle.builder_start.proofs.entries.files_asked.Goals as goal

pub returns-in_ok-tokens-in-Some-clause-ok : goal.returns-in_ok-tokens-in-Some-clause-ok
returns-in_ok-tokens-in-Some-clause-ok c =
    let same : map (λ t. t.now) c.deref-in-Some.result.now
    ≡ tokens_or_none (graphs_of c.args.job.now) =
    ap (map (λ t. t.now)) c.deref-in-Some.ensures.value ∙ c.in_ok-tokens-in-Some.ensures
    ∙ ap tokens_or_none c.in-Some.ensures in
    subst (λ (ts : List (List ℕ)). IfOk c.files_of_tokens.result
    (λ files. AreFiles c.args.rows.now c.args.job.now.whole_inputs.items ts files.items)) same
    (subst (λ (ws : List WholeInput). IfOk c.files_of_tokens.result
    (λ files. AreFiles c.args.rows.now ws (map (λ t. t.now) c.deref-in-Some.result.now) files.items))
    c.deref.ensures.value c.files_of_tokens.ensures.ok)

pub returns-in_ok-tokens-in-Some-clause-bad : goal.returns-in_ok-tokens-in-Some-clause-bad
returns-in_ok-tokens-in-Some-clause-bad c =
    let same : map (λ t. t.now) c.deref-in-Some.result.now
    ≡ tokens_or_none (graphs_of c.args.job.now) =
    ap (map (λ t. t.now)) c.deref-in-Some.ensures.value ∙ c.in_ok-tokens-in-Some.ensures
    ∙ ap tokens_or_none c.in-Some.ensures in
    subst (λ (ts : List (List ℕ)). IfErr c.files_of_tokens.result
    (IsWhy BadGraph (AskForBadGraphs c.args.rows.now c.args.job.now.whole_inputs.items ts))) same
    (subst (λ (ws : List WholeInput). IfErr c.files_of_tokens.result
    (IsWhy BadGraph (AskForBadGraphs c.args.rows.now ws
    (map (λ t. t.now) c.deref-in-Some.result.now))))
    c.deref.ensures.value c.files_of_tokens.ensures.bad)
