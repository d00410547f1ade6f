use Rattle.std.proofs.Common.{◌≡◌, ◌∙◌, Some, None, rules, sym, true}
use Rattle.nix_drv.specs.Derivation.{Drv}
use Rattle.drv_graph.specs.PlanNodes.{output_paths_of}
use Rattle.run_states.specs.Runs.{Terms, cause_at, demand_cause, is_for, own_cause}
use Rattle.run_states.specs.declared.state.Refusal.TheVariants.{MissingSource, PartlyValid}
use Rattle.run_states.proofs.Causes.{at_node, demanded, of_node, partly, unsourced}
use Rattle.run_states.proofs.preconditions.own_cause.Goals as goal

pub returns-in-Some : goal.returns-in-Some
returns-in-Some c =
    let nodes = c.args.plan.now.nodes in
    let entries = c.args.journal.now.entries in
    let terms : Terms = record { profile = c.args.plan.now.profile; system = c.args.system.now } in
    let drv = c.drv-drv.result.now in
    let here : is_for terms drv ≡ true = search rules in
    let asked : Some c.in-Some.cause ≡ demand_cause terms.profile terms.system drv = search rules in
    at_node (λ (d : Drv). Some c.in-Some.cause ≡ own_cause terms entries d) nodes c.args.d drv
    c.drv-drv.ensures (demanded terms entries drv c.in-Some.cause here asked)

pub returns-in-Some-first_valid : goal.returns-in-Some-first_valid
returns-in-Some-first_valid c =
    let nodes = c.args.plan.now.nodes in
    let entries = c.args.journal.now.entries in
    let terms : Terms = record { profile = c.args.plan.now.profile; system = c.args.system.now } in
    let drv = c.drv-drv.result.now in
    let outputs = c.output_paths.result.now in
    let n = c.in-Some-first_valid.output in
    let here : is_for terms drv ≡ true = search rules in
    let none : None ≡ demand_cause terms.profile terms.system drv = search rules in
    let are : outputs ≡ output_paths_of drv = of_node (λ (d : Drv). outputs ≡ output_paths_of d)
    nodes c.args.d drv c.drv-drv.ensures c.output_paths.ensures.value in
    at_node (λ (d : Drv). Some (PartlyValid n) ≡ own_cause terms entries d) nodes c.args.d drv
    c.drv-drv.ensures
    (partly terms entries drv outputs n here none are
    (sym c.in-Some-first_valid.is ∙ c.first_valid.ensures))

pub returns : goal.returns
returns c =
    let nodes = c.args.plan.now.nodes in
    let entries = c.args.journal.now.entries in
    let terms : Terms = record { profile = c.args.plan.now.profile; system = c.args.system.now } in
    let drv = c.drv-drv.result.now in
    let outputs = c.output_paths.result.now in
    let sources = c.sources.result.now in
    let here : is_for terms drv ≡ true = search rules in
    let none : None ≡ demand_cause terms.profile terms.system drv = search rules in
    let are : outputs ≡ output_paths_of drv = of_node (λ (d : Drv). outputs ≡ output_paths_of d)
    nodes c.args.d drv c.drv-drv.ensures c.output_paths.ensures.value in
    let given : sources ≡ drv.sources = of_node (λ (d : Drv). sources ≡ d.sources)
    nodes c.args.d drv c.drv-drv.ensures c.sources.ensures in
    let cause : c.map.result ≡ cause_at MissingSource c.first_missing.result = search rules in
    at_node (λ (d : Drv). c.map.result ≡ own_cause terms entries d) nodes c.args.d drv
    c.drv-drv.ensures
    (cause
    ∙ unsourced terms entries drv outputs sources c.first_missing.result here none are
    (search rules) given c.first_missing.ensures)
