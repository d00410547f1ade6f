use Rattle.std.proofs.Common.{◌<◌, All, length, subst, sym}
use Rattle.std.proofs.lemmas.List.Elements.{All-get_or}
use Rattle.std.specs.List.{slice_index_or}
use Rattle.drv_graph.specs.Plans.{Graph}
use Rattle.run_states.specs.declared.state.Event.TheVariants.{Begin}
use Rattle.nix_realise.proofs.EventDerivations.{events_within}
use Rattle.nix_realise.specs.private.Leases.{derivation_of}
use Rattle.nix_realise.proofs.words.kept_lines.kept_leases.Goals as goal

pub push_kept-requires : goal.push_kept-requires
push_kept-requires g c =
    let run = c.args.book.now.run in
    let history = c.args.book.now.history in
    let items = c.events-event-items.result.now in
    let event = slice_index_or items c.events.event-index (Begin 0 0) in
    let each = subst (λ events. All (λ e. derivation_of e < length run.graph.nodes) events)
    (sym c.events-event-items.ensures.value)
    (events_within run history c.events-event-items.ensures.legal) in
    subst (λ (graph : Graph). derivation_of event < length graph.nodes) (sym c.plan.ensures)
    (All-get_or (λ e. derivation_of e < length run.graph.nodes) items c.events.event-index
    (Begin 0 0) c.events-test.true each)
