use Rattle.std.proofs.Common.{◌≡◌, subst, sym}
use Rattle.std.specs.Prelude.{All, IfSome, slice_get}
use Rattle.drv_graph.specs.Plans.{Graph}
use Rattle.valid_table.specs.Entries.{registered}
use Rattle.valid_table.specs.Valid.{IsValid}
use Rattle.build_outcome.specs.Jobs.{seeds_of}
use Rattle.run_states.specs.StateTables.{table_state}
use Rattle.run_states.specs.declared.state.State.TheVariants.{Failed}
use Rattle.sched_core.proofs.Naming.{its_seeds}
use Rattle.sched_core.proofs.named_paths.named_path.Goals as goal

pub permitted_at-requires-clause-seeds : goal.permitted_at-requires-clause-seeds
permitted_at-requires-clause-seeds c =
    let told = c.state.ensures in
    let is = c.in-Failed-NotAllowed.is in
    let fails : table_state c.args.states.now c.args.d ≡ Failed c.in-Failed-NotAllowed.field-0 =
    cc in
    subst (λ (graph : Graph). IfSome (slice_get graph.nodes c.args.d)
    (λ node. All (IsValid (registered c.args.journal.now.entries))
    (seeds_of graph.nodes node.drv))) (sym c.plan.ensures)
    (its_seeds c.args.states.now c.args.journal.now.entries c.args.d
    c.in-Failed-NotAllowed.field-0 c.requires.seeds fails)

pub permitted_at-requires-in-Failed-UnknownNar-clause-seeds :
    goal.permitted_at-requires-in-Failed-UnknownNar-clause-seeds
permitted_at-requires-in-Failed-UnknownNar-clause-seeds c =
    let told = c.state.ensures in
    let is = c.in-Failed-UnknownNar.is in
    let fails : table_state c.args.states.now c.args.d ≡ Failed c.in-Failed-UnknownNar.field-0 =
    cc in
    subst (λ (graph : Graph). IfSome (slice_get graph.nodes c.args.d)
    (λ node. All (IsValid (registered c.args.journal.now.entries))
    (seeds_of graph.nodes node.drv))) (sym c.plan-in-Failed-UnknownNar.ensures)
    (its_seeds c.args.states.now c.args.journal.now.entries c.args.d
    c.in-Failed-UnknownNar.field-0 c.requires.seeds fails)
