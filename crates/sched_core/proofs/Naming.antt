-- The paths that the lines of a report name, found one after the other.
use Rattle.std.proofs.Common.{◌≡◌, ◌+◌, ◌<◌, ◌++◌, ◌∷◌, [], ℕ, List, Option, Some, None, length, refl, sym, subst, ⊎_elim, arith}
use Rattle.std.specs.Prelude.{All, IfSome, slice_get}
use Rattle.std.proofs.Math.ListN.{get_or-append}
use Rattle.std.proofs.Math.Seq.{get_or-append_seam}
use Rattle.std.proofs.lemmas.Bool.{cases_lt}
use Rattle.drv_graph.specs.Nodes.{Node}
use Rattle.drv_graph.specs.PlanNodes.{output_paths_of}
use Rattle.drv_graph.specs.Plans.{Graph}
use Rattle.valid_table.specs.Entries.{registered}
use Rattle.valid_table.specs.Valid.{IsValid}
use Rattle.valid_table.specs.declared.entry.Entry.{Entry}
use Rattle.build_outcome.specs.Jobs.{IsJob, seeds_of}
use Rattle.build_outcome.specs.declared.job.Job.{Job}
use Rattle.build_outcome.specs.declared.reason.Reason.{Reason}
use Rattle.run_states.specs.Legal.{ArePermitted}
use Rattle.run_states.specs.StateTables.{StateTable, table_state}
use Rattle.run_states.specs.declared.state.State.TheVariants.{Failed}
use Rattle.run_report.specs.NamedPaths.{IsPermittedAt, named_at}
use Rattle.sched_core.specs.Books.{ArePermittedPaths, AreSeedsValid}
use Rattle.sched_core.specs.private.Naming.{HadSeeds}

-- ---- the seeds of a derivation that failed

pub its_seeds : (table : StateTable) (entries : List Entry) (d : ℕ) (reason : Reason)
    → HadSeeds table entries → table_state table d ≡ Failed reason
    → IfSome (slice_get table.graph.nodes d)
    (λ node. All (IsValid (registered entries)) (seeds_of table.graph.nodes node.drv))
its_seeds table entries d reason had is = by (slice_get table.graph.nodes d) refl
  where
    by : (at : Option Node) → slice_get table.graph.nodes d ≡ at
        → IfSome at
        (λ node. All (IsValid (registered entries)) (seeds_of table.graph.nodes node.drv))
    by (Some node) at = had d reason node is at
    by None at = tt

-- and of its job
pub seeds_of_job : (graph : Graph) (entries : List Entry) (d : ℕ) (job : Job) → IsJob graph d job
    → IfSome (slice_get graph.nodes d)
    (λ node. All (IsValid (registered entries)) (seeds_of graph.nodes node.drv))
    → AreSeedsValid entries job
seeds_of_job graph entries d job is valid =
    subst (All (IsValid (registered entries))) (sym is.seeds)
    (subst (λ (at : Option Node). IfSome at
    (λ node. All (IsValid (registered entries)) (seeds_of graph.nodes node.drv))) is.is_node valid)

-- ---- a path

-- what is permitted to the job of a derivation is permitted to it
pub at_index : (graph : Graph) (entries : List Entry) (d index : ℕ) (job : Job)
    (permitted : List (List ℕ)) (named : Option (List ℕ)) → IsJob graph d job
    → ArePermittedPaths entries job permitted → named ≡ slice_get permitted index
    → IsPermittedAt graph entries d index named
at_index graph entries d index job permitted named is are at = record {
  node = is.node;
  is_node = is.is_node;
  permitted = permitted;
  are_permitted = subst
      (λ (seeds : List (List ℕ)). ArePermitted (registered entries) seeds
      (output_paths_of is.node.drv) permitted) is.seeds
      (subst (λ (outputs : List (List ℕ)).
      ArePermitted (registered entries) job.seeds.items outputs permitted) is.paths are);
  is_at = at;
}

-- ---- one derivation more

pub named_more : (Names : ℕ → Option (List ℕ) → Type 0) (named : List (Option (List ℕ)))
    (path : Option (List ℕ)) (n : ℕ) → length named ≡ n
    → ((e : ℕ) → e < n → Names e (named_at named e)) → Names n path
    → (e : ℕ) → e < n + 1 → Names e (named_at (named ++ path ∷ []) e)
named_more Names named path n count before here e low =
    ⊎_elim
    (λ less. subst (Names e) (sym (get_or-append named (path ∷ []) None e
    (omega (arith, less, count)))) (before e less))
    (λ past.
    let last : e ≡ length named = omega (arith, low, past, count) in
    subst (λ k. Names k (named_at (named ++ path ∷ []) k)) (sym last)
    (subst (Names (length named)) (sym (get_or-append_seam named path [] None))
    (subst (λ k. Names k path) (sym count) here)))
    (cases_lt e n)
