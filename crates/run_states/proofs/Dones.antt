-- What a Done may register: its entry is new and closed after those before, and has one path for
-- each output.
use Rattle.std.proofs.Common.{◌≡◌, ◌∙◌, ℕ, List, [], ◌∷◌, ◌++◌, length, sym, subst, ⊎_elim, arith, rules}
use Rattle.std.specs.Prelude.{Contains, flat_map}
use Rattle.std.proofs.lemmas.List.{length-map}
use Rattle.std.proofs.lemmas.List.Elements.{Contains-append_cases}
use Rattle.std.proofs.lemmas.Option.{slice_get_within}
use Rattle.nix_names.specs.StorePaths.{IsDrvPath}
use Rattle.nix_drv.specs.Derivation.{Output}
use Rattle.drv_graph.specs.Nodes.{Node}
use Rattle.drv_graph.specs.PlanNodes.{output_paths_of}
use Rattle.valid_table.specs.Adding.{AreClosed, AreNew}
use Rattle.valid_table.specs.Closure.{LeadsByReferences}
use Rattle.valid_table.specs.Entries.{registered, registered_by}
use Rattle.valid_table.specs.PathInfos.{PathInfo}
use Rattle.valid_table.specs.Valid.{IsJournal, IsNotValid, IsValid}
use Rattle.valid_table.specs.declared.entry.Entry.{Entry}
use Rattle.valid_table.specs.declared.entry.Registration.{Registration}
use Rattle.valid_table.proofs.AddedEntries.{journal_push}
use Rattle.valid_table.proofs.JournalLists.{still_valid}
use Rattle.valid_table.proofs.TakenIn.{once_more, valid_by_some}
use Rattle.run_states.specs.Legal.{IsAllowed, IsEntryOf}
use Rattle.run_states.specs.Runs.{Run}
use Rattle.nix_names.proofs.Lists.{All-from_contains, Contains-first, Contains-from_get, Contains-from_map, Contains-later, Contains-map, Contains-nothing, element_at, get_from_contains}

-- ---- lists

-- what is in a list of lists put together is in one of them
pub part_with : {A B : Type 0} (f : A → List B) (xs : List A) (y : B) → Contains (flat_map f xs) y
    → (x : A) × Contains xs x × Contains (f x) y
part_with f [] y has = absurd (Contains-nothing y has)
part_with f (z ∷ zs) y has =
    ⊎_elim
    (λ here. (z, Contains-first z _, here))
    (λ later. let it = part_with f zs y later in (it.0, Contains-later z zs it.0 it.1, it.2))
    (Contains-append_cases _ _ y has)

-- ---- what is registered

pub reached_is_valid : (registrations : List Registration) (from to : List ℕ)
    (steps : List (List ℕ)) → LeadsByReferences registrations from to steps
    → IsValid registrations to
reached_is_valid registrations from to [] leads = search rules
reached_is_valid registrations from to (next ∷ steps) leads =
    reached_is_valid registrations next to steps leads.1

-- an entry registers each output
pub output_registered : (node : Node) (infos : List PathInfo) (outputs : List Registration)
    (entry : Entry)
    (is : IsEntryOf node infos entry)
    → length infos ≡ length (output_paths_of node.drv) → (path : List ℕ)
    → Contains (output_paths_of node.drv) path → IsValid is.outputs path
output_registered node infos outputs entry is count path has =
    let at = get_from_contains _ _ has in
    let info = element_at infos at.0
    (omega (arith, count, slice_get_within (output_paths_of node.drv) at.0 path at.1)) in
    Contains-map (λ (r : Registration). r.path) _ _
    ((is.each path info.0).1 (at.0, at.1, info.1))

-- and nothing else
pub registered_output : (node : Node) (infos : List PathInfo) (entry : Entry)
    (is : IsEntryOf node infos entry) (r : Registration)
    → Contains is.outputs r → Contains (output_paths_of node.drv) r.path × Contains infos r.info
registered_output node infos entry is r has =
    let at = (is.each r.path r.info).0 has in (
      Contains-from_get _ _ _ at.1,
      Contains-from_get _ _ _ at.2,
    )

-- as many records as outputs
pub records_for_paths : (run : Run) (entries : List Entry) (node : Node) (infos : List PathInfo)
    → IsAllowed run.graph entries node infos
    → length infos ≡ length (output_paths_of node.drv)
records_for_paths run entries node infos allowed = allowed.records.own.count
    ∙ sym (length-map node.drv.outputs (λ (o : Output). o.path))

-- ---- what a journal and an outlet ask

module _ (run : Run) (entries : List Entry) (node : Node) (infos : List PathInfo) (entry : Entry)
    (allowed : IsAllowed run.graph entries node infos) (is : IsEntryOf node infos entry) where
  new_outputs : AreNew (registered entries) is.outputs
  new_outputs = All-from_contains (IsNotValid (registered entries)) _
      (λ path there valid.
      let r = Contains-from_map (λ (x : Registration). x.path) is.outputs path there in
      let own = registered_output node infos entry is _ r.1 in
      allowed.new path (subst (Contains (output_paths_of node.drv)) r.2 own.0) valid)

  closed_outputs : AreClosed (registered entries) is.outputs
  closed_outputs = All-from_contains (IsValid (registered entries ++ is.outputs))
      _ (λ path there.
      let part = part_with (λ (r : Registration). r.info.references) is.outputs path there in
      let own = registered_output node infos entry is _ part.1 in
      ⊎_elim
      (λ reached. still_valid _ _ _
      (reached_is_valid _ _ _ _ reached.2.1))
      (λ output. valid_by_some (registered entries) is.outputs path
      (output_registered node infos is.outputs entry is
      (records_for_paths run entries node infos allowed) _ output))
      (allowed.permitted part.0.info path own.1 part.2))

  -- none of its paths is valid before
  pub done_is_new : AreNew (registered entries) (registered_by entry)
  done_is_new = subst (λ (e : Entry). AreNew (registered entries) (registered_by e))
      (sym is.is_done) new_outputs

  -- each of its references is valid after it
  pub done_is_closed : AreClosed (registered entries) (registered_by entry)
  done_is_closed = subst (λ (e : Entry). AreClosed (registered entries) (registered_by e))
      (sym is.is_done) closed_outputs

  -- a journal with it is one
  pub done_is_journal : IsJournal entries → IsDrvPath node.path → IsJournal (entries ++ entry ∷ [])
  done_is_journal journal named =
      subst (λ (e : Entry). IsJournal (entries ++ e ∷ [])) (sym is.is_done)
      (journal_push _ _ journal named closed_outputs
      (once_more _ _ journal.once is.rising new_outputs))
