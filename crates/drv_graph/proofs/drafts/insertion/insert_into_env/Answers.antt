use Rattle.std.proofs.Common.{◌≡◌, ◌<◌, ℕ, List, Some, get_or, length, refl, subst, arith}
use Rattle.std.specs.Prelude.{Contains}
use Rattle.std.specs.List.{slice_get}
use Rattle.std.proofs.lemmas.List.{length-map}
use Rattle.std.proofs.lemmas.Option.{slice_get_read, slice_get_within}
use Rattle.nix_drv.specs.Derivation.{Output}
use Rattle.nix_drv.specs.Parts.{entry_of}
use Rattle.drv_graph.specs.Modulo.{names_of}
use Rattle.drv_graph.specs.private.Insertion.{IsInsertedEntry}
use Rattle.drv_graph.proofs.InsertedPaths.{entry_other, entry_under}
use Rattle.drv_graph.proofs.Loops.{zipped_all, zipped_in_place}
use Rattle.drv_graph.proofs.drafts.insertion.insert_into_env.Goals as goal
use Rattle.drv_graph.proofs.drafts.insertion.insert_into_env.Goals.{in-Some+in_ok-insert_value, in_default}

pub loop-entry-preserved : goal.loop-entry-preserved
loop-entry-preserved c =
    let was = get_or c.loop-entry.env c.loop-entry.entry-index c.entry-item.result in
    let names = names_of c.args.draft.now.outputs in
    let IsInsertedHere = IsInsertedEntry names c.args.paths.now in
    elim c.match-output_index.branch [
      | in-Some+in_ok-insert_value w ↦
          let at : slice_get names w.in-Some.index
          ≡ Some was.key.items =
          subst (λ (key : List ℕ). slice_get names w.in-Some.index ≡ Some key)
          c.deref.ensures.value w.in-Some.ensures.found in
          let within : w.in-Some.index < length names =
          slice_get_within names w.in-Some.index was.key.items at in
          let below : w.in-Some.index < length c.args.paths.now =
          omega (
            arith,
            within,
            c.requires,
            length-map c.args.draft.now.outputs (λ (o : Output). o.name),
          ) in
          let at_path : slice_get c.args.paths.now w.in-Some.index
          ≡ Some w.index-paths-index.result =
          slice_get_read _ _ _
          _ refl below w.index-paths-index.is in
          let step = zipped_in_place IsInsertedHere entry_of _ _
          _ _ _ _
          (omega arith) c.loop-entry.auto.env c.loop-entry.invariant.inserted
          c.loop-entry.invariant.rest w.env-is
          (entry_under _ _ _ _ _
          _ w.in-Some.ensures.rising at at_path refl
          w.in_ok-insert_value.ensures) in
          record { inserted = step.0; rest = step.1 }
      | in_default w ↦
          let none : Contains names was.key.items
          → ⊥ = subst (λ (key : List ℕ). Contains names key → ⊥) c.deref.ensures.value
          w.in_default.ensures.found in
          let step = zipped_in_place IsInsertedHere entry_of _ _
          _ _ _ _
          (omega arith) c.loop-entry.auto.env c.loop-entry.invariant.inserted
          c.loop-entry.invariant.rest w.env-is
          (entry_other _ _ _ none) in
          record { inserted = step.0; rest = step.1 }
    ]

pub returns : goal.returns
returns c =
    zipped_all (IsInsertedEntry (names_of c.args.draft.now.outputs) c.args.paths.now)
    _ _ _
    (omega (arith, length-map c.args.env.now entry_of))
    (omega (arith, length-map c.loop-entry.env entry_of)) c.loop-entry.invariant.inserted
