use Rattle.std.proofs.Common.{◌≡◌, ◌∙◌, ℕ, List, length, map, ap, subst, sym, arith}
use Rattle.std.specs.List.{AllZip}
use Rattle.std.specs.Vec.{with_items}
use Rattle.nix_drv.specs.Derivation.{Drv}
use Rattle.nix_drv.specs.Parts.{drv_of, entry_of, output_of}
use Rattle.nix_drv.specs.declared.derivation.EnvEntry.{EnvEntry}
use Rattle.nix_drv.specs.declared.derivation.Output.{Output}
use Rattle.nix_drv.specs.declared.derivation.Parts.{Parts}
use Rattle.drv_graph.specs.Modulo.{names_of}
use Rattle.drv_graph.specs.private.Insertion.{IsInserted, IsInsertedEntry, inserted_outputs}
use Rattle.drv_graph.proofs.InsertedPaths.{inserted_order, inserted_parts}
use Rattle.drv_graph.proofs.drafts.insertion.insert_paths.Goals as goal

inserted_now : (parts : Parts) (draft : Drv) (os outputs : List Output) (es env : List EnvEntry)
    (paths : List (List ℕ)) → drv_of parts ≡ draft → length outputs ≡ parts.outputs.len
    → length env ≡ parts.env.len → os ≡ parts.outputs.items → es ≡ parts.env.items
    → map output_of outputs ≡ inserted_outputs (map output_of os) paths
    → AllZip (IsInsertedEntry (names_of draft.outputs) paths) (map entry_of es) (map entry_of env)
    → IsInserted paths draft
    (drv_of (record parts {
      outputs = with_items parts.outputs outputs;
      env = with_items parts.env env;
    }))
inserted_now parts draft os outputs es env paths view long_outputs long_env lent lent_env is is_env
    =
    inserted_parts parts _ _ _ _ view long_outputs long_env
    (is ∙ ap (λ (xs : List Output). inserted_outputs (map output_of xs) paths) lent)
    (subst (λ (xs : List EnvEntry). AllZip (IsInsertedEntry (names_of draft.outputs) paths)
    (map entry_of xs) (map entry_of env)) lent_env is_env)

pub unreachable-requires : goal.unreachable-requires
unreachable-requires c = c.in-Err.ensures.1
    (inserted_order _ c.args.draft.now _
    (inserted_now c.in_ok-parts.parts c.args.draft.now _ c.insert_into_outputs.new.outputs _
    c.insert_into_env.new.env c.args.paths.now (c.in_ok-parts.ensures ∙ c.parts.ensures.parts)
    (omega arith) (omega arith) c.deref_mut.ensures.value c.deref_mut-2.ensures.value
    c.in_ok-insert_into_outputs.ensures c.in_ok-insert_into_env.ensures) c.parts.ensures.in_order)

pub returns : goal.returns
returns c = subst (IsInserted _ _) (sym c.in-Ok.ensures.0)
    (inserted_now c.in_ok-parts.parts _ _ _ _
    _ _ (c.in_ok-parts.ensures ∙ c.parts.ensures.parts)
    (omega arith) (omega arith) c.deref_mut.ensures.value c.deref_mut-2.ensures.value
    c.in_ok-insert_into_outputs.ensures c.in_ok-insert_into_env.ensures)
