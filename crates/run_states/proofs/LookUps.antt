-- What look-ups tell of a derivation's paths and texts, and a list of preconditions.
use Rattle.std.proofs.Common.{◌≡◌, ◌↔◌, ◌∙◌, ℕ, ◌<◌, Bool, true, false, List, codes, length, map, IsTrue, refl, sym, rules}
use Rattle.std.specs.Prelude.{slice_get}
use Rattle.std.specs.List.{list_any, slice_index_or}
use Rattle.std.specs.Cmp.Lexicographic.{nat_list_eq_equiv}
use Rattle.std.proofs.lemmas.Bool.{false≢true}
use Rattle.std.proofs.lemmas.Map.Views.{Contains-from_any, list_any-from_Contains}
use Rattle.nix_names.specs.Names.{same_bytes}
use Rattle.nix_names.proofs.RisingLists.{equal_from_eq}
use Rattle.nix_drv.specs.Derivation.{Drv}
use Rattle.nix_drv.specs.Parts.{entry_of, output_of}
use Rattle.nix_drv.specs.declared.derivation.EnvEntry.{EnvEntry as EnvEntryStruct}
use Rattle.nix_drv.specs.declared.derivation.Output.{Output as OutputStruct}
use Rattle.drv_graph.specs.Nodes.{Node}
use Rattle.valid_table.specs.Entries.{registered}
use Rattle.valid_table.specs.Valid.{IsValid}
use Rattle.valid_table.specs.declared.entry.Entry.{Entry}
use Rattle.run_states.specs.Runs.{Terms, has_left_out, has_tree, is_valid, left_out, precondition_at}
use Rattle.run_states.proofs.Platforms.{any_mapped}
use Rattle.run_states.specs.declared.precondition.Precondition.{Precondition}
use Rattle.run_states.specs.declared.precondition.Precondition.TheVariants.{Free}

-- what a look-up tells of a path
pub told_valid : (told : Bool) (entries : List Entry) (path : List ℕ) → IsTrue told
    ↔ IsValid (registered entries) path → told ≡ is_valid entries path
told_valid true entries path (there, back) = sym
    (list_any-from_Contains nat_list_eq_equiv _ _
    (there refl))
told_valid false entries path (there, back) = by (is_valid entries path) refl
  where
    by : (b : Bool) → is_valid entries path ≡ b → false ≡ b
    by true is = absurd
        (false≢true
        (back (Contains-from_any equal_from_eq _ _ is)))
    by false is = refl

-- The first `count` preconditions.
pub record AreFirst (terms : Terms) (entries : List Entry) (nodes : List Node)
    (preconditions : List Precondition) (count : ℕ) : Type 0 where
  pub length_is : length preconditions ≡ count
  pub each : (k : ℕ) → k < count → slice_index_or preconditions k Free
      ≡ precondition_at terms entries (slice_get nodes k)

-- what is told of keys, by the entries of the environment in memory
pub keys_told : (drv : Drv) (env : List EnvEntryStruct) (told : Bool) → map entry_of env ≡ drv.env
    → told ≡ list_any (λ (e : EnvEntryStruct). list_any (same_bytes e.key.items) left_out) env
    → told ≡ has_left_out drv
keys_told drv env told same is = search (rules, any_mapped)

-- what is told of outputs, by the outputs in memory
pub trees_told : (drv : Drv) (outputs : List OutputStruct) (told : Bool)
    → map output_of outputs ≡ drv.outputs
    → told ≡ list_any (λ (o : OutputStruct). same_bytes o.algo.items (codes "r:sha256")) outputs
    → told ≡ has_tree drv
trees_told drv outputs told same is = search (rules, any_mapped)
