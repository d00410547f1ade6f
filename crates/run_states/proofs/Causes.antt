-- The first cause for which a derivation can't be begun, by what it asks for and what is valid.
use Rattle.std.proofs.Common.{◌≡◌, ◌∙◌, ℕ, true, false, List, Option, Some, None, IfSome, ap, not, refl, subst, sym}
use Rattle.std.specs.Prelude.{if◌then◌else◌, slice_get}
use Rattle.std.specs.List.{position}
use Rattle.nix_names.proofs.Lists.{get_source}
use Rattle.nix_drv.specs.Derivation.{Drv}
use Rattle.drv_graph.specs.Nodes.{Node}
use Rattle.drv_graph.specs.PlanNodes.{drvs_of, output_paths_of}
use Rattle.valid_table.specs.declared.entry.Entry.{Entry}
use Rattle.run_states.specs.Runs.{Terms, cause_at, demand_cause, is_for, is_unsupported, is_valid, missing_of, or_else, own_cause}
use Rattle.run_states.specs.declared.state.Refusal.{Refusal}
use Rattle.run_states.specs.declared.state.Refusal.TheVariants.{MissingFeature, MissingSource, PartlyValid, Unsupported, WrongSystem}

-- ---- a derivation and its node

-- what holds of a derivation holds of that of its node, and the other way round
pub at_node : (P : Drv → Type 0) (nodes : List Node) (d : ℕ) (drv : Drv)
    → slice_get (drvs_of nodes) d ≡ Some drv → P drv
    → IfSome (slice_get nodes d) (λ node. P node.drv)
at_node P nodes d drv at holds = by (get_source _ nodes d drv at)
  where
    by : (node : Node) × (slice_get nodes d ≡ Some node) × (node.drv ≡ drv)
        → IfSome (slice_get nodes d) (λ node. P node.drv)
    by (node, is, same) =
        subst (λ o. IfSome o (λ n. P n.drv)) (sym is) (subst P (sym same) holds)

pub of_node : (P : Drv → Type 0) (nodes : List Node) (d : ℕ) (drv : Drv)
    → slice_get (drvs_of nodes) d ≡ Some drv → IfSome (slice_get nodes d) (λ node. P node.drv)
    → P drv
of_node P nodes d drv at each = by (get_source _ nodes d drv at)
  where
    by : (node : Node) × (slice_get nodes d ≡ Some node) × (node.drv ≡ drv) → P drv
    by (node, is, same) =
        subst P same (subst (λ o. IfSome o (λ n. P n.drv)) is each)

-- ---- causes

or_else_same : (a b c : Option Refusal) → or_else a (or_else b c) ≡ or_else (or_else a b) c
or_else_same (Some cause) b c = refl
or_else_same None b c = refl

module _ (terms : Terms) (entries : List Entry) (drv : Drv) where
  -- the cause that lies in what is valid
  abbrev valid_cause : Option Refusal
  valid_cause = or_else (cause_at PartlyValid (position (is_valid entries) (output_paths_of drv)))
      (cause_at MissingSource (position (λ path. not (is_valid entries path)) drv.sources))

  -- the causes of a derivation that is for the system
  causes_by : is_for terms drv ≡ true
      → or_else (demand_cause terms.profile terms.system drv) valid_cause
      ≡ own_cause terms entries drv
  causes_by here =
      rw here
      (sym
      (or_else_same (if is_unsupported terms drv then Some Unsupported else None)
      (cause_at MissingFeature (missing_of terms drv)) valid_cause))

  pub other_system : is_for terms drv ≡ false → Some WrongSystem ≡ own_cause terms entries drv
  other_system other = rw other refl

  pub demanded : (cause : Refusal) → is_for terms drv ≡ true
      → Some cause ≡ demand_cause terms.profile terms.system drv
      → Some cause ≡ own_cause terms entries drv
  demanded cause here is = ap (λ first. or_else first valid_cause) is ∙ causes_by here

  -- nothing of what is asked for is a cause
  last_causes : is_for terms drv ≡ true → None ≡ demand_cause terms.profile terms.system drv
      → valid_cause ≡ own_cause terms entries drv
  last_causes here none = ap (λ first. or_else first valid_cause) none ∙ causes_by here

  pub partly : (outputs : List (List ℕ)) (n : ℕ) → is_for terms drv ≡ true
      → None ≡ demand_cause terms.profile terms.system drv → outputs ≡ output_paths_of drv
      → Some n ≡ position (is_valid entries) outputs
      → Some (PartlyValid n) ≡ own_cause terms entries drv
  partly outputs n here none are found =
      ap (λ at. or_else (cause_at PartlyValid at)
      (cause_at MissingSource (position (λ path. not (is_valid entries path)) drv.sources)))
      (found ∙ ap (position (is_valid entries)) are)
      ∙ last_causes here none

  pub unsourced : (outputs sources : List (List ℕ)) (first : Option ℕ)
      → is_for terms drv ≡ true → None ≡ demand_cause terms.profile terms.system drv
      → outputs ≡ output_paths_of drv → None ≡ position (is_valid entries) outputs
      → sources ≡ drv.sources
      → first ≡ position (λ path. not (is_valid entries path)) sources
      → cause_at MissingSource first ≡ own_cause terms entries drv
  unsourced outputs sources first here none are no_output given found =
      ap (cause_at MissingSource)
      (found ∙ ap (position (λ path. not (is_valid entries path))) given)
      ∙ ap (λ at. or_else (cause_at PartlyValid at)
      (cause_at MissingSource (position (λ path. not (is_valid entries path)) drv.sources)))
      (no_output ∙ ap (position (is_valid entries)) are)
      ∙ last_causes here none
