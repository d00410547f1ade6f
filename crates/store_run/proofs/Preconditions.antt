-- What a derivation's precondition says of its sources and its outputs.
use Rattle.std.proofs.Common.{◌≡◌, ℕ, Bool, true, false, List, Option, Some, None, refl}
use Rattle.std.specs.Prelude.{Contains, cond, not, if◌then◌else◌}
use Rattle.std.specs.List.{position}
use Rattle.nix_drv.specs.Derivation.{Drv}
use Rattle.drv_graph.specs.PlanNodes.{output_paths_of}
use Rattle.valid_table.specs.declared.entry.Entry.{Entry}
use Rattle.run_states.specs.Runs.{Terms, cause_at, is_for, is_unsupported, is_valid, missing_of, or_else, precondition_of}
use Rattle.run_states.specs.declared.state.Refusal.{Refusal}
use Rattle.run_states.specs.declared.state.Refusal.TheVariants.{MissingFeature, MissingSource, PartlyValid, Unsupported, WrongSystem}
use Rattle.run_states.specs.declared.precondition.Precondition.TheVariants.{AllValid, Free}
use Rattle.run_states.proofs.Seeds.{cause_none, none_found, not_false, or_else_none, precondition_all, precondition_free}
use Rattle.run_states.proofs.Tests.{list_all_has}

or_else_first : (a b : Option Refusal) → or_else a b ≡ None → a ≡ None
or_else_first (Some cause) b is = absurd cc
or_else_first None b is = refl

none_if : {X : Type 0} (test : Bool) (x : X) → cond test (Some x) None ≡ None → test ≡ false
none_if true x is = absurd cc
none_if false x is = refl

module _ (terms : Terms) (opening : List Entry) (drv : Drv) where
  -- where all outputs are valid, each of them is
  pub output_of_reused : precondition_of terms opening drv ≡ AllValid → (path : List ℕ)
      → Contains (output_paths_of drv) path → is_valid opening path ≡ true
  output_of_reused all path has = list_all_has (is_valid opening) _ _ (precondition_all _ _ all) has

  -- the causes of one that is free, but for the first
  later_causes : precondition_of terms opening drv ≡ Free
      → or_else (if is_unsupported terms drv then Some Unsupported else None)
      (or_else (cause_at MissingFeature (missing_of terms drv))
      (or_else (cause_at PartlyValid (position (is_valid opening) (output_paths_of drv)))
      (cause_at MissingSource (position (λ path. not (is_valid opening path)) drv.sources))))
      ≡ None
  later_causes free =
      or_else_none (if is_for terms drv then None else Some WrongSystem) _
      (precondition_free _ _ free)

  -- one that is free asks for nothing that is left out
  pub supported_of_free : precondition_of terms opening drv ≡ Free
      → is_unsupported terms drv ≡ false
  supported_of_free free =
      none_if (is_unsupported terms drv) Unsupported
      (or_else_first (if is_unsupported terms drv then Some Unsupported else None) _
      (later_causes free))

  -- the last two causes of one that is free
  last_causes : precondition_of terms opening drv ≡ Free
      → or_else (cause_at PartlyValid (position (is_valid opening) (output_paths_of drv)))
      (cause_at MissingSource (position (λ path. not (is_valid opening path)) drv.sources)) ≡ None
  last_causes free =
      or_else_none (cause_at MissingFeature (missing_of terms drv)) _
      (or_else_none (if is_unsupported terms drv then Some Unsupported else None) _
      (later_causes free))

  -- the sources of one that is free are valid
  pub source_of_free : precondition_of terms opening drv ≡ Free → (path : List ℕ)
      → Contains drv.sources path → is_valid opening path ≡ true
  source_of_free free path has =
      not_false _
      (none_found (λ p. not (is_valid opening p)) _
      (cause_none MissingSource _
      (or_else_none _ _
      (last_causes free))) _ has)

  -- and none of its outputs is
  pub output_of_free : precondition_of terms opening drv ≡ Free → (path : List ℕ)
      → Contains (output_paths_of drv) path → is_valid opening path ≡ false
  output_of_free free path has =
      none_found (is_valid opening) _
      (cause_none PartlyValid _
      (or_else_first _
      _
      (last_causes free))) _ has
