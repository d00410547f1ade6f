-- Walks that passed a limit.
use Rattle.std.proofs.Common.{◌≡◌, ◌∙◌, List, Option, None, Some, Result, Err, ◌++◌, ⊎_elim, inl, inr, sym}
use Rattle.std.specs.Result.{IsErrAnd}
use Rattle.std.proofs.lemmas.Result.{err_from_is_err_and}
use Rattle.nix_archive.specs.Tokens.{Token}
use Rattle.drv_graph.specs.declared.profile.Profile.{Profile}
use Rattle.process_build.specs.Walks.{HearsUnder, IsPastLimits, IsToldPast}
use Rattle.process_build.specs.private.Walking.{IsFoundTold, IsAtOrDone}
use Rattle.process_build.specs.declared.walk.fault.Halt.{Halt}
use Rattle.process_build.specs.declared.walk.fault.Halt.TheVariants.{TooLarge}
use Rattle.process_build.specs.declared.walk.tree_walk.OpenFolder.{OpenFolder}

-- the end of a call that is handed on is that a limit was passed
pub handed : {A : Type 0} (result : Result A Halt) (halt : Halt)
    → IsErrAnd result (λ h. h ≡ halt) → result ≡ Err TooLarge → halt ≡ TooLarge
handed result halt is large =
    let e = err_from_is_err_and result is in
    let same = sym e.1 ∙ large in
    let halts : e.0 ≡ TooLarge = cc in
    sym e.2 ∙ halts

module _ {S : Type 0} (heard : S → List Token → S → Type 0)
    (joins : (s m t : S) (before after : List Token) → heard s before m → heard m after t
    → heard s (before ++ after) t) (keeps : S → Type 0) where
  -- something was told before
  pub past_after : (s m t : S) (said : List Token) → heard s said m
      → IsToldPast heard keeps m t → IsToldPast heard keeps s t
  past_after s m t said h past = record {
    said = said ++ past.said;
    hears = joins s m t said past.said h past.hears;
    past = past.past;
  }

  pub limits_after : (profile : Option Profile) (s m t : S) (said : List Token)
      → heard s said m → IsPastLimits profile heard keeps m t
      → IsPastLimits profile heard keeps s t
  limits_after profile s m t said h past =
      ⊎_elim inl (λ told. inr (past_after s m t said h told)) past

  -- what was found at a path was told before
  pub found_after : (profile : Option Profile) (s m t : S) (position : Option OpenFolder)
      → IsFoundTold (HearsUnder profile heard) s m position → IsToldPast heard keeps m t
      → IsToldPast heard keeps s t
  found_after profile s m t None found past = past_after s m t _ found.hears.0 past
  found_after profile s m t (Some folder) found past = past_after s m t _ found.hears.0 past

  -- the walk was at a position before
  pub told_past : (profile : Option Profile) (s m t : S) (position : Option OpenFolder)
      (around : List OpenFolder) → IsAtOrDone (HearsUnder profile heard) s m position around
      → IsPastLimits profile heard keeps m t → IsPastLimits profile heard keeps s t
  told_past profile s m t None around at past =
      limits_after profile s m t _ at.hears.0 past
  told_past profile s m t (Some folder) around at past =
      limits_after profile s m t _ at.hears.0 past
