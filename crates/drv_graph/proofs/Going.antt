-- What going on with an open derivation answers.
use Rattle.std.proofs.Common.{◌≡◌, ◌∙◌, ℕ, List, [], ◌∷◌, ◌++◌, refl, ap, inl, inr, Option, Some, None, Ok}
use Rattle.std.specs.Prelude.{⊤}
use Rattle.nix_drv.specs.Sources.{Answer}
use Rattle.drv_graph.specs.private.Walks.{IsGoingOn, IsStepping, LeavesNone}
use Rattle.drv_graph.specs.declared.walks.walk_state.WalkState.{WalkState}
use Rattle.drv_graph.specs.declared.walks.walk_state.Visit.{Visit}
use Rattle.drv_graph.specs.declared.profile.Profile.{Profile}

-- the derivation is kept open, with one number more
pub went_along : {profile : Profile} (dir : List ℕ) (gives : List ℕ → Answer → Type 0)
    (before after : WalkState)
    (below visits : List Visit) (visit next : Visit) (child : Option Visit) (made : ⊤)
    → LeavesNone before after → child ≡ None → IsStepping dir gives before.marks after.marks visit
    next (Ok child) → visits ≡ below ++ next ∷ []
    → IsGoingOn profile dir gives before after below visit visits (Ok made)
went_along dir gives before after below visits visit next (Some child) made none is step shape =
    absurd cc
went_along dir gives before after below visits visit next None made none is step shape =
    inr (inl (next, none, step, shape))

-- another one is opened
pub went_down : {profile : Profile} (dir : List ℕ) (gives : List ℕ → Answer → Type 0)
    (before after : WalkState)
    (below pushed visits : List Visit) (visit next child : Visit) (made : ⊤)
    → LeavesNone before after → IsStepping dir gives before.marks after.marks visit next
    (Ok (Some child)) → pushed ≡ below ++ next ∷ [] → visits ≡ pushed ++ child ∷ []
    → IsGoingOn profile dir gives before after below visit visits (Ok made)
went_down dir gives before after below pushed visits visit next child made none step first shape =
    let same : next ≡ visit = step.same in
    inr (inr (
      child,
      none,
      record { input = step.input; is_input = step.is_input; opens = step.opens; same = refl },
      shape ∙ ap (λ l. l ++ child ∷ []) (first ∙ ap (λ v. below ++ v ∷ []) same),
    ))
