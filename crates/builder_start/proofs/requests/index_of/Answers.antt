use Rattle.std.proofs.Common.{◌≡◌, ℕ, List, Some, inl, slice_get, subst, sym}
use Rattle.std.specs.Prelude.{Contains}
use Rattle.nix_names.specs.Rising.{IsRising}
use Rattle.build_outcome.proofs.RisingIndices.{index_found, index_missing}
use Rattle.builder_start.proofs.requests.index_of.Goals as goal

pub returns : goal.returns
returns c = (
  c.in_ok-paths.paths.items,
  c.in_ok-paths.ensures,
  subst (λ (ps : List (List ℕ)). slice_get ps c.in-Ok.index ≡ Some c.args.path.now)
      c.deref.ensures.value (index_found _ _ _ c.in-Ok.ensures.bound c.in-Ok.ensures.ok),
)

pub unreachable-requires : goal.unreachable-requires
unreachable-requires c =
    index_missing _ _ _ (subst IsRising (sym c.deref.ensures.value) c.in_ok-paths.ensures.rising)
    c.in-Err.ensures.bound c.in-Err.ensures.position
    (subst (λ (ps : List (List ℕ)). Contains ps c.args.path.now) (sym c.deref.ensures.value)
    ((c.in_ok-paths.ensures.each c.args.path.now).1 (inl c.requires)))
