use Rattle.std.proofs.Common.{refl}
use Rattle.std.proofs.lemmas.Option.{slice_get_read}
use Rattle.build_outcome.proofs.UsedPaths.{closure_permitted, closures_are_used, references_are_used, references_permitted}
use Rattle.build_outcome.proofs.checks.used_paths.used_by.Goals as goal

pub returns-in-AllowedReferences-clause-testable : goal.returns-in-AllowedReferences-clause-testable
returns-in-AllowedReferences-clause-testable c = λ job permitted are. (
  c.references.ensures.rising,
  references_permitted _ _ _ _ _ _ _ are
      (slice_get_read _ _ _ _ refl c.requires c.index-records-n.is) c.references.ensures.value,
)

pub returns-in-AllowedReferences-clause-used : goal.returns-in-AllowedReferences-clause-used
returns-in-AllowedReferences-clause-used c = λ registrations job own have nix asked at.
    references_are_used registrations job _ _ _ own _ _ c.in-AllowedReferences.is
    (slice_get_read _ _ _ _ refl c.requires c.index-records-n.is) c.references.ensures.value

pub returns-in-AllowedRequisites-clause-testable : goal.returns-in-AllowedRequisites-clause-testable
returns-in-AllowedRequisites-clause-testable c = λ job permitted are.
    closure_permitted job permitted _ _ _ _ are c.requisites_at.ensures.some
    c.requisites_at.ensures.none

pub returns-in-AllowedRequisites-clause-used : goal.returns-in-AllowedRequisites-clause-used
returns-in-AllowedRequisites-clause-used c = λ registrations job own have nix asked at.
    closures_are_used registrations job _ _ _ own _ have nix at c.requisites_at.ensures.some _
    c.in-AllowedRequisites.is asked
