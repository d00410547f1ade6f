-- The paths that outputs use.
use Rattle.std.proofs.Common.{◌≡◌, ◌≢◌, ◌↔◌, ◌⊎◌, ⊎_elim, ◌&&◌, not, Bool, true, false, inl, inr, ℕ, List, [], Option, Some, None, refl, sym, subst}
use Rattle.std.specs.Prelude.{All, Contains, IsTrue}
use Rattle.std.proofs.lemmas.Bool.{false≢true}
use Rattle.build_outcome.specs.declared.checks.check.Check.{Check}
use Rattle.std.specs.List.{slice_get}
use Rattle.std.proofs.lemmas.List.Elements.{All-contains}
use Rattle.nix_names.specs.Rising.{IsRising}
use Rattle.nix_names.proofs.Lists.{All-from_contains, Contains-from_get, Contains-nothing, same_element}
use Rattle.drv_graph.specs.declared.profile.Profile.TheVariants.{Nix}
use Rattle.valid_table.specs.PathInfos.{PathInfo}
use Rattle.valid_table.specs.declared.entry.Registration.{Registration}
use Rattle.build_outcome.specs.Checks.{HaveClosures, IsPermittedClosure, IsRequisite, NeedsClosure, RefersAt, list_of}
use Rattle.build_outcome.specs.Verdicts.{outputs_of}
use Rattle.build_outcome.specs.declared.checks.check.Check.TheVariants.{AllowedReferences, AllowedRequisites, DisallowedReferences, DisallowedRequisites}
use Rattle.build_outcome.specs.declared.checks.closure.OutputClosure.{OutputClosure}
use Rattle.build_outcome.specs.declared.job.Job.{Job}
use Rattle.build_outcome.specs.private.Testing.{AreTestable, AreUsed, IsBarred, bars}

-- ---- references

pub references_permitted : (job : Job) (permitted : List (List ℕ)) (infos : List PathInfo)
    (closures : List OutputClosure) (n : ℕ) (info : PathInfo) (lent : List (List ℕ))
    → AreTestable job permitted infos closures → slice_get infos n ≡ Some info
    → lent ≡ info.references → All (Contains permitted) lent
references_permitted job permitted infos closures n info lent are at is =
    subst (All (Contains permitted)) (sym is)
    (All-contains (λ (i : PathInfo). All (Contains permitted) i.references) infos info are.refer
    (Contains-from_get infos n info at))

references_used : (infos : List PathInfo) (n : ℕ) (info : PathInfo) (lent : List (List ℕ))
    (path : List ℕ) → slice_get infos n ≡ Some info → lent ≡ info.references
    → Contains lent path ↔ RefersAt infos n path
references_used infos n info lent path at is = (
  λ has. (info, at, subst (λ (l : List (List ℕ)). Contains l path) is has),
  λ h. subst (λ (l : List (List ℕ)). Contains l path) (sym is)
      (subst (λ (i : PathInfo). Contains i.references path)
      (same_element infos n h.0 info h.1 at) h.2),
)

pub references_are_used : (registrations : List Registration) (job : Job) (infos : List PathInfo)
    (check : Check) (n : ℕ) (own : List ℕ) (info : PathInfo) (lent : List (List ℕ))
    → (check ≡ AllowedReferences) ⊎ (check ≡ DisallowedReferences)
    → slice_get infos n ≡ Some info → lent ≡ info.references
    → AreUsed registrations job infos check n own lent
references_are_used registrations job infos check n own info lent is at lends = ⊎_elim
    (λ e. subst (λ (c : Check). AreUsed registrations job infos c n own lent) (sym e) used)
    (λ e. subst (λ (c : Check). AreUsed registrations job infos c n own lent) (sym e) used)
    is
  where
    used : (path : List ℕ) → Contains lent path ↔ RefersAt infos n path
    used path = references_used infos n info lent path at lends

-- ---- closures

pub closure_permitted : (job : Job) (permitted : List (List ℕ)) (infos : List PathInfo)
    (closures : List OutputClosure) (n : ℕ) (lent : List (List ℕ))
    → AreTestable job permitted infos closures
    → ((closure : OutputClosure) → slice_get closures n ≡ Some closure
    → lent ≡ closure.paths.items)
    → (slice_get closures n ≡ None → lent ≡ [])
    → IsRising lent × All (Contains permitted) lent
closure_permitted job permitted infos closures n lent are some none =
    by (slice_get closures n) refl
  where
    by : (o : Option OutputClosure) → slice_get closures n ≡ o
        → IsRising lent × All (Contains permitted) lent
    by None e = subst (λ (l : List (List ℕ)). IsRising l × All (Contains permitted) l) (sym (none e))
        (tt, All-from_contains (Contains permitted) [] (λ p has. absurd (Contains-nothing p has)))
    by (Some closure) e =
        let is = All-contains (IsPermittedClosure permitted) closures closure are.closures
        (Contains-from_get closures n closure e) in
        subst (λ (l : List (List ℕ)). IsRising l × All (Contains permitted) l)
        (sym (some closure e)) (is.rising, is.within)

module _ (registrations : List Registration) (job : Job) (infos : List PathInfo)
    (closures : List OutputClosure) (n : ℕ) (own : List ℕ) (lent : List (List ℕ))
    (have : HaveClosures registrations job infos closures) (nix : job.profile ≡ Nix)
    (at : slice_get (outputs_of job) n ≡ Some own)
    (some : (closure : OutputClosure) → slice_get closures n ≡ Some closure
    → lent ≡ closure.paths.items) where
  requisites_used : NeedsClosure job n → (path : List ℕ)
      → Contains lent path ↔ IsRequisite registrations job infos own path
  requisites_used needs path =
      let h = have n own at needs in
      subst (λ (l : List (List ℕ)). Contains l path ↔ IsRequisite registrations job infos own path)
      (sym (some h.0 h.1)) (h.2.paths.each path)

  pub closures_are_used : (check : Check)
      → (check ≡ AllowedRequisites) ⊎ (check ≡ DisallowedRequisites) → list_of job n check ≢ None
      → AreUsed registrations job infos check n own lent
  closures_are_used check is asked = ⊎_elim
      (λ e. subst (λ (c : Check). AreUsed registrations job infos c n own lent) (sym e)
      (requisites_used (nix, inl (subst (λ (c : Check). list_of job n c ≢ None) e asked))))
      (λ e. subst (λ (c : Check). AreUsed registrations job infos c n own lent) (sym e)
      (requisites_used (nix, inr (inl (subst (λ (c : Check). list_of job n c ≢ None) e asked)))))
      is

-- ---- what a check bars

not_told : (b : Bool) (P : Type 0) → IsTrue b ↔ P → IsTrue (not b) ↔ (P → ⊥)
not_told true P told = (λ is. absurd (false≢true is), λ none. absurd (none (told.0 refl)))
not_told false P told = (λ _ is. absurd (false≢true (told.1 is)), λ _. refl)

both_told : (a b : Bool) (P Q : Type 0) → IsTrue a ↔ P → IsTrue b ↔ Q → IsTrue (a && b) ↔ (Q × P)
both_told true b P Q told told' = (λ is. (told'.0 is, told.0 refl), λ h. told'.1 h.0)
both_told false b P Q told told' =
    (λ is. absurd (false≢true is), λ h. absurd (false≢true (told.1 h.1)))

pub barred_by : (check : Check) (named : List (List ℕ)) (left_out : Option (List ℕ))
    (path : List ℕ) (is_named is_left_out : Bool) → IsTrue is_named ↔ Contains named path
    → IsTrue is_left_out ↔ (left_out ≡ Some path)
    → IsTrue (bars check is_named is_left_out) ↔ IsBarred named check left_out path
barred_by AllowedReferences named left_out path is_named is_left_out told is =
    not_told is_named (Contains named path) told
barred_by AllowedRequisites named left_out path is_named is_left_out told is =
    both_told (not is_named) (not is_left_out) (Contains named path → ⊥) (left_out ≢ Some path)
    (not_told is_named (Contains named path) told)
    (not_told is_left_out (left_out ≡ Some path) is)
barred_by DisallowedReferences named left_out path is_named is_left_out told is = told
barred_by DisallowedRequisites named left_out path is_named is_left_out told is =
    both_told is_named (not is_left_out) (Contains named path) (left_out ≢ Some path) told
    (not_told is_left_out (left_out ≡ Some path) is)
