-- The tests of outputs by lists.
use Rattle.std.proofs.Common.{◌≡◌, ◌≢◌, ◌∙◌, ◌↔◌, ◌⊎◌, inl, inr, ⊎_elim, ℕ, List, [], ◌∷◌, Option, Some, None, refl, sym, subst}
use Rattle.std.specs.Prelude.{All, Contains, Err}
use Rattle.std.specs.List.{slice_get}
use Rattle.std.proofs.lemmas.Option.{same_Some}
use Rattle.nix_names.proofs.Lists.{same_element}
use Rattle.valid_table.specs.PathInfos.{PathInfo}
use Rattle.valid_table.specs.declared.entry.Registration.{Registration}
use Rattle.build_outcome.specs.Checks.{AreSpecifiers, Forbids, HaveClosures, IsCounted, IsFirstPath, IsTestFault, IsUsed, Of, list_of}
use Rattle.build_outcome.specs.Verdicts.{outputs_of}
use Rattle.build_outcome.specs.declared.checks.check.Check.{Check}
use Rattle.build_outcome.specs.declared.checks.check.Check.TheVariants.{AllowedReferences, AllowedRequisites, DisallowedReferences, DisallowedRequisites}
use Rattle.build_outcome.specs.declared.checks.closure.OutputClosure.{OutputClosure}
use Rattle.build_outcome.specs.declared.job.Job.{Job}
use Rattle.build_outcome.specs.declared.reason.Reason.{Reason}
use Rattle.build_outcome.specs.declared.reason.Reason.TheVariants.{NotAllowed, BadSpecifier}
use Rattle.build_outcome.specs.private.Listing.{AreListed}
use Rattle.build_outcome.specs.private.Testing.{AreUsed, IsBarred, IsPassed, IsTesting}
use Rattle.build_outcome.proofs.RisingIndices.{first_alike}
use Rattle.build_outcome.proofs.TestLists.{all_none, all_one}

module _ (job : Job) (permitted : List (List ℕ)) (infos : List PathInfo)
    (closures : List OutputClosure) where
  -- an output's requisites count, but for the one that may be left out
  abbrev CountsAllBut : (own : List ℕ) → (left_out : Option (List ℕ)) → Type 0
  CountsAllBut own left_out =
      (path : List ℕ) → IsCounted job own path ↔ (left_out ≢ Some path)

  -- why an output doesn't pass a check with this list
  abbrev Told : List Registration → ℕ → Check → List ℕ → List (List ℕ) → Type 0
  Told registrations n check own list = (AreSpecifiers job own list → ⊥)
      ⊎ (AreSpecifiers job own list × ((index : ℕ) × IsFirstPath permitted
      (λ path. IsUsed registrations job infos check n own path
      × Forbids job own check list path) index))

  record CheckFault (registrations : List Registration) (n : ℕ) (check : Check) : Type 0 where
    pub own : List ℕ
    pub list : List (List ℕ)
    pub at : slice_get (outputs_of job) n ≡ Some own
    pub listed : list_of job n check ≡ Some list
    pub told : Told registrations n check own list

  check_fault : (registrations : List Registration) (n : ℕ) (check : Check) (why : Reason)
      → IsTestFault registrations job permitted infos (Of n check) why
      → CheckFault registrations n check
  check_fault registrations n check (BadSpecifier output) (is, (own, list, at, listed, not)) =
      record { own = own; list = list; at = at; listed = listed; told = inl not }
  check_fault registrations n check (NotAllowed output index)
      (is, (own, list, at, listed, specifiers, first)) = record {
        own = own;
        list = list;
        at = at;
        listed = listed;
        told = inr (specifiers, (index, first));
      }
  check_fault registrations n check why fault = absurd fault

  -- what the fault of a test tells, where the output's path and the list are known
  fault_at : (registrations : List Registration) (n : ℕ) (check : Check) (own : List ℕ)
      (list : List (List ℕ)) (why : Reason) → slice_get (outputs_of job) n ≡ Some own
      → list_of job n check ≡ Some list
      → IsTestFault registrations job permitted infos (Of n check) why
      → Told registrations n check own list
  fault_at registrations n check own list why at listed fault =
      let f = check_fault registrations n check why fault in
      let same_own : f.own ≡ own = same_element (outputs_of job) n f.own own f.at at in
      let same_list : f.list ≡ list = same_Some f.list list (sym f.listed ∙ listed) in
      subst (λ (o : List ℕ). Told registrations n check o list) same_own
      (subst (λ (l : List (List ℕ)). Told registrations n check f.own l) same_list f.told)

  pub not_asked : (n : ℕ) (check : Check) → list_of job n check ≡ None
      → All (IsPassed job permitted infos closures) (Of n check ∷ [])
  not_asked n check none = all_one (IsPassed job permitted infos closures) (Of n check)
      (λ registrations why have fault.
      let f = check_fault registrations n check why fault in
      let clash : None ≡ Some f.list = sym none ∙ f.listed in absurd cc)

  pub bad_list : (n : ℕ) (check : Check) (own : List ℕ) (list : List (List ℕ))
      → slice_get (outputs_of job) n ≡ Some own → list_of job n check ≡ Some list
      → (AreSpecifiers job own list → ⊥)
      → IsTesting job permitted infos closures (Of n check ∷ []) (Err (BadSpecifier n))
  bad_list n check own list at listed not = inr (
    Of n check,
    record {
      before = [];
      after = [];
      parts = refl;
      others = all_none (IsPassed job permitted infos closures);
      is = λ registrations have. (refl, (own, list, at, listed, not));
    },
  )

  -- what a check bars is what it forbids of what is used, where it counts what isn't left out
  barred_is : (registrations : List Registration) (n : ℕ) (check : Check) (own : List ℕ)
      (left_out : Option (List ℕ)) (list named used : List (List ℕ))
      → AreListed job own list named
      → AreUsed registrations job infos check n own used → CountsAllBut own left_out
      → (path : List ℕ) → (Contains used path × IsBarred named check left_out path)
      ↔ (IsUsed registrations job infos check n own path × Forbids job own check list path)
  barred_is registrations n AllowedReferences own left_out list named used listed are counts path = (
    λ h. ((are path).0 h.0, λ lists. h.1 ((listed.each path).1 lists)),
    λ h. ((are path).1 h.0, λ has. h.1 ((listed.each path).0 has)),
  )
  barred_is registrations n AllowedRequisites own left_out list named used listed are counts path = (
    λ h. (
      ((are path).0 h.0, (counts path).1 h.1.0),
      λ lists. h.1.1 ((listed.each path).1 lists),
    ),
    λ h. (
      (are path).1 h.0.0,
      ((counts path).0 h.0.1, λ has. h.1 ((listed.each path).0 has)),
    ),
  )
  barred_is registrations n DisallowedReferences own left_out list named used listed are counts path = (
    λ h. ((are path).0 h.0, (listed.each path).0 h.1),
    λ h. ((are path).1 h.0, (listed.each path).1 h.1),
  )
  barred_is registrations n DisallowedRequisites own left_out list named used listed are counts path = (
    λ h. (((are path).0 h.0, (counts path).1 h.1.0), (listed.each path).0 h.1.1),
    λ h. ((are path).1 h.0.0, ((counts path).0 h.0.1, (listed.each path).1 h.1)),
  )

  pub all_allowed : (n : ℕ) (check : Check) (own : List ℕ) (left_out : Option (List ℕ))
      (list named used : List (List ℕ)) → slice_get (outputs_of job) n ≡ Some own → list_of job n check ≡ Some list
      → AreListed job own list named → CountsAllBut own left_out
      → ((registrations : List Registration) → HaveClosures registrations job infos closures
      → AreUsed registrations job infos check n own used)
      → ((path : List ℕ) → Contains used path → IsBarred named check left_out path → ⊥)
      → All (IsPassed job permitted infos closures) (Of n check ∷ [])
  all_allowed n check own left_out list named used at asked listed counts are none =
      all_one (IsPassed job permitted infos closures) (Of n check)
      (λ registrations why have fault. ⊎_elim
      (λ not. not listed.specifiers)
      (λ h.
      let first = h.1.1 in
      let barred = (barred_is registrations n check own left_out list named used listed
      (are registrations have) counts first.is.0).1 first.is.2 in
      none first.is.0 barred.0 barred.1)
      (fault_at registrations n check own list why at asked fault))

  pub one_barred : (n index : ℕ) (check : Check) (own : List ℕ) (left_out : Option (List ℕ))
      (list named used : List (List ℕ)) → slice_get (outputs_of job) n ≡ Some own → list_of job n check ≡ Some list
      → AreListed job own list named → CountsAllBut own left_out
      → ((registrations : List Registration) → HaveClosures registrations job infos closures
      → AreUsed registrations job infos check n own used)
      → IsFirstPath permitted (λ path. Contains used path × IsBarred named check left_out path)
      index
      → IsTesting job permitted infos closures (Of n check ∷ []) (Err (NotAllowed n index))
  one_barred n index check own left_out list named used at asked listed counts are first =
      inr (
        Of n check,
        record {
          before = [];
          after = [];
          parts = refl;
          others = all_none (IsPassed job permitted infos closures);
          is = λ registrations have. (
            refl,
            (
              own,
              list,
              at,
              asked,
              listed.specifiers,
              first_alike permitted
                  (λ path. Contains used path × IsBarred named check left_out path)
                  (λ path. IsUsed registrations job infos check n own path
                  × Forbids job own check list path) index
                  (barred_is registrations n check own left_out list named used listed
                  (are registrations have) counts) first,
            ),
          );
        },
      )
