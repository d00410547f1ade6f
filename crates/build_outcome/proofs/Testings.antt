-- The tests of outputs, one after the other.
use Rattle.std.proofs.Common.{◌≡◌, ◌∙◌, ◌⊎◌, inl, inr, ⊎_elim, ℕ, ◌+◌, ◌-◌, ◌<◌, List, [], ◌∷◌, ◌++◌, length, map, Some, refl, sym, ap, subst, append-nil}
use Rattle.std.specs.Prelude.{All, Contains, IfErr, OnOk, Result, Ok, Err}
use Rattle.std.specs.List.{flat_map, range_with_len, slice_get}
use Rattle.std.proofs.lemmas.List.Elements.{All-append, All-contains}
use Rattle.nix_names.proofs.FirstElements.{first_within}
use Rattle.nix_names.proofs.Lists.{All-from_contains, Contains-from_map, Contains-nothing, same_element}
use Rattle.drv_graph.specs.declared.kinds.Kind.TheVariants.{Addressed, Fixed}
use Rattle.drv_graph.specs.declared.profile.Profile.{Profile}
use Rattle.drv_graph.specs.declared.profile.Profile.TheVariants.{Plain, Nix}
use Rattle.valid_table.specs.PathInfos.{PathInfo}
use Rattle.valid_table.specs.declared.entry.Registration.{Registration}
use Rattle.build_outcome.specs.Checks.{ArePassed, CanReadChecks, HaveClosures, IsFirstPath, IsFirstTestFault, IsFixedJob, IsTestFault, Of, OfAttributes, OfClosureSize, OfFixed, OfSize, RefersAt, Test, checks_at, tests_of, tests_under}
use Rattle.build_outcome.specs.declared.checks.check.Check.TheVariants.{AllowedReferences, AllowedRequisites, DisallowedReferences, DisallowedRequisites}
use Rattle.build_outcome.specs.declared.checks.closure.OutputClosure.{OutputClosure}
use Rattle.build_outcome.specs.declared.job.Job.{Job}
use Rattle.build_outcome.specs.declared.reason.Reason.{Reason}
use Rattle.build_outcome.specs.declared.reason.Reason.TheVariants.{BadAttributes, NotAllowed, OutOfMemory}
use Rattle.build_outcome.specs.private.Testing.{IsFailed, IsPassed, IsTesting, lists_at}
use Rattle.build_outcome.proofs.RisingIndices.{first_alike}
use Rattle.build_outcome.proofs.TestLists.{all_none, all_one, checks_more, checks_parts, fixed_more, fixed_parts}

module _ (job : Job) (permitted : List (List ℕ)) (infos : List PathInfo)
    (closures : List OutputClosure) where
  -- ---- tests one after the other

  pub failed_after : (before middle after : List Test) (why : Reason)
      → All (IsPassed job permitted infos closures) before
      → IsTesting job permitted infos closures middle (Err why)
      → IsTesting job permitted infos closures (before ++ (middle ++ after)) (Err why)
  failed_after before middle after why passed told = ⊎_elim inl
      (λ h. inr (
        h.0,
        first_within (IsPassed job permitted infos closures)
            (IsFailed job permitted infos closures why) before middle after h.0 passed h.1,
      ))
      told

  -- ---- fixed outputs

  fixed_fault : (registrations : List Registration) (n : ℕ) (why : Reason)
      → IsTestFault registrations job permitted infos (OfFixed n) why
      → IsFixedJob job × ((index : ℕ) × IsFirstPath permitted (RefersAt infos n) index)
  fixed_fault registrations n (NotAllowed output index) fault = (fault.1, (index, fault.2))
  fixed_fault registrations n why fault = absurd fault

  pub not_fixed : (count : ℕ) → (IsFixedJob job → ⊥)
      → All (IsPassed job permitted infos closures) (map OfFixed (range_with_len 0 count))
  not_fixed count not =
      All-from_contains (IsPassed job permitted infos closures) _ (λ test has.
      let found = Contains-from_map OfFixed (range_with_len 0 count) test has in
      subst (IsPassed job permitted infos closures) found.2
      (λ registrations why have fault. not (fixed_fault registrations found.0 why fault).0))

  pub not_addressed : job.kind ≡ Addressed → IsFixedJob job → ⊥
  not_addressed is fixed =
      let clash : Addressed ≡ Fixed fixed.0 fixed.1 = sym is ∙ fixed.2 in absurd cc

  pub fixed_none : All (IsPassed job permitted infos closures) (map OfFixed (range_with_len 0 0))
  fixed_none = all_none (IsPassed job permitted infos closures)

  pub fixed_passed : (n : ℕ) (info : PathInfo)
      → All (IsPassed job permitted infos closures) (map OfFixed (range_with_len 0 n))
      → slice_get infos n ≡ Some info → ((path : List ℕ) → Contains info.references path → ⊥)
      → All (IsPassed job permitted infos closures) (map OfFixed (range_with_len 0 (n + 1)))
  fixed_passed n info before at none =
      subst (All (IsPassed job permitted infos closures)) (sym (fixed_more n))
      (All-append (IsPassed job permitted infos closures) _ _ before
      (all_one (IsPassed job permitted infos closures) (OfFixed n)
      (λ registrations why have fault.
      let first = (fixed_fault registrations n why fault).1.1 in
      let refers = first.is.2 in
      none first.is.0 (subst (λ (i : PathInfo). Contains i.references first.is.0)
      (same_element infos n refers.0 info refers.1 at) refers.2))))

  pub fixed_failed : (count n index : ℕ) (info : PathInfo)
      → All (IsPassed job permitted infos closures) (map OfFixed (range_with_len 0 n))
      → n < count → IsFixedJob job → slice_get infos n ≡ Some info
      → IsFirstPath permitted (λ path. Contains info.references path) index
      → IsTesting job permitted infos closures (map OfFixed (range_with_len 0 count))
      (Err (NotAllowed n index))
  fixed_failed count n index info before low fixed at first = inr (
    OfFixed n,
    record {
      before = map OfFixed (range_with_len 0 n);
      after = map OfFixed (range_with_len (n + 1) (count - n - 1));
      parts = fixed_parts count n low;
      others = before;
      is = λ registrations have. (
        refl,
        fixed,
        first_alike permitted (λ path. Contains info.references path) (RefersAt infos n) index
            (λ path. (
              λ has. (info, at, has),
              λ h. subst (λ (i : PathInfo). Contains i.references path)
                  (same_element infos n h.0 info h.1 at) h.2,
            )) first,
      );
    },
  )

  -- ---- the checks of all outputs

  pub checks_none : All (IsPassed job permitted infos closures)
      (flat_map checks_at (range_with_len 0 0))
  checks_none = all_none (IsPassed job permitted infos closures)

  pub checks_passed : (n : ℕ)
      → All (IsPassed job permitted infos closures) (flat_map checks_at (range_with_len 0 n))
      → All (IsPassed job permitted infos closures) (checks_at n)
      → All (IsPassed job permitted infos closures)
      (flat_map checks_at (range_with_len 0 (n + 1)))
  checks_passed n before here =
      subst (All (IsPassed job permitted infos closures)) (sym (checks_more n))
      (All-append (IsPassed job permitted infos closures) _ _ before here)

  pub checks_failed : (count n : ℕ) (why : Reason) → n < count
      → All (IsPassed job permitted infos closures) (flat_map checks_at (range_with_len 0 n))
      → IsTesting job permitted infos closures (checks_at n) (Err why)
      → IsTesting job permitted infos closures (flat_map checks_at (range_with_len 0 count))
      (Err why)
  checks_failed count n why low before told =
      subst (λ (l : List Test). IsTesting job permitted infos closures l (Err why))
      (sym (checks_parts count n low))
      (failed_after (flat_map checks_at (range_with_len 0 n)) (checks_at n)
      (flat_map checks_at (range_with_len (n + 1) (count - n - 1))) why before told)

  -- ---- the checks of one output that have lists

  pub last_told : (before : List Test) (test : Test) (result : Result (Unit {0}) Reason)
      → All (IsPassed job permitted infos closures) before
      → IsTesting job permitted infos closures (test ∷ []) result
      → IsTesting job permitted infos closures (before ++ test ∷ []) result
  last_told before test (Ok done) passed told =
      All-append (IsPassed job permitted infos closures) before (test ∷ []) passed told
  last_told before test (Err why) passed told =
      failed_after before (test ∷ []) [] why passed told

  pub first_failed : (n : ℕ) (why : Reason)
      → IsTesting job permitted infos closures (Of n AllowedReferences ∷ []) (Err why)
      → IsTesting job permitted infos closures (lists_at n) (Err why)
  first_failed n why told =
      failed_after [] (Of n AllowedReferences ∷ [])
      (Of n AllowedRequisites ∷ Of n DisallowedReferences ∷ Of n DisallowedRequisites ∷ []) why
      (all_none (IsPassed job permitted infos closures)) told

  pub second_failed : (n : ℕ) (why : Reason)
      → All (IsPassed job permitted infos closures) (Of n AllowedReferences ∷ [])
      → IsTesting job permitted infos closures (Of n AllowedRequisites ∷ []) (Err why)
      → IsTesting job permitted infos closures (lists_at n) (Err why)
  second_failed n why first told =
      failed_after (Of n AllowedReferences ∷ []) (Of n AllowedRequisites ∷ [])
      (Of n DisallowedReferences ∷ Of n DisallowedRequisites ∷ []) why first told

  pub two_passed : (n : ℕ)
      → All (IsPassed job permitted infos closures) (Of n AllowedReferences ∷ [])
      → All (IsPassed job permitted infos closures) (Of n AllowedRequisites ∷ [])
      → All (IsPassed job permitted infos closures)
      (Of n AllowedReferences ∷ Of n AllowedRequisites ∷ [])
  two_passed n first second =
      All-append (IsPassed job permitted infos closures) (Of n AllowedReferences ∷ [])
      (Of n AllowedRequisites ∷ []) first second

  pub third_failed : (n : ℕ) (why : Reason)
      → All (IsPassed job permitted infos closures) (Of n AllowedReferences ∷ [])
      → All (IsPassed job permitted infos closures) (Of n AllowedRequisites ∷ [])
      → IsTesting job permitted infos closures (Of n DisallowedReferences ∷ []) (Err why)
      → IsTesting job permitted infos closures (lists_at n) (Err why)
  third_failed n why first second told =
      failed_after (Of n AllowedReferences ∷ Of n AllowedRequisites ∷ [])
      (Of n DisallowedReferences ∷ []) (Of n DisallowedRequisites ∷ []) why
      (two_passed n first second) told

  pub all_told : (n : ℕ) (result : Result (Unit {0}) Reason)
      → All (IsPassed job permitted infos closures) (Of n AllowedReferences ∷ [])
      → All (IsPassed job permitted infos closures) (Of n AllowedRequisites ∷ [])
      → All (IsPassed job permitted infos closures) (Of n DisallowedReferences ∷ [])
      → IsTesting job permitted infos closures (Of n DisallowedRequisites ∷ []) result
      → IsTesting job permitted infos closures (lists_at n) result
  all_told n result first second third told =
      last_told
      (Of n AllowedReferences ∷ Of n AllowedRequisites ∷ Of n DisallowedReferences ∷ [])
      (Of n DisallowedRequisites) result
      (All-append (IsPassed job permitted infos closures)
      (Of n AllowedReferences ∷ Of n AllowedRequisites ∷ []) (Of n DisallowedReferences ∷ [])
      (two_passed n first second) third) told

  -- ---- the checks of one output

  pub size_failed : (n : ℕ) (why : Reason)
      → IsTesting job permitted infos closures (OfSize n ∷ []) (Err why)
      → IsTesting job permitted infos closures (checks_at n) (Err why)
  size_failed n why told =
      failed_after [] (OfSize n ∷ []) (OfClosureSize n ∷ lists_at n) why
      (all_none (IsPassed job permitted infos closures)) told

  pub closure_size_failed : (n : ℕ) (why : Reason)
      → All (IsPassed job permitted infos closures) (OfSize n ∷ [])
      → IsTesting job permitted infos closures (OfClosureSize n ∷ []) (Err why)
      → IsTesting job permitted infos closures (checks_at n) (Err why)
  closure_size_failed n why first told =
      failed_after (OfSize n ∷ []) (OfClosureSize n ∷ []) (lists_at n) why first told

  pub output_told : (n : ℕ) (result : Result (Unit {0}) Reason)
      → All (IsPassed job permitted infos closures) (OfSize n ∷ [])
      → All (IsPassed job permitted infos closures) (OfClosureSize n ∷ [])
      → IsTesting job permitted infos closures (lists_at n) result
      → IsTesting job permitted infos closures (checks_at n) result
  output_told n (Ok done) first second told =
      All-append (IsPassed job permitted infos closures) (OfSize n ∷ OfClosureSize n ∷ [])
      (lists_at n)
      (All-append (IsPassed job permitted infos closures) (OfSize n ∷ [])
      (OfClosureSize n ∷ []) first second) told
  output_told n (Err why) first second told =
      failed_after (OfSize n ∷ OfClosureSize n ∷ []) (lists_at n) [] why
      (All-append (IsPassed job permitted infos closures) (OfSize n ∷ [])
      (OfClosureSize n ∷ []) first second) told

  -- ---- attributes

  attributes_fault : (registrations : List Registration) (why : Reason)
      → IsTestFault registrations job permitted infos OfAttributes why → CanReadChecks job → ⊥
  attributes_fault registrations BadAttributes fault = fault
  attributes_fault registrations why fault = absurd fault

  attributes_passed : CanReadChecks job
      → All (IsPassed job permitted infos closures) (OfAttributes ∷ [])
  attributes_passed can = all_one (IsPassed job permitted infos closures) OfAttributes
      (λ registrations why have fault. attributes_fault registrations why fault can)

  -- ---- all tests

  -- the tests of fixed outputs, and those that are asked for
  abbrev fixed_tests : List Test
  fixed_tests = map OfFixed (range_with_len 0 (length job.outputs.items))

  abbrev asked_tests : List Test
  asked_tests = flat_map checks_at (range_with_len 0 (length job.outputs.items))

  nix_tests : job.profile ≡ Nix
      → tests_of job ≡ (OfAttributes ∷ []) ++ (fixed_tests ++ asked_tests)
  nix_tests nix = ap (λ (p : Profile). tests_under p (length job.outputs.items)) nix

  pub plain_passed : job.profile ≡ Plain → (registrations : List Registration)
      → HaveClosures registrations job infos closures
      → ArePassed registrations job permitted infos
  plain_passed plain registrations have test why has fault =
      Contains-nothing test (subst (λ (l : List Test). Contains l test)
      (ap (λ (p : Profile). tests_under p (length job.outputs.items)) plain) has)

  all_passed : job.profile ≡ Nix → CanReadChecks job
      → All (IsPassed job permitted infos closures) fixed_tests
      → All (IsPassed job permitted infos closures) asked_tests
      → (registrations : List Registration) → HaveClosures registrations job infos closures
      → ArePassed registrations job permitted infos
  all_passed nix can fixed checks registrations have test why has fault =
      All-contains (IsPassed job permitted infos closures) (tests_of job) test
      (subst (All (IsPassed job permitted infos closures)) (sym (nix_tests nix))
      (All-append (IsPassed job permitted infos closures) (OfAttributes ∷ [])
      (fixed_tests ++ asked_tests) (attributes_passed can)
      (All-append (IsPassed job permitted infos closures) fixed_tests asked_tests fixed checks)))
      has registrations why have fault

  -- what is told of the first test that isn't passed
  abbrev FirstTold : Reason → Type 0
  FirstTold why = (why ≡ OutOfMemory) ⊎ ((registrations : List Registration)
      → HaveClosures registrations job infos closures
      → IsFirstTestFault registrations job permitted infos why)

  first_told : (why : Reason) → IsTesting job permitted infos closures (tests_of job) (Err why)
      → FirstTold why
  first_told why told = ⊎_elim inl
      (λ h. inr (λ registrations have. (
        h.0,
        record {
          before = h.1.before;
          after = h.1.after;
          parts = h.1.parts;
          others = λ k d low fault. h.1.others k d low registrations fault.0 have fault.1;
          is = (why, h.1.is registrations have);
        },
        h.1.is registrations have,
      )))
      told

  pub fixed_told : (why : Reason) → job.profile ≡ Nix → CanReadChecks job
      → IsTesting job permitted infos closures fixed_tests (Err why) → FirstTold why
  fixed_told why nix can told =
      first_told why
      (subst (λ (l : List Test). IsTesting job permitted infos closures l (Err why))
      (sym (nix_tests nix))
      (failed_after (OfAttributes ∷ []) fixed_tests asked_tests why (attributes_passed can) told))

  checks_told : (why : Reason) → job.profile ≡ Nix → CanReadChecks job
      → All (IsPassed job permitted infos closures) fixed_tests
      → IsTesting job permitted infos closures asked_tests (Err why) → FirstTold why
  checks_told why nix can fixed told =
      first_told why
      (subst (λ (l : List Test). IsTesting job permitted infos closures l (Err why))
      (ap (λ l. OfAttributes ∷ fixed_tests ++ l) (append-nil asked_tests) ∙ sym (nix_tests nix))
      (failed_after (OfAttributes ∷ fixed_tests) asked_tests [] why
      (All-append (IsPassed job permitted infos closures) (OfAttributes ∷ []) fixed_tests
      (attributes_passed can) fixed) told))

  -- what the answer of the checks tells
  pub tests_ok : job.profile ≡ Nix → CanReadChecks job
      → All (IsPassed job permitted infos closures) fixed_tests
      → (result : Result (Unit {0}) Reason)
      → IsTesting job permitted infos closures asked_tests result
      → OnOk result ((registrations : List Registration)
      → HaveClosures registrations job infos closures
      → ArePassed registrations job permitted infos)
  tests_ok nix can fixed (Ok done) told = all_passed nix can fixed told
  tests_ok nix can fixed (Err why) told = tt

  pub tests_err : job.profile ≡ Nix → CanReadChecks job
      → All (IsPassed job permitted infos closures) fixed_tests
      → (result : Result (Unit {0}) Reason)
      → IsTesting job permitted infos closures asked_tests result
      → IfErr result FirstTold
  tests_err nix can fixed (Ok done) told = tt
  tests_err nix can fixed (Err why) told = checks_told why nix can fixed told
