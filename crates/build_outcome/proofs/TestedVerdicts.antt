-- There is one verdict with the tests, and it stays where what is reached stays.
use Rattle.std.proofs.Common.{◌≡◌, ◌∙◌, inl, inr, ⊎_elim, ℕ, ◌<◌, List, length, Some, refl, sym, ap, subst}
use Rattle.std.specs.Prelude.{Contains, Result, Ok, Err}
use Rattle.std.specs.List.{range_with_len, slice_get}
use Rattle.std.proofs.lemmas.Option.{same_Some}
use Rattle.nix_names.proofs.FirstElements.{first_contained, one_first}
use Rattle.nix_names.proofs.Lists.{same_element}
use Rattle.valid_table.specs.PathInfos.{PathInfo}
use Rattle.valid_table.specs.declared.entry.Registration.{Registration}
use Rattle.build_outcome.specs.Checks.{ArePassed, AreSpecifiers, Forbids, HasOneTestedVerdict, IsClosurePast, IsFirstPath, IsFirstTestFault, IsRequisite, IsTestFault, IsTestedVerdict, IsUnmeasured, IsUsed, Of, OfAttributes, OfClosureSize, OfFixed, OfSize, ReachAlike, RefersAt, Test, TestedVerdictStays, list_of, nar_at, tests_of, with_outputs}
use Rattle.build_outcome.specs.Verdicts.{AreRecords, IsVerdict, outputs_of}
use Rattle.build_outcome.specs.declared.checks.check.Check.{Check}
use Rattle.build_outcome.specs.declared.checks.check.Check.TheVariants.{AllowedReferences, AllowedRequisites, DisallowedReferences, DisallowedRequisites}
use Rattle.build_outcome.specs.declared.job.Answer.{Answer}
use Rattle.build_outcome.specs.declared.job.Job.{Job}
use Rattle.build_outcome.specs.declared.reason.Reason.{Reason}
use Rattle.build_outcome.specs.declared.reason.Reason.TheVariants.{NotAllowed, BadAttributes, BadSpecifier, PastMaxClosureSize, PastMaxSize, UnknownNar}
use Rattle.build_outcome.proofs.OneVerdict.{has_one_verdict}
use Rattle.build_outcome.proofs.RisingIndices.{first_alike}
use Rattle.build_outcome.proofs.Sizes.{nar_of_other, nar_of_output, same_sizes}

-- ---- one fault of a test

module _ (registrations : List Registration) (job : Job) (permitted : List (List ℕ))
    (infos : List PathInfo) where
  -- Why a test isn't passed, by its cases.
  data Fault : Test → Reason → Type 0 where
    refers : (n index : ℕ)
        → IsTestFault registrations job permitted infos (OfFixed n) (NotAllowed n index)
        → Fault (OfFixed n) (NotAllowed n index)
    stray : (n : ℕ) (check : Check)
        → IsTestFault registrations job permitted infos (Of n check) (BadSpecifier n)
        → Fault (Of n check) (BadSpecifier n)
    barred : (n : ℕ) (check : Check) (index : ℕ)
        → IsTestFault registrations job permitted infos (Of n check) (NotAllowed n index)
        → Fault (Of n check) (NotAllowed n index)
    unread : Fault OfAttributes BadAttributes
    large : (n : ℕ) → Fault (OfSize n) (PastMaxSize n)
    wide : (n : ℕ)
        → IsTestFault registrations job permitted infos (OfClosureSize n) (PastMaxClosureSize n)
        → Fault (OfClosureSize n) (PastMaxClosureSize n)
    unmeasured : (n index : ℕ)
        → IsTestFault registrations job permitted infos (OfClosureSize n) (UnknownNar index)
        → Fault (OfClosureSize n) (UnknownNar index)

  fault_cases : (test : Test) (why : Reason)
      → IsTestFault registrations job permitted infos test why → Fault test why
  fault_cases (OfFixed n) (NotAllowed output index) fault =
      subst (λ k. Fault (OfFixed n) (NotAllowed k index)) (sym fault.0)
      (refers n index (refl, fault.1, fault.2))
  fault_cases (Of n check) (BadSpecifier output) fault =
      subst (λ k. Fault (Of n check) (BadSpecifier k)) (sym fault.0)
      (stray n check (refl, fault.1))
  fault_cases (Of n check) (NotAllowed output index) fault =
      subst (λ k. Fault (Of n check) (NotAllowed k index)) (sym fault.0)
      (barred n check index (refl, fault.1))
  fault_cases OfAttributes BadAttributes fault = unread
  fault_cases (OfSize n) (PastMaxSize output) fault =
      subst (λ k. Fault (OfSize n) (PastMaxSize k)) (sym fault.0) (large n)
  fault_cases (OfClosureSize n) (PastMaxClosureSize output) fault =
      subst (λ k. Fault (OfClosureSize n) (PastMaxClosureSize k)) (sym fault.0)
      (wide n (refl, fault.1))
  fault_cases (OfClosureSize n) (UnknownNar index) fault = unmeasured n index fault
  fault_cases test why fault = absurd fault

  one_index : (Holds : List ℕ → Type 0) (a b : ℕ) → IsFirstPath permitted Holds a
      → IsFirstPath permitted Holds b → a ≡ b
  one_index Holds a b first first' =
      one_first (λ n. ((p : List ℕ) × (slice_get permitted n ≡ Some p) × Holds p) → ⊥)
      (λ n. (p : List ℕ) × (slice_get permitted n ≡ Some p) × Holds p)
      (λ n not is. not is) (range_with_len 0 (length permitted)) a b first first'

  same_list : (n : ℕ) (check : Check) (a b : List (List ℕ)) → list_of job n check ≡ Some a
      → list_of job n check ≡ Some b → a ≡ b
  same_list n check a b is is' = same_Some a b (sym is ∙ is')

  clash : (n : ℕ) (check : Check) (index : ℕ)
      → IsTestFault registrations job permitted infos (Of n check) (BadSpecifier n)
      → IsTestFault registrations job permitted infos (Of n check) (NotAllowed n index) → ⊥
  clash n check index (e, (own, list, at, listed, not))
      (e', (own', list', at', listed', all, first))
      =
      let owns : own' ≡ own = same_element (outputs_of job) n own' own at' at in
      let lists : list' ≡ list = same_list n check list' list listed' listed in
      not (subst (λ (o : List ℕ). AreSpecifiers job o list) owns
      (subst (λ (l : List (List ℕ)). AreSpecifiers job own' l) lists all))

  one_barred : (n : ℕ) (check : Check) (index index' : ℕ)
      → IsTestFault registrations job permitted infos (Of n check) (NotAllowed n index)
      → IsTestFault registrations job permitted infos (Of n check) (NotAllowed n index')
      → index ≡ index'
  one_barred n check index index' (e, (own, list, at, listed, all, first))
      (e', (own', list', at', listed', all', first')) =
      let owns : own' ≡ own = same_element (outputs_of job) n own' own at' at in
      let lists : list' ≡ list = same_list n check list' list listed' listed in
      one_index (λ path. IsUsed registrations job infos check n own path
      × Forbids job own check list path) index index' first
      (subst (λ (o : List ℕ). IsFirstPath permitted
      (λ path. IsUsed registrations job infos check n o path × Forbids job o check list path)
      index') owns
      (subst (λ (l : List (List ℕ)). IsFirstPath permitted
      (λ path. IsUsed registrations job infos check n own' path × Forbids job own' check l path)
      index') lists first'))

  -- a closure isn't past its limit where some path isn't measured
  closure_clash : (n index : ℕ)
      → IsTestFault registrations job permitted infos (OfClosureSize n) (PastMaxClosureSize n)
      → IsTestFault registrations job permitted infos (OfClosureSize n) (UnknownNar index) → ⊥
  closure_clash n index (e, (own, limit, at, is, past)) (own', limit', at', is', first) =
      past.2 first.is.0
      (subst (λ (o : List ℕ). IsUnmeasured registrations job infos o first.is.0)
      (same_element (outputs_of job) n own' own at' at) first.is.2)

  one_unmeasured : (n index index' : ℕ)
      → IsTestFault registrations job permitted infos (OfClosureSize n) (UnknownNar index)
      → IsTestFault registrations job permitted infos (OfClosureSize n) (UnknownNar index')
      → index ≡ index'
  one_unmeasured n index index' (own, limit, at, is, first) (own', limit', at', is', first') =
      one_index (IsUnmeasured registrations job infos own) index index' first
      (subst (λ (o : List ℕ). IsFirstPath permitted (IsUnmeasured registrations job infos o) index')
      (same_element (outputs_of job) n own' own at' at) first')

  one_fault : (test : Test) (a b : Reason) → Fault test a → Fault test b → a ≡ b
  one_fault _ _ _ unread unread = refl
  one_fault _ _ _ (large n) (large _) = refl
  one_fault _ _ _ (wide n fault) (wide _ fault') = refl
  one_fault _ _ _ (wide n fault) (unmeasured _ index fault') =
      absurd (closure_clash n index fault fault')
  one_fault _ _ _ (unmeasured n index fault) (wide _ fault') =
      absurd (closure_clash n index fault' fault)
  one_fault _ _ _ (unmeasured n index fault) (unmeasured _ index' fault') =
      ap UnknownNar (one_unmeasured n index index' fault fault')
  one_fault _ _ _ (refers n index fault) (refers _ index' fault') =
      ap (NotAllowed n) (one_index _ index index' fault.2 fault'.2)
  one_fault _ _ _ (stray n check fault) (stray _ _ fault') = refl
  one_fault _ _ _ (stray n check fault) (barred _ _ index fault') =
      absurd (clash n check index fault fault')
  one_fault _ _ _ (barred n check index fault) (stray _ _ fault') =
      absurd (clash n check index fault' fault)
  one_fault _ _ _ (barred n check index fault) (barred _ _ index' fault') =
      ap (NotAllowed n) (one_barred n check index index' fault fault')

  abbrev Failing : Test → Type 0
  Failing test = (why : Reason) × IsTestFault registrations job permitted infos test why

  pub one_first_fault : (a b : Reason) → IsFirstTestFault registrations job permitted infos a
      → IsFirstTestFault registrations job permitted infos b → a ≡ b
  one_first_fault a b (test, first, fault) (test', first', fault') =
      let same : test' ≡ test = one_first (λ t. Failing t → ⊥) Failing (λ t not is. not is)
      (tests_of job) test' test first' first in
      one_fault test a b (fault_cases test a fault)
      (fault_cases test b
      (subst (λ (t : Test). IsTestFault registrations job permitted infos t b) same fault'))

  pub passed_or_failed : (why : Reason) → ArePassed registrations job permitted infos
      → IsFirstTestFault registrations job permitted infos why → ⊥
  passed_or_failed why passed (test, first, fault) =
      passed test why (first_contained (λ t. Failing t → ⊥) Failing (tests_of job) test first) fault

-- ---- one verdict

module _ (registrations : List Registration) (job : Job) (permitted : List (List ℕ))
    (answer : Answer) where
  one_verdict : (a b : Result (List PathInfo) Reason) → IsVerdict job permitted answer a
      → IsVerdict job permitted answer b → a ≡ b
  one_verdict = has_one_verdict job permitted answer

  same_infos : (a b : List PathInfo) → IsVerdict job permitted answer (Ok a)
      → IsVerdict job permitted answer (Ok b) → a ≡ b
  same_infos a b verdict verdict' =
      let same = one_verdict (Ok a) (Ok b) verdict verdict' in cc

  ok_and_err : (a : List PathInfo) (why : Reason) → IsVerdict job permitted answer (Ok a)
      → IsVerdict job permitted answer (Err why) → ⊥
  ok_and_err a why verdict verdict' =
      let same = one_verdict (Ok a) (Err why) verdict verdict' in absurd cc

  ok_and_failed : (a b : List PathInfo) (why : Reason) → IsVerdict job permitted answer (Ok a)
      → ArePassed registrations job permitted a → IsVerdict job permitted answer (Ok b)
      → IsFirstTestFault registrations job permitted b why → ⊥
  ok_and_failed a b why verdict passed verdict' failed =
      passed_or_failed registrations job permitted a why passed
      (subst (λ (i : List PathInfo). IsFirstTestFault registrations job permitted i why)
      (same_infos b a verdict' verdict) failed)

  pub one_tested : (a b : Result (List PathInfo) Reason)
      → IsTestedVerdict registrations job permitted answer a
      → IsTestedVerdict registrations job permitted answer b → a ≡ b
  one_tested (Ok a) (Ok b) told told' = ap Ok (same_infos a b told.0 told'.0)
  one_tested (Ok a) (Err why) told told' = ⊎_elim
      (λ verdict. absurd (ok_and_err a why told.0 verdict))
      (λ h. absurd (ok_and_failed a h.0 why told.0 told.1 h.1 h.2))
      told'
  one_tested (Err why) (Ok b) told told' = ⊎_elim
      (λ verdict. absurd (ok_and_err b why told'.0 verdict))
      (λ h. absurd (ok_and_failed b h.0 why told'.0 told'.1 h.1 h.2))
      told
  one_tested (Err why) (Err other) told told' = ⊎_elim
      (λ verdict. ⊎_elim
      (λ verdict'. one_verdict (Err why) (Err other) verdict verdict')
      (λ h. absurd (ok_and_err h.0 why h.1 verdict))
      told')
      (λ h. ⊎_elim
      (λ verdict'. absurd (ok_and_err h.0 other h.1 verdict'))
      (λ h'. ap Err (one_first_fault registrations job permitted h.0 why other h.2
      (subst (λ (i : List PathInfo). IsFirstTestFault registrations job permitted i other)
      (same_infos h'.0 h.0 h'.1 h.1) h'.2)))
      told')
      told

pub has_one_tested_verdict : HasOneTestedVerdict
has_one_tested_verdict registrations job permitted answer a b told told' =
    one_tested registrations job permitted answer a b told told'

-- ---- it stays

-- what outputs refer to is permitted
abbrev AreAllPermitted : (permitted : List (List ℕ)) → List PathInfo → Type 0
AreAllPermitted permitted infos =
    (n : ℕ) (path : List ℕ) → RefersAt infos n path → Contains permitted path

alike_back : (registrations others : List Registration) (job : Job) (permitted : List (List ℕ))
    → ReachAlike registrations others job permitted
    → ReachAlike others registrations job permitted
alike_back registrations others job permitted alike = record {
  reach = λ from to has none. ((alike.reach from to has none).1, (alike.reach from to has none).0);
  records = λ from to has none reaches.
      sym (alike.records from to has none ((alike.reach from to has none).1 reaches));
}

module _ (registrations others : List Registration) (job : Job) (permitted : List (List ℕ))
    (infos : List PathInfo) (alike : ReachAlike registrations others job permitted)
    (refer : AreAllPermitted permitted infos)
    (count : length infos ≡ length job.outputs.items) where
  requisite_carried : (own path : List ℕ) → IsRequisite registrations job infos own path
      → IsRequisite others job infos own path
  requisite_carried own path is = ⊎_elim inl
      (λ h. inr (
        h.0,
        h.1,
        (alike.reach h.0 path (refer h.1.0 h.0 h.1.4) h.1.5).0 h.2,
      )) is

  used_carried : (check : Check) (n : ℕ) (own path : List ℕ)
      → IsUsed registrations job infos check n own path
      → IsUsed others job infos check n own path
  used_carried AllowedReferences n own path is = is
  used_carried DisallowedReferences n own path is = is
  used_carried AllowedRequisites n own path is = (requisite_carried own path is.0, is.1)
  used_carried DisallowedRequisites n own path is = (requisite_carried own path is.0, is.1)

  -- a path of a closure has the same archive
  nar_carried : (own path : List ℕ) → IsRequisite registrations job infos own path
      → nar_at (with_outputs registrations job infos) path
      ≡ nar_at (with_outputs others job infos) path
  nar_carried own path is = ⊎_elim
      (λ near. nar_of_output registrations others job infos path count near.0)
      (λ h. nar_of_other registrations others job infos path
      (alike.records h.0 path (refer h.1.0 h.0 h.1.4) h.1.5 h.2))
      is

  unmeasured_carried : (own path : List ℕ) → IsUnmeasured registrations job infos own path
      → IsUnmeasured others job infos own path
  unmeasured_carried own path is =
      (requisite_carried own path is.0, sym (nar_carried own path is.0) ∙ is.1)

module _ (registrations others : List Registration) (job : Job) (permitted : List (List ℕ))
    (infos : List PathInfo) (alike : ReachAlike registrations others job permitted)
    (refer : AreAllPermitted permitted infos)
    (count : length infos ≡ length job.outputs.items) where
  back : ReachAlike others registrations job permitted
  back = alike_back registrations others job permitted alike

  past_carried : (own : List ℕ) (limit : ℕ) → IsClosurePast registrations job infos own limit
      → IsClosurePast others job infos own limit
  past_carried own limit (all, are, none, past) = (
    all,
    record {
      rising = are.rising;
      each = λ path. (
        λ has. requisite_carried registrations others job permitted infos alike refer count own path
            ((are.each path).0 has),
        λ is. (are.each path).1
            (requisite_carried others registrations job permitted infos back refer count own path is),
      );
    },
    λ path is. none path
        (unmeasured_carried others registrations job permitted infos back refer count own path is),
    subst (λ size. limit < size)
        (same_sizes (with_outputs registrations job infos) (with_outputs others job infos) all
        (λ path has. nar_carried registrations others job permitted infos alike refer count own path
        ((are.each path).0 has))) past,
  )

  pub fault_carried : (test : Test) (why : Reason)
      → IsTestFault registrations job permitted infos test why
      → IsTestFault others job permitted infos test why
  fault_carried OfAttributes BadAttributes fault = fault
  fault_carried (OfFixed n) (NotAllowed output index) fault = fault
  fault_carried (OfSize n) (PastMaxSize output) fault = fault
  fault_carried (OfClosureSize n) (PastMaxClosureSize output) (e, (own, limit, at, is, past)) =
      (e, (own, limit, at, is, past_carried own limit past))
  fault_carried (OfClosureSize n) (UnknownNar index) (own, limit, at, is, first) = (
    own,
    limit,
    at,
    is,
    first_alike permitted (IsUnmeasured registrations job infos own)
        (IsUnmeasured others job infos own) index
        (λ path. (
          unmeasured_carried registrations others job permitted infos alike refer count own path,
          unmeasured_carried others registrations job permitted infos back refer count own path,
        )) first,
  )
  fault_carried (Of n check) (BadSpecifier output) fault = fault
  fault_carried (Of n check) (NotAllowed output index) (e, (own, list, at, listed, all, first)) = (
    e,
    (
      own,
      list,
      at,
      listed,
      all,
      first_alike permitted
          (λ path. IsUsed registrations job infos check n own path × Forbids job own check list path)
          (λ path. IsUsed others job infos check n own path × Forbids job own check list path) index
          (λ path. (
            λ h. (
              used_carried registrations others job permitted infos alike refer count check n own path
                  h.0,
              h.1,
            ),
            λ h. (
              used_carried others registrations job permitted infos back refer count check n own path
                  h.0,
              h.1,
            ),
          )) first,
    ),
  )
  fault_carried test why fault = absurd fault

refer_permitted : (job : Job) (permitted : List (List ℕ)) (answer : Answer)
    (infos : List PathInfo) → AreRecords job permitted answer infos
    → AreAllPermitted permitted infos
refer_permitted job permitted answer infos records n path (info, at, has) =
    (((records.each n info at).2.found.each path).0 has).0

pub tested_verdict_stays : TestedVerdictStays
tested_verdict_stays registrations others job permitted answer verdict alike told =
    stays verdict told
  where
    there : (infos : List PathInfo) → AreRecords job permitted answer infos → (test : Test)
        (why : Reason) → IsTestFault registrations job permitted infos test why
        → IsTestFault others job permitted infos test why
    there infos records = fault_carried registrations others job permitted infos alike
        (refer_permitted job permitted answer infos records) records.count

    back_again : (infos : List PathInfo) → AreRecords job permitted answer infos → (test : Test)
        (why : Reason) → IsTestFault others job permitted infos test why
        → IsTestFault registrations job permitted infos test why
    back_again infos records = fault_carried others registrations job permitted infos
        (alike_back registrations others job permitted alike)
        (refer_permitted job permitted answer infos records) records.count

    stays : (verdict : Result (List PathInfo) Reason)
        → IsTestedVerdict registrations job permitted answer verdict
        → IsTestedVerdict others job permitted answer verdict
    stays (Ok infos) (is, passed) = (
      is,
      λ test why has fault. passed test why has (back_again infos is.1 test why fault),
    )
    stays (Err why) told = ⊎_elim inl
        (λ h. inr (
          h.0,
          h.1,
          (
            h.2.0,
            record {
              before = h.2.1.before;
              after = h.2.1.after;
              parts = h.2.1.parts;
              others = λ k d low f. h.2.1.others k d low (f.0, back_again h.0 h.1.1 _ f.0 f.1);
              is = (h.2.1.is.0, there h.0 h.1.1 h.2.0 h.2.1.is.0 h.2.1.is.1);
            },
            there h.0 h.1.1 h.2.0 why h.2.2,
          ),
        ))
        told
