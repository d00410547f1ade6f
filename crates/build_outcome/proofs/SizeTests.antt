-- The tests of sizes.
use Rattle.std.proofs.Common.{◌≡◌, ◌∙◌, ◌↔◌, ◌⊎◌, inl, inr, ℕ, ◌<◌, ◌++◌, List, [], ◌∷◌, Some, None, arith, length, refl, sym, ap, subst}
use Rattle.std.specs.Prelude.{All, Contains, Err}
use Rattle.std.specs.List.{slice_get}
use Rattle.std.proofs.lemmas.List.{length-map}
use Rattle.std.proofs.lemmas.Option.{none-some, same_Some}
use Rattle.nix_names.proofs.Lists.{element_at, same_element}
use Rattle.nix_names.proofs.RisingLists.{rising_same}
use Rattle.drv_graph.specs.declared.profile.Profile.TheVariants.{Nix}
use Rattle.valid_table.specs.PathInfos.{NarInfo, PathInfo}
use Rattle.valid_table.specs.declared.entry.Registration.{Registration}
use Rattle.build_outcome.specs.Checks.{AreRequisites, HaveClosures, IsClosureOf, IsClosurePast, IsFirstPath, IsPast, IsTestFault, IsUnmeasured, OfClosureSize, OfSize, closure_limit, nar_at, size_limit, size_of_all, with_outputs}
use Rattle.build_outcome.specs.Verdicts.{outputs_of}
use Rattle.build_outcome.specs.declared.checks.closure.OutputClosure.{OutputClosure}
use Rattle.build_outcome.specs.declared.job.Job.{Job}
use Rattle.build_outcome.specs.declared.job.JobOutput.{JobOutput}
use Rattle.build_outcome.specs.declared.reason.Reason.{Reason}
use Rattle.build_outcome.specs.declared.reason.Reason.TheVariants.{PastMaxClosureSize, PastMaxSize, UnknownNar}
use Rattle.build_outcome.specs.private.Testing.{IsPassed, IsTesting}
use Rattle.build_outcome.proofs.RisingIndices.{first_alike}
use Rattle.build_outcome.proofs.Sizes.{known, same_nars, same_sizes}
use Rattle.build_outcome.proofs.TestLists.{all_none, all_one}

-- an output stands at each number below the count
pub output_at : (job : Job) (n : ℕ) → n < length job.outputs.items
    → (own : List ℕ) × (slice_get (outputs_of job) n ≡ Some own)
output_at job n low =
    element_at (outputs_of job) n
    (omega (arith, low, length-map job.outputs.items (λ (o : JobOutput). o.path)))

module _ (job : Job) (permitted : List (List ℕ)) (infos : List PathInfo)
    (closures : List OutputClosure) where
  -- ---- the size of an output

  size_fault : (registrations : List Registration) (n : ℕ) (why : Reason)
      → IsTestFault registrations job permitted infos (OfSize n) why
      → (limit : ℕ) × (size_limit job n ≡ Some limit) × IsPast infos n limit
  size_fault registrations n (PastMaxSize output) fault = fault.1
  size_fault registrations n why fault = absurd fault

  size_passed : (n : ℕ)
      → ((limit : ℕ) → size_limit job n ≡ Some limit → IsPast infos n limit → ⊥)
      → All (IsPassed job permitted infos closures) (OfSize n ∷ [])
  size_passed n none = all_one (IsPassed job permitted infos closures) (OfSize n)
      (λ registrations why have fault.
      let is = size_fault registrations n why fault in none is.0 is.1 is.2)

  pub no_size_limit : (n : ℕ) → size_limit job n ≡ None
      → All (IsPassed job permitted infos closures) (OfSize n ∷ [])
  no_size_limit n none =
      size_passed n (λ limit is past. none-some limit (sym none ∙ is))

  pub no_nar : (n : ℕ) (info : PathInfo) → slice_get infos n ≡ Some info → info.nar ≡ None
      → All (IsPassed job permitted infos closures) (OfSize n ∷ [])
  no_nar n info at none =
      size_passed n (λ limit is (other, at', (nar, has, past)).
      none-some nar (sym none ∙ ap (λ (i : PathInfo). i.nar) (same_element infos n info other at at')
      ∙ has))

  pub within_limit : (n limit : ℕ) (info : PathInfo) (nar : NarInfo)
      → size_limit job n ≡ Some limit → slice_get infos n ≡ Some info → info.nar ≡ Some nar
      → (limit < nar.size → ⊥) → All (IsPassed job permitted infos closures) (OfSize n ∷ [])
  within_limit n limit info nar is at has within =
      size_passed n (λ limit' is' (other, at', (nar', has', past)).
      let limits : limit' ≡ limit = same_Some limit' limit (sym is' ∙ is) in
      let nars : nar' ≡ nar = same_Some nar' nar
      (sym has' ∙ ap (λ (i : PathInfo). i.nar) (same_element infos n other info at' at) ∙ has) in
      within (subst (λ l. l < nar.size) limits
      (subst (λ (x : NarInfo). limit' < x.size) nars past)))

  pub past_limit : (n limit : ℕ) (info : PathInfo) (nar : NarInfo)
      → size_limit job n ≡ Some limit → slice_get infos n ≡ Some info → info.nar ≡ Some nar
      → limit < nar.size → IsTesting job permitted infos closures (OfSize n ∷ []) (Err (PastMaxSize n))
  past_limit n limit info nar is at has past = inr (
    OfSize n,
    record {
      before = [];
      after = [];
      parts = refl;
      others = all_none (IsPassed job permitted infos closures);
      is = λ registrations have. (refl, (limit, is, (info, at, (nar, has, past))));
    },
  )

  -- ---- the size of a closure

  -- why a closure doesn't pass: some path isn't measured, or it is past its limit
  record ClosureFault (registrations : List Registration) (n : ℕ) : Type 0 where
    pub own : List ℕ
    pub limit : ℕ
    pub at : slice_get (outputs_of job) n ≡ Some own
    pub is : closure_limit job n ≡ Some limit
    pub told : ((path : List ℕ) × IsUnmeasured registrations job infos own path)
        ⊎ IsClosurePast registrations job infos own limit

  closure_fault : (registrations : List Registration) (n : ℕ) (why : Reason)
      → IsTestFault registrations job permitted infos (OfClosureSize n) why
      → ClosureFault registrations n
  closure_fault registrations n (PastMaxClosureSize output) (same, (own, limit, at, is, past)) =
      record { own = own; limit = limit; at = at; is = is; told = inr past }
  closure_fault registrations n (UnknownNar index) (own, limit, at, is, first) =
      record { own = own; limit = limit; at = at; is = is; told = inl (first.is.0, first.is.2) }
  closure_fault registrations n why fault = absurd fault

  pub no_closure_limit : (n : ℕ) → closure_limit job n ≡ None
      → All (IsPassed job permitted infos closures) (OfClosureSize n ∷ [])
  no_closure_limit n none = all_one (IsPassed job permitted infos closures) (OfClosureSize n)
      (λ registrations why have fault.
      let f = closure_fault registrations n why fault in
      none-some f.limit (sym none ∙ f.is))

  module _ (n limit : ℕ) (own : List ℕ) (closure : OutputClosure) (nix : job.profile ≡ Nix)
      (is : closure_limit job n ≡ Some limit) (at : slice_get (outputs_of job) n ≡ Some own)
      (given : slice_get closures n ≡ Some closure)
      (count : length infos ≡ length job.outputs.items) where
    -- the closure is what was given
    is_closure : (registrations : List Registration)
        → HaveClosures registrations job infos closures
        → IsClosureOf registrations job infos n own closure
    is_closure registrations have =
        let h = have n own at (nix, inr (inr (λ none. none-some limit (sym none ∙ is)))) in
        subst (λ (c : OutputClosure). IsClosureOf registrations job infos n own c)
        (same_Some h.0 closure (sym h.1 ∙ given)) h.2

    nars_alike : (registrations : List Registration)
        → HaveClosures registrations job infos closures → (path : List ℕ)
        → Contains closure.paths.items path
        → nar_at (known job infos ++ closure.records.items) path
        ≡ nar_at (with_outputs registrations job infos) path
    nars_alike registrations have path has =
        same_nars registrations job infos closure.paths.items closure.records.items count
        ((is_closure registrations have).records (λ none. none-some limit (sym none ∙ is))) path has

    -- a path of the closure isn't measured, by the closure's records and by what is valid
    unmeasured_alike : (registrations : List Registration)
        → HaveClosures registrations job infos closures → (path : List ℕ)
        → (Contains closure.paths.items path
        × (nar_at (known job infos ++ closure.records.items) path ≡ None))
        ↔ IsUnmeasured registrations job infos own path
    unmeasured_alike registrations have path = (
      λ h. (
        ((is_closure registrations have).paths.each path).0 h.0,
        sym (nars_alike registrations have path h.0) ∙ h.1,
      ),
      λ h.
          let has = ((is_closure registrations have).paths.each path).1 h.0 in
          (has, nars_alike registrations have path has ∙ h.1),
    )

    sizes_alike : (registrations : List Registration)
        → HaveClosures registrations job infos closures
        → size_of_all (known job infos ++ closure.records.items) closure.paths.items
        ≡ size_of_all (with_outputs registrations job infos) closure.paths.items
    sizes_alike registrations have =
        same_sizes (known job infos ++ closure.records.items) (with_outputs registrations job infos)
        closure.paths.items (nars_alike registrations have)

    pub closure_within : ((path : List ℕ) → Contains closure.paths.items path
        → nar_at (known job infos ++ closure.records.items) path ≡ None → ⊥)
        → (limit < size_of_all (known job infos ++ closure.records.items) closure.paths.items → ⊥)
        → All (IsPassed job permitted infos closures) (OfClosureSize n ∷ [])
    closure_within measured within = all_one (IsPassed job permitted infos closures)
        (OfClosureSize n) passed
      where
        passed : IsPassed job permitted infos closures (OfClosureSize n)
        passed registrations why have fault = by f.told
          where
            f : ClosureFault registrations n
            f = closure_fault registrations n why fault

            own_same : f.own ≡ own
            own_same = same_element (outputs_of job) n f.own own f.at at

            limit_same : f.limit ≡ limit
            limit_same = same_Some f.limit limit (sym f.is ∙ is)

            by : ((path : List ℕ) × IsUnmeasured registrations job infos f.own path)
                ⊎ IsClosurePast registrations job infos f.own f.limit → ⊥
            by (inl (path, unmeasured)) =
                let h = (unmeasured_alike registrations have path).1
                (subst (λ (o : List ℕ). IsUnmeasured registrations job infos o path) own_same
                unmeasured) in
                measured path h.0 h.1
            by (inr (all, are, none, past)) =
                let ours = (is_closure registrations have).paths in
                let theirs = subst (λ (o : List ℕ). AreRequisites registrations job infos o all)
                own_same are in
                let same : all ≡ closure.paths.items =
                rising_same all closure.paths.items theirs.rising ours.rising
                (λ path. (
                  λ has. (ours.each path).1 ((theirs.each path).0 has),
                  λ has. (theirs.each path).1 ((ours.each path).0 has),
                )) in
                within (subst (λ size. limit < size) (sym (sizes_alike registrations have))
                (subst (λ (l : List (List ℕ)).
                limit < size_of_all (with_outputs registrations job infos) l) same
                (subst (λ l. l < size_of_all (with_outputs registrations job infos) all) limit_same
                past)))

    pub closure_unmeasured : (index : ℕ)
        → IsFirstPath permitted (λ path. Contains closure.paths.items path
        × (nar_at (known job infos ++ closure.records.items) path ≡ None)) index
        → IsTesting job permitted infos closures (OfClosureSize n ∷ []) (Err (UnknownNar index))
    closure_unmeasured index first = inr (
      OfClosureSize n,
      record {
        before = [];
        after = [];
        parts = refl;
        others = all_none (IsPassed job permitted infos closures);
        is = λ registrations have. (
          own,
          limit,
          at,
          is,
          first_alike permitted
              (λ path. Contains closure.paths.items path
              × (nar_at (known job infos ++ closure.records.items) path ≡ None))
              (IsUnmeasured registrations job infos own) index
              (unmeasured_alike registrations have) first,
        );
      },
    )

    pub closure_past : ((path : List ℕ) → Contains closure.paths.items path
        → nar_at (known job infos ++ closure.records.items) path ≡ None → ⊥)
        → limit < size_of_all (known job infos ++ closure.records.items) closure.paths.items
        → IsTesting job permitted infos closures (OfClosureSize n ∷ [])
        (Err (PastMaxClosureSize n))
    closure_past measured past = inr (
      OfClosureSize n,
      record {
        before = [];
        after = [];
        parts = refl;
        others = all_none (IsPassed job permitted infos closures);
        is = λ registrations have. (
          refl,
          (
            own,
            limit,
            at,
            is,
            (
              closure.paths.items,
              (is_closure registrations have).paths,
              λ path unmeasured.
                  let h = (unmeasured_alike registrations have path).1 unmeasured in
                  measured path h.0 h.1,
              subst (λ size. limit < size) (sizes_alike registrations have) past,
            ),
          ),
        );
      },
    )

  -- where no closure is given nothing is told
  pub no_closure : (n limit : ℕ) (own : List ℕ) → job.profile ≡ Nix
      → closure_limit job n ≡ Some limit → slice_get (outputs_of job) n ≡ Some own
      → slice_get closures n ≡ None
      → All (IsPassed job permitted infos closures) (OfClosureSize n ∷ [])
  no_closure n limit own nix is at none = all_one (IsPassed job permitted infos closures)
      (OfClosureSize n)
      (λ registrations why have fault.
      let h = have n own at (nix, inr (inr (λ no. none-some limit (sym no ∙ is)))) in
      none-some h.0 (sym none ∙ h.1))
