-- The closures of a job's outputs, by lists of entries that go on from one list.
use Rattle.std.proofs.Common.{◌≡◌, ◌≢◌, ◌∙◌, ◌↔◌, ◌⊎◌, ◌<◌, inl, inr, ℕ, List, [], ◌∷◌, ◌++◌, All, length, map, Result, Ok, Err, None, Some, ap, refl, subst, sym, ⊎_elim, arith, rules}
use Rattle.std.specs.Prelude.{Contains, codes, slice_get}
use Rattle.std.proofs.lemmas.List.{length-map}
use Rattle.std.proofs.lemmas.List.Elements.{All-contains}
use Rattle.std.proofs.lemmas.Option.{none-some, slice_get_within}
use mathlib.Core.List.{IsPrefix}
use Rattle.nix_names.specs.Rising.{IsRising}
use Rattle.nix_names.proofs.Lists.{All-from_contains, Contains-from_get, Contains-nothing, element_at, get_from_contains, get_push_cases, same_element}
use Rattle.valid_table.specs.Closure.{IsClosure, Reaches}
use Rattle.valid_table.specs.Entries.{paths_registered, registered}
use Rattle.valid_table.specs.PathInfos.{PathInfo}
use Rattle.valid_table.specs.Unions.{IsUnion}
use Rattle.valid_table.specs.Valid.{IsValid, Registers}
use Rattle.valid_table.specs.declared.entry.Entry.{Entry}
use Rattle.valid_table.specs.declared.entry.Registration.{Registration}
use Rattle.valid_table.proofs.ClosureLaws.{leads_after}
use Rattle.valid_table.proofs.JournalLists.{registered-append}
use Rattle.valid_view.specs.Answers.{AreRecords}
use Rattle.valid_view.specs.Shown.{IsShowable}
use Rattle.sched_core.specs.Books.{ArePermittedPaths, AreSeedsValid, MayAllRefer}
use Rattle.run_states.specs.Legal.{MayRefer}
use Rattle.build_outcome.specs.Checks.{AreOuterRecords, ArePassed, AreRequisites, AreRootsOf, CanReadChecks, HaveClosures, IsClosureOf, IsFirstTestFault, IsPermittedClosure, IsRequisite, NeedsClosure, OfAttributes, RefersOutside, closure_limit, record_at, tests_under}
use Rattle.build_outcome.specs.Attributes.{json_of, value_under}
use Rattle.build_outcome.specs.Verdicts.{IsExamining, IsVerdict, outputs_of}
use Rattle.build_outcome.specs.declared.checks.closure.OutputClosure.{OutputClosure}
use Rattle.build_outcome.specs.declared.job.Answer.{Answer}
use Rattle.build_outcome.specs.declared.job.Job.{Job}
use Rattle.build_outcome.specs.declared.job.JobOutput.{JobOutput}
use Rattle.build_outcome.specs.declared.reason.Reason.{Reason}
use Rattle.build_outcome.specs.declared.reason.Reason.TheVariants.{BadAttributes, OutOfMemory}
use Rattle.build_outcome.proofs.TestLists.{all_none}
use Rattle.drv_graph.specs.declared.profile.Profile.{Profile}
use Rattle.drv_graph.specs.declared.profile.Profile.TheVariants.{Nix, Plain}
use Rattle.sched_core.proofs.ExaminedRecords.{verdicts_may_refer}
use Rattle.store_run.specs.private.JobVerdicts.{AreClosures, IsClosureAt, IsFoundBy, IsLeftOut, IsTaken}
use Rattle.store_run.specs.declared.job_verdict.JobVerdict.TheVariants.{Examined}
use Rattle.store_run.proofs.Carried.{leads_on, referred_valid}
use Rattle.store_run.proofs.KnownRecords.{found_after, record_known}
use Rattle.store_run.proofs.Permits.{permitted_after, reach_after, seeds_stay}

-- ---- what outputs refer to

refer_more : (first more : List Registration) (seeds outputs : List (List ℕ)) (path : List ℕ)
    → MayRefer first seeds outputs path → MayRefer (first ++ more) seeds outputs path
refer_more first more seeds outputs path (inl (seed, has, (steps, leads))) =
    inl (seed, has, (steps, leads_after first more seed path steps leads))
refer_more first more seeds outputs path (inr own) = inr own

-- what may be referred to may be so in each list that goes on
pub refers_after_all : (before after : List Entry) (job : Job) (infos : List PathInfo)
    → IsPrefix before after → MayAllRefer before job infos → MayAllRefer after job infos
refers_after_all before after job infos goes may info path has refers =
    subst (λ (entries : List Entry). MayRefer (registered entries) job.seeds.items (outputs_of job)
    path) goes.1
    (subst (λ (rs : List Registration). MayRefer rs job.seeds.items (outputs_of job) path)
    (sym (registered-append before goes.0))
    (refer_more (registered before) (registered goes.0) job.seeds.items (outputs_of job) path
    (may info path has refers)))

module _ (entries : List Entry) (job : Job) (infos : List PathInfo)
    (may : MayAllRefer entries job infos) where
  outside_refers : (own path : List ℕ) → RefersOutside job infos own path
      → MayRefer (registered entries) job.seeds.items (outputs_of job) path
  outside_refers own path (n, last, leads, at, (info, is, has), foreign) =
      may info path (Contains-from_get infos n info is) has

  -- what an output refers to outside the outputs is valid
  outside_valid : (own path : List ℕ) → RefersOutside job infos own path
      → IsValid (registered entries) path
  outside_valid own path outside =
      referred_valid (registered entries) job.seeds.items (outputs_of job) path
      (outside_refers own path outside) outside.5

  pub roots_valid : (own : List ℕ) (inside outside : List (List ℕ))
      → AreRootsOf job infos own inside outside → All (IsValid (registered entries)) outside
  roots_valid own inside outside roots =
      All-from_contains (IsValid (registered entries)) outside
      (λ path has. outside_valid own path ((roots.outside_each path).0 has))

-- an output stands at each number below the count
pub own_at : (job : Job) (n : ℕ) → n < length job.outputs.items
    → (own : List ℕ) × (slice_get (outputs_of job) n ≡ Some own)
own_at job n low =
    element_at (outputs_of job) n
    (omega (arith, low, length-map job.outputs.items (λ (o : JobOutput). o.path)))

-- ---- the closure of an output

-- it is all that its roots outside lead to, with those inside
pub roots_close : (entries : List Entry) (job : Job) (infos : List PathInfo)
    (own : List ℕ) (inside outside reached all : List (List ℕ))
    → AreRootsOf job infos own inside outside
    → IsClosure (registered entries) outside reached → IsUnion reached inside all
    → AreRequisites (registered entries) job infos own all
roots_close entries job infos own inside outside reached all roots closure union = record {
  rising = union.rising;
  each = λ path. (there path, back path);
}
  where
    there : (path : List ℕ) → Contains all path → IsRequisite
        (registered entries) job infos own path
    there path has =
        ⊎_elim
        (λ far.
        let from = (closure.each path).0 far in
        inr (from.0, (roots.outside_each from.0).0 from.1, from.2))
        (λ near. inl ((roots.inside_each path).0 near))
        ((union.each path).0 has)

    back : (path : List ℕ) → IsRequisite (registered entries) job infos own path → Contains all path
    back path (inl near) = (union.each path).1 (inr ((roots.inside_each path).1 near))
    back path (inr (from, refers, reaches)) =
        (union.each path).1
        (inl ((closure.each path).1 (from, (roots.outside_each from).1 refers, reaches)))

-- it is taken without records where its size isn't asked for
pub taken_alone : (entries : List Entry) (job : Job) (infos : List PathInfo) (n : ℕ)
    (own : List ℕ) (closure : OutputClosure) → closure_limit job n ≡ None
    → slice_get (outputs_of job) n ≡ Some own
    → AreRequisites (registered entries) job infos own closure.paths.items
    → closure.records.items ≡ [] → IsClosureAt entries job infos n closure
taken_alone entries job infos n own closure none at are no_records = inr (
  own,
  at,
  record {
    closure_of = record { paths = are; records = λ some. absurd (some none) };
    rising = subst (λ (rs : List Registration). IsRising (paths_registered rs)) (sym no_records) tt;
  },
)

-- or with the records of what its roots outside lead to
pub taken_whole : (entries : List Entry) (job : Job) (infos : List PathInfo) (n : ℕ)
    (own : List ℕ) (inside outside reached : List (List ℕ)) (closure : OutputClosure)
    → IsShowable entries → slice_get (outputs_of job) n ≡ Some own
    → AreRootsOf job infos own inside outside
    → AreRecords (registered entries) outside closure.records.items
    → reached ≡ paths_registered closure.records.items
    → IsUnion reached inside closure.paths.items → IsClosureAt entries job infos n closure
taken_whole entries job infos n own inside outside reached closure showable at roots rows is union =
    inr (
      own,
      at,
      record {
        closure_of = record {
          paths = roots_close entries job infos own inside outside reached closure.paths.items
              roots (subst (IsClosure (registered entries) outside) (sym is) rows.closure) union;
          records = λ some. record {
            rising = rows.closure.rising;
            known = All-from_contains
                (λ (r : Registration). record_at (registered entries) r.path ≡ Some r)
                closure.records.items
                (λ r has. record_known (registered entries) r.path r.info showable.once
                (All-contains (λ (x : Registration). Registers (registered entries) x.path x.info)
                closure.records.items r rows.known has));
            each = outer;
          };
        };
        rising = rows.closure.rising;
      },
    )
  where
    outer : (path : List ℕ) → Contains closure.paths.items path
        → (Contains (outputs_of job) path → ⊥)
        → Contains (paths_registered closure.records.items) path
    outer path has foreign = ⊎_elim
        (λ far. subst (λ (paths : List (List ℕ)). Contains paths path) is far)
        (λ near. absurd (foreign ((roots.inside_each path).0 near).0))
        ((union.each path).0 has)

-- it stays the same in each list that goes on
module _ (before after : List Entry) (job : Job) (infos : List PathInfo)
    (goes : IsPrefix before after) (showable : IsShowable after)
    (may : MayAllRefer before job infos) where
  reach_outside : (own from to : List ℕ) → RefersOutside job infos own from
      → Reaches (registered before) from to ↔ Reaches (registered after) from to
  reach_outside own from to outside =
      reach_after before after from to goes showable
      (outside_valid before job infos may own from outside)

  requisite_there : (own path : List ℕ) → IsRequisite (registered before) job infos own path
      → IsRequisite (registered after) job infos own path
  requisite_there own path (inl near) = inl near
  requisite_there own path (inr (from, refers, reaches)) =
      inr (from, refers, (reach_outside own from path refers).0 reaches)

  requisite_back : (own path : List ℕ) → IsRequisite (registered after) job infos own path
      → IsRequisite (registered before) job infos own path
  requisite_back own path (inl near) = inl near
  requisite_back own path (inr (from, refers, reaches)) =
      inr (from, refers, (reach_outside own from path refers).1 reaches)

  records_stay : (paths : List (List ℕ)) (records : List Registration)
      → AreOuterRecords (registered before) job paths records
      → AreOuterRecords (registered after) job paths records
  records_stay paths records are = record {
    rising = are.rising;
    known = All-from_contains
        (λ (r : Registration). record_at (registered after) r.path ≡ Some r) records
        (λ r has. found_after before after r.path r goes
        (All-contains (λ (x : Registration). record_at (registered before) x.path ≡ Some x)
        records r are.known has));
    each = are.each;
  }

  closure_stays : (n : ℕ) (closure : OutputClosure) → IsClosureAt before job infos n closure
      → IsClosureAt after job infos n closure
  closure_stays n closure (inl out) = inl out
  closure_stays n closure (inr (own, at, taken)) = inr (
    own,
    at,
    record {
      closure_of = record {
        paths = record {
          rising = taken.closure_of.paths.rising;
          each = λ path. (
            λ has. requisite_there own path ((taken.closure_of.paths.each path).0 has),
            λ is. (taken.closure_of.paths.each path).1 (requisite_back own path is),
          );
        };
        records = λ some. records_stay closure.paths.items closure.records.items
            (taken.closure_of.records some);
      };
      rising = taken.rising;
    },
  )

  pub closures_stay : (closures : List OutputClosure) → AreClosures before job infos closures
      → AreClosures after job infos closures
  closures_stay closures are n closure at = closure_stays n closure (are n closure at)

-- ---- the closures of all outputs

pub no_closures : (entries : List Entry) (job : Job) (infos : List PathInfo)
    → AreClosures entries job infos []
no_closures entries job infos n closure at = absurd (none-some closure at)

pub closures_more : (entries : List Entry) (job : Job) (infos : List PathInfo)
    (closures more : List OutputClosure) (count : ℕ) (closure : OutputClosure)
    → AreClosures entries job infos closures → length closures ≡ count
    → IsClosureAt entries job infos count closure → more ≡ closures ++ closure ∷ []
    → AreClosures entries job infos more
closures_more entries job infos closures more count closure are long is grown =
    subst (AreClosures entries job infos) (sym grown)
    (λ n found at. ⊎_elim
    (λ earlier. are n found earlier)
    (λ last. subst (λ k. IsClosureAt entries job infos k found) (sym (last.0 ∙ long))
    (subst (IsClosureAt entries job infos count) last.1 is))
    (get_push_cases closures closure n found at))

pub have_closures : (entries : List Entry) (job : Job) (infos : List PathInfo)
    (closures : List OutputClosure) → AreClosures entries job infos closures
    → length closures ≡ length job.outputs.items
    → HaveClosures (registered entries) job infos closures
have_closures entries job infos closures are count n own at needs =
    let low : n < length job.outputs.items =
    omega (
      arith,
      slice_get_within (outputs_of job) n own at,
      length-map job.outputs.items (λ (o : JobOutput). o.path),
    ) in
    let found = element_at closures n (omega (arith, low, count)) in
    (found.0, found.1, by found.0 (are n found.0 found.1))
  where
    by : (closure : OutputClosure) → IsClosureAt entries job infos n closure
        → IsClosureOf (registered entries) job infos n own closure
    by closure (inl out) = absurd (out.unasked needs)
    by closure (inr (other, at', taken)) =
        subst (λ (path : List ℕ). IsClosureOf (registered entries) job infos n path closure)
        (same_element (outputs_of job) n other own at' at) taken.closure_of

-- each of their paths is permitted
module _ (entries : List Entry) (job : Job) (permitted : List (List ℕ)) (infos : List PathInfo)
    (are : ArePermittedPaths entries job permitted) (may : MayAllRefer entries job infos) where
  requisite_permitted : (own path : List ℕ) → IsRequisite (registered entries) job infos own path
      → Contains permitted path
  requisite_permitted own path (inl near) = (are.each path).1 (inr near.0)
  requisite_permitted own path (inr (from, refers, reaches)) =
      by (outside_refers entries job infos may own from refers)
    where
      by : MayRefer (registered entries) job.seeds.items (outputs_of job) from
          → Contains permitted path
      by (inl (seed, has, (steps, leads))) =
          (are.each path).1 (inl (
            seed,
            has,
            (
              steps ++ reaches.0,
              leads_on (registered entries) seed from path steps reaches.0 leads reaches.1,
            ),
          ))
      by (inr inner) = absurd (refers.5 inner)

  closure_permitted : (n : ℕ) (closure : OutputClosure) → IsClosureAt entries job infos n closure
      → IsPermittedClosure permitted closure
  closure_permitted n closure (inl out) = record {
    rising = subst IsRising (sym out.paths) tt;
    within = subst (All (Contains permitted)) (sym out.paths)
        (All-from_contains (Contains permitted) [] (λ path has. absurd
        (Contains-nothing path has)));
    records = subst (λ (rs : List Registration). IsRising (paths_registered rs))
        (sym out.records) tt;
  }
  closure_permitted n closure (inr (own, at, taken)) = record {
    rising = taken.closure_of.paths.rising;
    within = All-from_contains (Contains permitted) closure.paths.items
        (λ path has. requisite_permitted own path ((taken.closure_of.paths.each path).0 has));
    records = taken.rising;
  }

  pub closures_permitted : (closures : List OutputClosure) → AreClosures entries job infos closures
      → All (IsPermittedClosure permitted) closures
  closures_permitted closures of =
      All-from_contains (IsPermittedClosure permitted) closures
      (λ closure has.
      let at = get_from_contains closures closure has in
      closure_permitted at.0 closure (of at.0 closure at.1))

-- ---- what is found

-- each reference of the records of a verdict is permitted
pub references_permitted : (job : Job) (permitted : List (List ℕ)) (answer : Answer)
    (infos : List PathInfo) → IsVerdict job permitted answer (Ok infos)
    → All (λ (info : PathInfo). All (Contains permitted) info.references) infos
references_permitted job permitted answer infos is =
    All-from_contains (λ (info : PathInfo). All (Contains permitted) info.references) infos
    (λ info has.
    let at = get_from_contains infos info has in
    let record_is = is.1.each at.0 info at.1 in
    All-from_contains (Contains permitted) info.references
    (λ path refers. ((record_is.2.found.each path).0 refers).0))

-- an answer that was examined with records has these as its verdict
pub examined_well : (job : Job) (permitted : List (List ℕ)) (answer : Answer)
    (infos : List PathInfo) → IsExamining job permitted answer (Ok infos)
    → IsVerdict job permitted answer (Ok infos)
examined_well job permitted answer infos (inl refused) = let no = refused.0 in absurd cc
examined_well job permitted answer infos (inr is) = is

module _ (seen : List Entry) (job : Job) (permitted : List (List ℕ)) (showable : IsShowable seen)
    (seeds : AreSeedsValid seen job) (are : ArePermittedPaths seen job permitted)
    (answer : Answer) where
  pub found_badly : (reason : Reason) → IsExamining job permitted answer (Err reason)
      → IsFoundBy seen job (Ok answer) (Examined (Err reason))
  found_badly reason (inl refused) = inl refused.0
  found_badly reason (inr is) =
      inr (record { showable = showable; seeds = seeds; is = (permitted, are, inl is) })

  pub found_passed : (infos : List PathInfo) → IsVerdict job permitted answer (Ok infos)
      → ArePassed (registered seen) job permitted infos
      → IsFoundBy seen job (Ok answer) (Examined (Ok infos))
  found_passed infos is passed =
      inr (record { showable = showable; seeds = seeds; is = (permitted, are, (is, passed)) })

  pub found_failed : (infos : List PathInfo) (reason : Reason)
      → IsVerdict job permitted answer (Ok infos)
      → (reason ≡ OutOfMemory) ⊎ IsFirstTestFault (registered seen) job permitted infos reason
      → IsFoundBy seen job (Ok answer) (Examined (Err reason))
  found_failed infos reason is (inl refused) = inl (ap Err refused)
  found_failed infos reason is (inr fault) =
      inr (record {
        showable = showable;
        seeds = seeds;
        is = (permitted, are, inr (infos, is, fault));
      })

-- the checks of a job can't be read, which is the first test
unread_first : (registrations : List Registration) (job : Job) (permitted : List (List ℕ))
    (infos : List PathInfo) → (CanReadChecks job → ⊥)
    → IsFirstTestFault registrations job permitted infos BadAttributes
unread_first registrations job permitted infos unread = by job.profile refl
  where
    none_plain : job.profile ≡ Plain → json_of job ≡ None
    none_plain plain = ap (λ (p : Profile). value_under p (codes "__json") job) plain

    by : (profile : Profile) → job.profile ≡ profile
        → IsFirstTestFault registrations job permitted infos BadAttributes
    by Plain is =
        absurd (unread (λ text has. absurd (none-some text (sym (none_plain is) ∙ has))))
    by Nix is = (
      OfAttributes,
      record {
        before = [];
        after = _;
        parts = ap (λ (p : Profile). tests_under p (length job.outputs.items)) is;
        others = all_none _;
        is = (BadAttributes, unread);
      },
      unread,
    )

pub found_unread : (seen : List Entry) (job : Job) (permitted : List (List ℕ))
    → IsShowable seen → AreSeedsValid seen job → ArePermittedPaths seen job permitted
    → (answer : Answer) (infos : List PathInfo) (reason : Reason)
    → IsVerdict job permitted answer (Ok infos)
    → (reason ≡ OutOfMemory) ⊎ ((reason ≡ BadAttributes) × (CanReadChecks job → ⊥))
    → IsFoundBy seen job (Ok answer) (Examined (Err reason))
found_unread seen job permitted showable seeds are answer infos reason is why =
    found_failed seen job permitted showable seeds are answer infos reason is
    (⊎_elim inl
    (λ h. inr (subst (IsFirstTestFault (registered seen) job permitted infos) (sym h.0)
    (unread_first (registered seen) job permitted infos h.1))) why)

-- what is found by the tests of an answer's records, by a list that goes on from the one by which
-- it was examined
module _ (before after : List Entry) (job : Job) (permitted : List (List ℕ))
    (infos : List PathInfo) (given : List OutputClosure) (goes : IsPrefix before after)
    (showable : IsShowable after) (seeds : AreSeedsValid before job)
    (are : ArePermittedPaths before job permitted) (closures : AreClosures after job infos given)
    (count : length given ≡ length job.outputs.items) where
  are_after : ArePermittedPaths after job permitted
  are_after = permitted_after before after job goes showable seeds permitted are

  pub tested_lists : (answer : Answer) → IsVerdict job permitted answer (Ok infos)
      → All (IsPermittedClosure permitted) given
  tested_lists answer is =
      closures_permitted after job permitted infos are_after
      (verdicts_may_refer after job permitted answer infos are_after is) given closures

  pub tested_well : ((registrations : List Registration)
      → HaveClosures registrations job infos given → ArePassed registrations job permitted infos)
      → (answer : Answer) → IsVerdict job permitted answer (Ok infos)
      → IsFoundBy after job (Ok answer) (Examined (Ok infos))
  tested_well passed answer is =
      found_passed after job permitted showable (seeds_stay before after job goes seeds) are_after
      answer infos is
      (passed (registered after) (have_closures after job infos given closures count))

  pub tested_badly : (reason : Reason)
      → (reason ≡ OutOfMemory) ⊎ ((registrations : List Registration)
      → HaveClosures registrations job infos given
      → IsFirstTestFault registrations job permitted infos reason)
      → (answer : Answer) → IsVerdict job permitted answer (Ok infos)
      → IsFoundBy after job (Ok answer) (Examined (Err reason))
  tested_badly reason why answer is =
      found_failed after job permitted showable (seeds_stay before after job goes seeds) are_after
      answer infos reason is
      (⊎_elim inl
      (λ fault. inr (fault (registered after)
      (have_closures after job infos given closures count))) why)
