-- What is permitted to a job by lists of entries that go on from one list.
use Rattle.std.proofs.Common.{◌≡◌, ◌↔◌, ◌∙◌, inl, inr, ℕ, List, [], ◌∷◌, ◌++◌, All, None, Result, Ok, Err, refl, subst, sym, rules}
use Rattle.std.specs.Prelude.{Contains, OnOk, slice_get}
use Rattle.std.proofs.lemmas.List.Elements.{All-contains}
use mathlib.Core.List.{IsPrefix}
use Rattle.nix_names.proofs.Lists.{Contains-nothing}
use Rattle.valid_table.specs.Closure.{IsClosure, Reaches}
use Rattle.valid_table.specs.Entries.{registered}
use Rattle.valid_table.specs.Unions.{IsUnion}
use Rattle.valid_table.specs.Valid.{IsJournal, IsOnce, IsValid}
use Rattle.valid_table.specs.declared.entry.Entry.{Entry}
use Rattle.valid_table.specs.declared.entry.Registration.{Registration}
use Rattle.valid_table.proofs.JournalLists.{closed_references_valid, registered-append, valid_more}
use Rattle.valid_view.specs.Answers.{Knowing}
use Rattle.valid_view.specs.Shown.{IsShowable}
use Rattle.valid_view.proofs.Showable.{showable_prefix}
use Rattle.sched_core.specs.Books.{ArePermittedPaths, AreSeedsValid}
use Rattle.run_states.specs.Legal.{MayRefer}
use Rattle.build_outcome.specs.Checks.{record_at}
use Rattle.build_outcome.specs.Verdicts.{outputs_of}
use Rattle.build_outcome.specs.declared.job.Job.{Job}
use Rattle.sched_core.proofs.Permitting.{are_permitted}
use Rattle.run_states.proofs.Dones.{reached_is_valid}
use Rattle.run_states.proofs.Seeds.{permitted_stays}
use Rattle.store_run.specs.private.JobVerdicts.{AreKnownValid, StaysPermitted}
use Rattle.store_run.proofs.Carried.{reach_more, referred_valid}
use Rattle.store_run.proofs.KnownRecords.{record_after}

-- what is valid stays so in each list that goes on
paths_stay : (before after : List Entry) (paths : List (List ℕ)) → IsPrefix before after
    → All (IsValid (registered before)) paths → All (IsValid (registered after)) paths
paths_stay before after paths goes valid =
    subst (λ (entries : List Entry). All (IsValid (registered entries)) paths) goes.1
    (subst (λ (registrations : List Registration). All (IsValid registrations) paths)
    (sym (registered-append before goes.0))
    (valid_more (registered before) (registered goes.0) paths valid))

pub seeds_stay : (before after : List Entry) (job : Job) → IsPrefix before after
    → AreSeedsValid before job → AreSeedsValid after job
seeds_stay before after job goes valid = paths_stay before after job.seeds.items goes valid

-- what a reader knows is valid is so by the list that it sees then
pub known_valid : (known : Knowing) (now : List Entry) (paths : List (List ℕ))
    → AreKnownValid known paths → IsPrefix known.told now → IsPrefix known.seen now
    → All (IsValid (registered now)) paths
known_valid known now paths (inl valid) told seen = paths_stay known.told now paths told valid
known_valid known now paths (inr valid) told seen = paths_stay known.seen now paths seen valid

-- a closure of the seeds beside the job's own outputs
pub closure_and_outputs : (entries : List Entry) (job : Job) (reached all : List (List ℕ))
    → IsClosure (registered entries) job.seeds.items reached → IsUnion reached (outputs_of job) all
    → ArePermittedPaths entries job all
closure_and_outputs entries job reached all closure union = search (rules, are_permitted)

-- a job's outputs may refer to the same in a list and after it, where the seeds are valid
same_after : (before after : List Entry) (job : Job) (path : List ℕ) → IsPrefix before after
    → IsShowable after → AreSeedsValid before job
    → MayRefer (registered before) job.seeds.items (outputs_of job) path
    ↔ MayRefer (registered after) job.seeds.items (outputs_of job) path
same_after before after job path goes showable valid =
    let whole : IsShowable (before ++ goes.0) = subst IsShowable (sym goes.1) showable in
    let both = permitted_stays (registered before) (registered goes.0) job.seeds.items
    (outputs_of job) path
    (closed_references_valid before (showable_prefix before goes.0 whole).closed)
    (subst IsOnce (registered-append before goes.0) whole.once)
    (λ seed has. All-contains (IsValid (registered before)) _ _ valid has) in
    subst (λ (entries : List Entry). MayRefer (registered before) job.seeds.items (outputs_of job)
    path
    ↔ MayRefer (registered entries) job.seeds.items (outputs_of job) path) goes.1
    (subst (λ (registrations : List Registration).
    MayRefer (registered before) job.seeds.items (outputs_of job) path
    ↔ MayRefer registrations job.seeds.items (outputs_of job) path)
    (sym (registered-append before goes.0)) both)

-- what a valid path reaches is the same in a list and after it
pub reach_after : (before after : List Entry) (from to : List ℕ) → IsPrefix before after
    → IsShowable after → IsValid (registered before) from
    → Reaches (registered before) from to ↔ Reaches (registered after) from to
reach_after before after from to goes showable valid =
    let whole : IsShowable (before ++ goes.0) = subst IsShowable (sym goes.1) showable in
    let both = reach_more (registered before) (registered goes.0)
    (closed_references_valid before (showable_prefix before goes.0 whole).closed)
    (subst IsOnce (registered-append before goes.0) whole.once) from to valid in
    subst (λ (entries : List Entry). Reaches (registered before) from to
    ↔ Reaches (registered entries) from to) goes.1
    (subst (λ (registrations : List Registration). Reaches (registered before) from to
    ↔ Reaches registrations from to) (sym (registered-append before goes.0)) both)

-- what is the same by each path is permitted by both
permitted_by_both : (before after : List Entry) (job : Job) → ((path : List ℕ)
    → MayRefer (registered before) job.seeds.items (outputs_of job) path
    ↔ MayRefer (registered after) job.seeds.items (outputs_of job) path)
    → (permitted : List (List ℕ)) → ArePermittedPaths before job permitted
    → ArePermittedPaths after job permitted
permitted_by_both before after job same permitted are = record {
  rising = are.rising;
  each = λ path. (
    λ has. (same path).0 ((are.each path).0 has),
    λ may. (are.each path).1 ((same path).1 may),
  );
}

-- so is what is permitted by a list where the seeds are valid, in each list that goes on
pub permitted_after : (before after : List Entry) (job : Job) → IsPrefix before after
    → IsShowable after → AreSeedsValid before job → (permitted : List (List ℕ))
    → ArePermittedPaths before job permitted → ArePermittedPaths after job permitted
permitted_after before after job goes showable valid =
    permitted_by_both before after job
    (λ path. same_after before after job path goes showable valid)

-- and where what is permitted reaches the same too, with the same records, it stays permitted
stays_by_both : (before after : List Entry) (job : Job) → ((path : List ℕ)
    → MayRefer (registered before) job.seeds.items (outputs_of job) path
    ↔ MayRefer (registered after) job.seeds.items (outputs_of job) path)
    → ((from to : List ℕ) → MayRefer (registered before) job.seeds.items (outputs_of job) from
    → (Contains (outputs_of job) from → ⊥)
    → Reaches (registered before) from to ↔ Reaches (registered after) from to)
    → ((from to : List ℕ) → MayRefer (registered before) job.seeds.items (outputs_of job) from
    → (Contains (outputs_of job) from → ⊥) → Reaches (registered before) from to
    → record_at (registered before) to ≡ record_at (registered after) to)
    → StaysPermitted before after job
stays_by_both before after job same alike records permitted are = (
  permitted_by_both before after job same permitted are,
  record {
    reach = λ from to has foreign. alike from to ((are.each from).0 has) foreign;
    records = λ from to has foreign reaches.
        records from to ((are.each from).0 has) foreign reaches;
  },
)

-- a list that was seen, one that is seen after it and begins with what is shown, and the entries,
-- which begin so too
module _ (seen now shown entries : List Entry) (job : Job) (from_seen : IsPrefix seen now)
    (from_shown : IsPrefix shown now) (goes_on : IsPrefix shown entries)
    (showable : IsShowable now) (journal : IsShowable entries) (valid : AreSeedsValid seen job)
    (there : AreSeedsValid shown job) where
  same_by_view : (path : List ℕ)
      → MayRefer (registered seen) job.seeds.items (outputs_of job) path
      ↔ MayRefer (registered entries) job.seeds.items (outputs_of job) path
  same_by_view path =
      let first = same_after seen now job path from_seen showable valid in
      let second = same_after shown now job path from_shown showable there in
      let third = same_after shown entries job path goes_on journal there in
      (λ may. third.0 (second.1 (first.0 may)), λ may. first.1 (second.0 (third.1 may)))

  reach_by_view : (from to : List ℕ)
      → MayRefer (registered seen) job.seeds.items (outputs_of job) from
      → (Contains (outputs_of job) from → ⊥)
      → Reaches (registered seen) from to ↔ Reaches (registered entries) from to
  reach_by_view from to may foreign =
      let seeds = job.seeds.items in
      let may_now = (same_after seen now job from from_seen showable valid).0 may in
      let may_shown = (same_after shown now job from from_shown showable there).1 may_now in
      let was_valid = referred_valid (registered seen) seeds (outputs_of job) from may foreign in
      let is_valid = referred_valid (registered shown) seeds (outputs_of job) from may_shown foreign
      in
      let first = reach_after seen now from to from_seen showable was_valid in
      let second = reach_after shown now from to from_shown showable is_valid in
      let third = reach_after shown entries from to goes_on journal is_valid in (
        λ reaches. third.0 (second.1 (first.0 reaches)),
        λ reaches. first.1 (second.0 (third.1 reaches)),
      )

  record_by_view : (from to : List ℕ)
      → MayRefer (registered seen) job.seeds.items (outputs_of job) from
      → (Contains (outputs_of job) from → ⊥) → Reaches (registered seen) from to
      → record_at (registered seen) to ≡ record_at (registered entries) to
  record_by_view from to may foreign reaches =
      let seeds = job.seeds.items in
      let may_now = (same_after seen now job from from_seen showable valid).0 may in
      let may_shown = (same_after shown now job from from_shown showable there).1 may_now in
      let was_valid = referred_valid (registered seen) seeds (outputs_of job) from may foreign in
      let is_valid = referred_valid (registered shown) seeds (outputs_of job) from may_shown foreign
      in
      let in_now = (reach_after seen now from to from_seen showable was_valid).0 reaches in
      let in_shown = (reach_after shown now from to from_shown showable is_valid).1 in_now in
      let shown_valid = reached_is_valid (registered shown) from to in_shown.0 in_shown.1 in
      record_after seen now to from_seen
      (reached_is_valid (registered seen) from to reaches.0 reaches.1)
      ∙ sym (record_after shown now to from_shown shown_valid)
      ∙ record_after shown entries to goes_on shown_valid

  pub stays_by_view : StaysPermitted seen entries job
  stays_by_view = stays_by_both seen entries job same_by_view reach_by_view record_by_view

-- from no seeds nothing is reached
only_own : (registrations : List Registration) (seeds outputs : List (List ℕ)) (path : List ℕ)
    → seeds ≡ [] → MayRefer registrations seeds outputs path → Contains outputs path
only_own registrations seeds outputs path none (inl reached) =
    absurd (Contains-nothing reached.0
    (subst (λ (paths : List (List ℕ)). Contains paths reached.0) none reached.1))
only_own registrations seeds outputs path none (inr own) = own

-- so the same is permitted whatever is valid
pub stays_without_seeds : (before after : List Entry) (job : Job) → job.seeds.items ≡ []
    → StaysPermitted before after job
stays_without_seeds before after job none =
    stays_by_both before after job
    (λ path. (
      λ may. inr (only_own (registered before) job.seeds.items (outputs_of job) path none may),
      λ may. inr (only_own (registered after) job.seeds.items (outputs_of job) path none may),
    ))
    (λ from to may foreign. absurd
    (foreign (only_own (registered before) job.seeds.items (outputs_of job) from none may)))
    (λ from to may foreign reaches. absurd
    (foreign (only_own (registered before) job.seeds.items (outputs_of job) from none may)))

-- no first seed, none at all
pub none_first : (paths : List (List ℕ)) → slice_get paths 0 ≡ None → paths ≡ []
none_first [] none = refl
none_first (path ∷ paths) none = absurd cc

-- what follows where a call answers well
pub where_ok : {A E Fact Other : Type 0} (answer : Result A E) → OnOk answer Fact
    → (Fact → Other) → OnOk answer Other
where_ok (Ok seen) fact follows = follows fact
where_ok (Err fault) fact follows = tt

-- the entries of a journal may be shown
pub journal_showable : (entries : List Entry) → IsJournal entries → IsShowable entries
journal_showable entries journal = search rules
