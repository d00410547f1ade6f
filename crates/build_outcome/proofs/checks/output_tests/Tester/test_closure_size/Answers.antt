use Rattle.std.proofs.Common.{◌≡◌, ◌<◌, ◌≤◌, ◌↔◌, ◌++◌, ◌∙◌, IsTrue, List, None, Some, length, map, refl, subst, sym, true, ℕ}
use Rattle.std.specs.Prelude.{All, Contains, zip}
use Rattle.std.specs.List.{slice_get}
use Rattle.std.proofs.lemmas.Bool.{false≢true}
use Rattle.std.proofs.lemmas.List.Elements.{All-contains}
use Rattle.std.proofs.lemmas.Option.{slice_get_past, slice_get_read}
use Rattle.nix_names.specs.Rising.{IsRising}
use Rattle.nix_names.proofs.Lists.{Contains-from_get}
use Rattle.valid_table.specs.Entries.{paths_registered}
use Rattle.valid_table.specs.declared.entry.Registration.{Registration}
use Rattle.build_outcome.specs.Checks.{IsFirstPath, IsPermittedClosure, closure_limit, nar_at, registration_of, size_of_all}
use Rattle.build_outcome.specs.declared.checks.closure.OutputClosure.{OutputClosure}
use Rattle.build_outcome.specs.declared.job.JobOutput.{JobOutput}
use Rattle.build_outcome.specs.private.Sizing.{AreNars, kept_nar}
use Rattle.build_outcome.proofs.SizeTests.{closure_past, closure_unmeasured, closure_within, no_closure, no_closure_limit, output_at}
use Rattle.build_outcome.proofs.Sizes.{known}
use Rattle.build_outcome.proofs.checks.output_tests.Tester.test_closure_size.Goals as goal

pub returns-in_default : goal.returns-in_default
returns-in_default c =
    let self = c.args.self.now in
    no_closure_limit self.job.now self.permitted.now self.records.now
    self.asked.now.closures.items _ (sym (c.in_default.ensures self.job.now c.requires.checks))

pub returns-in_default-get : goal.returns-in_default-get
returns-in_default-get c =
    let self = c.args.self.now in
    let limit : closure_limit self.job.now c.args.n ≡ Some c.in-Some.limit =
    sym (c.in-Some.ensures self.job.now c.requires.checks) in
    let own = output_at self.job.now c.args.n c.requires.within in
    no_closure self.job.now self.permitted.now self.records.now self.asked.now.closures.items
    c.args.n c.in-Some.limit own.0 c.requires.nix limit own.1
    (slice_get_past self.asked.now.closures.items c.args.n
    (subst (λ (l : List OutputClosure). length l ≤ c.args.n) c.deref.ensures.value
    c.in_default-get.ensures.lookup.3))

pub first_unknown-requires-clause-paths : goal.first_unknown-requires-clause-paths
first_unknown-requires-clause-paths c =
    let self = c.args.self.now in
    let look = c.in-Some-get.ensures.lookup in
    let given : slice_get self.asked.now.closures.items c.args.n ≡ Some c.in-Some-get.closure.now =
    subst (λ (l : List OutputClosure). slice_get l c.args.n ≡ Some c.in-Some-get.closure.now)
    c.deref.ensures.value
    (slice_get_read _ _ _ _ refl look.3.0 look.1) in
    let is = All-contains (IsPermittedClosure self.permitted.now) self.asked.now.closures.items
    c.in-Some-get.closure.now c.requires.testable.closures
    (Contains-from_get self.asked.now.closures.items c.args.n c.in-Some-get.closure.now given) in
    subst (λ (l : List (List ℕ)). IsRising l × All (Contains self.permitted.now) l)
    (sym c.deref-4.ensures.value) (is.rising, is.within)

pub first_unknown-requires-clause-others : goal.first_unknown-requires-clause-others
first_unknown-requires-clause-others c =
    let self = c.args.self.now in
    let look = c.in-Some-get.ensures.lookup in
    let given : slice_get self.asked.now.closures.items c.args.n ≡ Some c.in-Some-get.closure.now =
    subst (λ (l : List OutputClosure). slice_get l c.args.n ≡ Some c.in-Some-get.closure.now)
    c.deref.ensures.value
    (slice_get_read _ _ _ _ refl look.3.0 look.1) in
    let is = All-contains (IsPermittedClosure self.permitted.now) self.asked.now.closures.items
    c.in-Some-get.closure.now c.requires.testable.closures
    (Contains-from_get self.asked.now.closures.items c.args.n c.in-Some-get.closure.now given) in
    subst (λ (l : List Registration). IsRising (paths_registered l))
    (sym (c.in_ok-nars.ensures.others ∙ c.deref-3.ensures.value)) is.records

pub returns-in-Some-first_unknown : goal.returns-in-Some-first_unknown
returns-in-Some-first_unknown c =
    let self = c.args.self.now in
    let limit : closure_limit self.job.now c.args.n ≡ Some c.in-Some.limit =
    sym (c.in-Some.ensures self.job.now c.requires.checks) in
    let own = output_at self.job.now c.args.n c.requires.within in
    let look = c.in-Some-get.ensures.lookup in
    let given : slice_get self.asked.now.closures.items c.args.n ≡ Some c.in-Some-get.closure.now =
    subst (λ (l : List OutputClosure). slice_get l c.args.n ≡ Some c.in-Some-get.closure.now)
    c.deref.ensures.value
    (slice_get_read _ _ _ _ refl look.3.0 look.1) in
    let kept : AreNars (kept_nar c.in_ok-nars.nars.own) (known self.job.now self.records.now) =
    subst (λ (l : List JobOutput). AreNars (kept_nar c.in_ok-nars.nars.own)
    (map registration_of (zip (map (λ (o : JobOutput). o.path) l) self.records.now)))
    c.deref-2.ensures.value c.in_ok-nars.ensures.own in
    let others : c.in_ok-nars.nars.others.now ≡ c.in-Some-get.closure.now.records.items =
    c.in_ok-nars.ensures.others ∙ c.deref-3.ensures.value in
    let first = c.in-Some-first_unknown.ensures (known self.job.now self.records.now) kept in
    closure_unmeasured self.job.now self.permitted.now self.records.now
    self.asked.now.closures.items c.args.n c.in-Some.limit own.0 c.in-Some-get.closure.now
    c.requires.nix limit own.1 given c.requires.testable.count c.in-Some-first_unknown.index
    (subst (λ (l : List Registration). IsFirstPath self.permitted.now
    (λ path. Contains c.in-Some-get.closure.now.paths.items path
    × (nar_at (known self.job.now self.records.now ++ l) path ≡ None))
    c.in-Some-first_unknown.index) others
    (subst (λ (l : List (List ℕ)). IsFirstPath self.permitted.now
    (λ path. Contains l path
    × (nar_at (known self.job.now self.records.now ++ c.in_ok-nars.nars.others.now) path ≡ None))
    c.in-Some-first_unknown.index) c.deref-4.ensures.value first))

pub returns-then-are_past : goal.returns-then-are_past
returns-then-are_past c =
    let self = c.args.self.now in
    let limit : closure_limit self.job.now c.args.n ≡ Some c.in-Some.limit =
    sym (c.in-Some.ensures self.job.now c.requires.checks) in
    let own = output_at self.job.now c.args.n c.requires.within in
    let look = c.in-Some-get.ensures.lookup in
    let given : slice_get self.asked.now.closures.items c.args.n ≡ Some c.in-Some-get.closure.now =
    subst (λ (l : List OutputClosure). slice_get l c.args.n ≡ Some c.in-Some-get.closure.now)
    c.deref.ensures.value
    (slice_get_read _ _ _ _ refl look.3.0 look.1) in
    let kept : AreNars (kept_nar c.in_ok-nars.nars.own) (known self.job.now self.records.now) =
    subst (λ (l : List JobOutput). AreNars (kept_nar c.in_ok-nars.nars.own)
    (map registration_of (zip (map (λ (o : JobOutput). o.path) l) self.records.now)))
    c.deref-2.ensures.value c.in_ok-nars.ensures.own in
    let others : c.in_ok-nars.nars.others.now ≡ c.in-Some-get.closure.now.records.items =
    c.in_ok-nars.ensures.others ∙ c.deref-3.ensures.value in
    let measured : (path : List ℕ) → Contains c.in-Some-get.closure.now.paths.items path
    → nar_at (known self.job.now self.records.now ++ c.in-Some-get.closure.now.records.items) path
    ≡ None → ⊥ =
    subst (λ (l : List Registration). (path : List ℕ)
    → Contains c.in-Some-get.closure.now.paths.items path
    → nar_at (known self.job.now self.records.now ++ l) path ≡ None → ⊥) others
    (subst (λ (l : List (List ℕ)). (path : List ℕ) → Contains l path
    → nar_at (known self.job.now self.records.now ++ c.in_ok-nars.nars.others.now) path ≡ None → ⊥)
    c.deref-4.ensures.value
    (c.in_default-first_unknown.ensures (known self.job.now self.records.now) kept)) in
    let told = (c.are_past.ensures (known self.job.now self.records.now) kept).0 c.if-are_past.true
    in
    closure_past self.job.now self.permitted.now self.records.now
    self.asked.now.closures.items c.args.n c.in-Some.limit own.0 c.in-Some-get.closure.now
    c.requires.nix limit own.1 given c.requires.testable.count measured
    (subst (λ (l : List Registration). c.in-Some.limit
    < size_of_all (known self.job.now self.records.now ++ l) c.in-Some-get.closure.now.paths.items)
    others
    (subst (λ (l : List (List ℕ)). c.in-Some.limit
    < size_of_all (known self.job.now self.records.now ++ c.in_ok-nars.nars.others.now) l)
    c.deref-5.ensures.value told))

pub returns : goal.returns
returns c =
    let self = c.args.self.now in
    let limit : closure_limit self.job.now c.args.n ≡ Some c.in-Some.limit =
    sym (c.in-Some.ensures self.job.now c.requires.checks) in
    let own = output_at self.job.now c.args.n c.requires.within in
    let look = c.in-Some-get.ensures.lookup in
    let given : slice_get self.asked.now.closures.items c.args.n ≡ Some c.in-Some-get.closure.now =
    subst (λ (l : List OutputClosure). slice_get l c.args.n ≡ Some c.in-Some-get.closure.now)
    c.deref.ensures.value
    (slice_get_read _ _ _ _ refl look.3.0 look.1) in
    let kept : AreNars (kept_nar c.in_ok-nars.nars.own) (known self.job.now self.records.now) =
    subst (λ (l : List JobOutput). AreNars (kept_nar c.in_ok-nars.nars.own)
    (map registration_of (zip (map (λ (o : JobOutput). o.path) l) self.records.now)))
    c.deref-2.ensures.value c.in_ok-nars.ensures.own in
    let others : c.in_ok-nars.nars.others.now ≡ c.in-Some-get.closure.now.records.items =
    c.in_ok-nars.ensures.others ∙ c.deref-3.ensures.value in
    let measured : (path : List ℕ) → Contains c.in-Some-get.closure.now.paths.items path
    → nar_at (known self.job.now self.records.now ++ c.in-Some-get.closure.now.records.items) path
    ≡ None → ⊥ =
    subst (λ (l : List Registration). (path : List ℕ)
    → Contains c.in-Some-get.closure.now.paths.items path
    → nar_at (known self.job.now self.records.now ++ l) path ≡ None → ⊥) others
    (subst (λ (l : List (List ℕ)). (path : List ℕ) → Contains l path
    → nar_at (known self.job.now self.records.now ++ c.in_ok-nars.nars.others.now) path ≡ None → ⊥)
    c.deref-4.ensures.value
    (c.in_default-first_unknown.ensures (known self.job.now self.records.now) kept)) in
    closure_within self.job.now self.permitted.now self.records.now
    self.asked.now.closures.items c.args.n c.in-Some.limit own.0 c.in-Some-get.closure.now
    c.requires.nix limit own.1 given c.requires.testable.count measured
    (λ past. false≢true (sym c.if-are_past.false
    ∙ (c.are_past.ensures (known self.job.now self.records.now) kept).1
    (subst (λ (l : List (List ℕ)). c.in-Some.limit
    < size_of_all (known self.job.now self.records.now ++ c.in_ok-nars.nars.others.now) l)
    (sym c.deref-5.ensures.value)
    (subst (λ (l : List Registration). c.in-Some.limit
    < size_of_all (known self.job.now self.records.now ++ l) c.in-Some-get.closure.now.paths.items)
    (sym others) past))))
