use Rattle.std.proofs.Common.{◌≡◌, ◌∙◌, Bor, List, Some, map, refl, sym, ℕ}
use Rattle.std.proofs.lemmas.Option.{none-some, slice_get_read}
use Rattle.nix_names.proofs.Lists.{get_mapped}
use Rattle.build_outcome.specs.Checks.{list_of}
use Rattle.build_outcome.specs.declared.job.JobOutput.{JobOutput}
use Rattle.build_outcome.proofs.ListTests.{all_allowed, bad_list, not_asked, one_barred}
use Rattle.build_outcome.proofs.checks.output_tests.Tester.test_check.Goals as goal

pub returns-in_default : goal.returns-in_default
returns-in_default c =
    let self = c.args.self.now in
    not_asked self.job.now self.permitted.now self.records.now self.asked.now.closures.items _ _
    (sym (rw c.in_default.is at c.in_ok-list.ensures))

pub returns-in_default-2 : goal.returns-in_default-2
returns-in_default-2 c =
    let self = c.args.self.now in
    let at = get_mapped (λ (o : JobOutput). o.path) self.job.now.outputs.items c.args.n _
    (slice_get_read _ _ _ _ refl c.requires.within c.index.ensures) in
    let listed : list_of self.job.now c.args.n c.args.check
    ≡ Some (map (λ (t : Bor (List ℕ)). t.now) c.in-Some.list.items) =
    sym (rw c.in-Some.is at c.in_ok-list.ensures) in
    bad_list self.job.now self.permitted.now self.records.now self.asked.now.closures.items _ _ _ _
    at listed (rw (c.deref.ensures.value, c.in_default-2.is) at c.in_ok-named.ensures)

pub returns-in-Some-first_barred : goal.returns-in-Some-first_barred
returns-in-Some-first_barred c =
    let self = c.args.self.now in
    let at = get_mapped (λ (o : JobOutput). o.path) self.job.now.outputs.items c.args.n _
    (slice_get_read _ _ _ _ refl c.requires.within c.index.ensures) in
    let listed : list_of self.job.now c.args.n c.args.check
    ≡ Some (map (λ (t : Bor (List ℕ)). t.now) c.in-Some.list.items) =
    sym (rw c.in-Some.is at c.in_ok-list.ensures) in
    one_barred self.job.now self.permitted.now self.records.now self.asked.now.closures.items
    _ _ _ _ _ _ _ _ at listed
    (rw (c.deref.ensures.value, c.in-Some-2.is) at c.in_ok-named.ensures)
    (λ path. c.left_out-left_out.ensures self.job.now path c.requires.checks)
    (λ registrations have. c.used_by-used.ensures.used registrations self.job.now _
    (rw c.deref-2.ensures.value have) c.requires.nix
    (λ none. none-some _ (sym none ∙ listed)) at)
    (rw c.deref-3.ensures.value at c.in-Some-first_barred.ensures)

pub returns : goal.returns
returns c =
    let self = c.args.self.now in
    let at = get_mapped (λ (o : JobOutput). o.path) self.job.now.outputs.items c.args.n _
    (slice_get_read _ _ _ _ refl c.requires.within c.index.ensures) in
    let listed : list_of self.job.now c.args.n c.args.check
    ≡ Some (map (λ (t : Bor (List ℕ)). t.now) c.in-Some.list.items) =
    sym (rw c.in-Some.is at c.in_ok-list.ensures) in
    all_allowed self.job.now self.permitted.now self.records.now self.asked.now.closures.items
    _ _ _ _ _ _ _ at listed
    (rw (c.deref.ensures.value, c.in-Some-2.is) at c.in_ok-named.ensures)
    (λ path. c.left_out-left_out.ensures self.job.now path c.requires.checks)
    (λ registrations have. c.used_by-used.ensures.used registrations self.job.now _
    (rw c.deref-2.ensures.value have) c.requires.nix
    (λ none. none-some _ (sym none ∙ listed)) at)
    (rw c.deref-3.ensures.value at c.in-None.ensures)
