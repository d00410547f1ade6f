use Rattle.std.proofs.Common.{◌∙◌, All, ap, inr, subst, sym}
use Rattle.valid_table.specs.Closure.{IsClosure}
use Rattle.valid_table.specs.Entries.{paths_registered, registered}
use Rattle.valid_table.specs.Valid.{IsValid}
use Rattle.valid_view.specs.Answers.{AreRecords}
use Rattle.store_run.proofs.OutputClosures.{own_at, roots_close, roots_valid, taken_alone, taken_whole}
use Rattle.store_run.proofs.requisites.BuiltJob.closure_at.Goals as goal

pub records-requires : goal.records-requires
records-requires g c =
    let self = c.args.self.now in
    let roots = c.in_ok-own.field-0 in
    let at = own_at self.job.now c.args.n c.requires.within in
    inr (subst (All (IsValid (registered c.args.reader.now.seen))) (sym c.deref.ensures.value)
    (roots_valid c.args.reader.now.seen self.job.now self.checked.now c.requires.refers at.0
    roots.own.items roots.outside.items (c.in_ok-own.ensures at.0 at.1)))

pub closure-requires : goal.closure-requires
closure-requires g c =
    let self = c.args.self.now in
    let roots = c.in_ok-own.field-0 in
    let at = own_at self.job.now c.args.n c.requires.within in
    inr (subst (All (IsValid (registered c.args.reader.now.seen))) (sym c.deref-in-None.ensures.value)
    (roots_valid c.args.reader.now.seen self.job.now self.checked.now c.requires.refers at.0
    roots.own.items roots.outside.items (c.in_ok-own.ensures at.0 at.1)))

pub returns-in-Some-clause-closure : goal.returns-in-Some-clause-closure
returns-in-Some-clause-closure g c =
    let self = c.args.self.now in
    let roots = c.in_ok-own.field-0 in
    let seen = c.records.new.reader.seen in
    let at = own_at self.job.now c.args.n c.requires.within in
    taken_whole seen self.job.now self.checked.now c.args.n at.0 roots.own.items
    roots.outside.items c.in_ok-reached-in-Some.reached.items
    (record { paths = c.in_ok-paths-in-Some.paths; records = c.in_ok-records-in-Some.records })
    c.in_ok-records-in-Some.ensures.showable at.1 (c.in_ok-own.ensures at.0 at.1)
    (subst (λ paths. AreRecords (registered seen) paths c.in_ok-records-in-Some.records.items)
    c.deref.ensures.value c.in_ok-records-in-Some.ensures.records)
    (c.in_ok-reached-in-Some.ensures.paths ∙ ap paths_registered c.deref-in-Some.ensures.value)
    c.in_ok-paths-in-Some.ensures

pub union_of-requires-in-None-clause-right : goal.union_of-requires-in-None-clause-right
union_of-requires-in-None-clause-right g c =
    let at = own_at c.args.self.now.job.now c.args.n c.requires.within in
    (c.in_ok-own.ensures at.0 at.1).inside_rises

pub returns-clause-closure : goal.returns-clause-closure
returns-clause-closure g c =
    let self = c.args.self.now in
    let roots = c.in_ok-own.field-0 in
    let seen = c.closure.new.reader.seen in
    let at = own_at self.job.now c.args.n c.requires.within in
    let closure = subst (λ paths. IsClosure (registered seen) paths
    c.in_ok-reached-in-None.reached.items) c.deref-in-None.ensures.value
    c.in_ok-reached-in-None.ensures.closure in
    taken_alone seen self.job.now self.checked.now c.args.n at.0
    (record { paths = c.in_ok-paths-in-None.paths; records = c.new-records.result })
    (sym (c.in-None.ensures self.job.now c.requires.checks)) at.1
    (roots_close seen self.job.now self.checked.now at.0 roots.own.items roots.outside.items
    c.in_ok-reached-in-None.reached.items c.in_ok-paths-in-None.paths.items
    (c.in_ok-own.ensures at.0 at.1) closure c.in_ok-paths-in-None.ensures)
    c.new-records.ensures.items
