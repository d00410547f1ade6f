use Rattle.std.proofs.Common.{All, inl, subst, sym}
use Rattle.valid_table.specs.Closure.{IsClosure}
use Rattle.valid_table.specs.Entries.{registered}
use Rattle.valid_table.specs.Valid.{IsValid}
use Rattle.store_run.proofs.Permits.{closure_and_outputs}
use Rattle.store_run.proofs.verdict.permitted.Goals as goal

pub closure-requires : goal.closure-requires
closure-requires g c =
    inl (subst (All (IsValid (registered c.args.reader.now.told))) (sym c.deref.ensures.value)
    c.requires)

pub returns-clause-seeds : goal.returns-clause-seeds
returns-clause-seeds g c =
    subst (All (IsValid (registered c.closure.new.reader.seen))) c.deref.ensures.value
    c.in_ok-reached.ensures.valid

pub returns-clause-permitted : goal.returns-clause-permitted
returns-clause-permitted g c =
    let seen = c.closure.new.reader.seen in
    let reached = c.in_ok-reached.reached.items in
    let closure = subst (λ roots. IsClosure (registered seen) roots reached) c.deref.ensures.value
    c.in_ok-reached.ensures.closure in
    closure_and_outputs seen c.args.job.now reached c.in_ok-permitted_beside.field-0.items closure
    c.in_ok-permitted_beside.ensures.ok
