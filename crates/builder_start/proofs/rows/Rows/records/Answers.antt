use Rattle.std.proofs.Common.{◌∙◌, List, All, subst, sym}
use Rattle.valid_table.specs.Closure.{IsClosure}
use Rattle.valid_table.specs.Valid.{IsValid}
use Rattle.valid_table.specs.declared.entry.Registration.{Registration}
use Rattle.builder_start.proofs.Closures.{closure_valid, records_answered}
use Rattle.builder_start.proofs.rows.Rows.records.Goals as goal

pub records-requires : goal.records-requires
records-requires c =
    subst (λ (rs : List Registration). All (IsValid rs) c.deref.result.now)
    (sym (c.self.invariant.0 ∙ c.self.view_is))
    (subst (All (IsValid c.args.self.now)) (sym c.deref.ensures.value)
    (closure_valid c.args.self.now c.args.roots.now c.in_ok-paths.paths.items
    c.in_ok-paths.ensures))

pub returns : goal.returns
returns c =
    records_answered c.args.self.now c.self.inside.table.registrations c.args.roots.now
    c.deref.result.now c.records.result c.records.ensures.paths c.records.ensures.known
    (c.self.invariant.0 ∙ c.self.view_is)
    (subst (IsClosure c.args.self.now c.args.roots.now) (sym c.deref.ensures.value)
    c.in_ok-paths.ensures)
