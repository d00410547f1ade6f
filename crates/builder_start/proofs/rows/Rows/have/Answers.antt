use Rattle.std.proofs.Common.{◌∙◌, subst, sym}
use Rattle.std.proofs.lemmas.Bool.{false≢true}
use Rattle.valid_table.specs.Valid.{IsValid}
use Rattle.builder_start.proofs.GraphStarts.{valid_all, valid_more, valid_not}
use Rattle.builder_start.proofs.rows.Rows.have.Goals as goal

pub returns-then-not-registers : goal.returns-then-not-registers
returns-then-not-registers c =
    valid_not c.args.self.now c.args.paths.now c.paths.path-index c.path-item.result
    c.paths-test.true c.path-item.is
    (λ valid. false≢true (sym c.if-not-registers.true
    ∙ c.registers.ensures.1
    (subst (λ rs. IsValid rs c.path-item.result) (sym (c.self.invariant.0 ∙ c.self.view_is)) valid)))

pub paths-preserved : goal.paths-preserved
paths-preserved c =
    valid_more c.args.self.now c.args.paths.now c.paths.path-index c.path-item.result
    c.paths-test.true c.path-item.is c.paths.invariant
    (subst (λ rs. IsValid rs c.path-item.result) (c.self.invariant.0 ∙ c.self.view_is)
    (c.registers.ensures.0 c.if-not-registers.false))

pub returns : goal.returns
returns c =
    valid_all c.args.self.now c.args.paths.now c.paths.path-index c.paths-test.false
    c.paths.invariant
