use Rattle.std.proofs.Common.{◌++◌, ◌∙◌, subst, sym}
use Rattle.std.specs.Prelude.{All}
use Rattle.std.proofs.lemmas.Bool.{false≢true}
use Rattle.std.proofs.lemmas.List.{take_all}
use Rattle.valid_table.specs.Tables.{registrations_of}
use Rattle.valid_table.specs.Valid.{IsValid}
use Rattle.valid_table.proofs.EnteredPaths.{known_more, unknown_here}
use Rattle.valid_table.proofs.path_table.admission.first_unknown.Goals as goal

pub returns-then-not-is_known : goal.returns-then-not-is_known
returns-then-not-is_known c =
    unknown_here _
    _ _ _ c.loop-index.invariant
    c.loop-index-test.true c.index-paths-index.is
    (λ there. false≢true (sym c.if-not-is_known.true ∙ c.is_known.ensures.1 there))

pub loop-index-preserved : goal.loop-index-preserved
loop-index-preserved c =
    known_more _
    _ _ _ c.loop-index.invariant
    c.loop-index-test.true c.index-paths-index.is
    (c.is_known.ensures.0 c.if-not-is_known.false)

pub returns : goal.returns
returns c =
    subst (All (IsValid (registrations_of c.args.rows.now.entries ++ c.args.registrations.now)))
    (take_all c.loop-index.index c.args.paths.now c.loop-index-test.false)
    c.loop-index.invariant
