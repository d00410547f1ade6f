use Rattle.std.proofs.Common.{◌∙◌, refl, sym}
use Rattle.std.proofs.lemmas.Bool.{false≢true}
use Rattle.std.proofs.lemmas.Option.{slice_get_read}
use Rattle.build_outcome.specs.private.Testing.{IsBarred, shown_path}
use Rattle.build_outcome.proofs.RisingIndices.{barred_told, none_at_all, none_more}
use Rattle.build_outcome.proofs.checks.used_paths.first_barred.Goals as goal

pub returns-then-is_barred : goal.returns-then-is_barred
returns-then-is_barred c =
    barred_told c.args.permitted.now c.args.used.now
    (IsBarred c.args.named.now c.args.check (shown_path c.args.left_out)) _ _ _ c.requires.permitted
    c.requires.used
    (slice_get_read _ _ _ _ refl c.loop-path-test.true c.path-item.is)
    (c.is_barred.ensures.0 c.if-is_barred.true) c.loop-path.invariant c.index_among.ensures

pub loop-path-preserved : goal.loop-path-preserved
loop-path-preserved c =
    none_more c.args.used.now (IsBarred c.args.named.now c.args.check (shown_path c.args.left_out)) _ _
    c.loop-path.invariant
    (slice_get_read _ _ _ _ refl c.loop-path-test.true c.path-item.is)
    (λ is. false≢true (sym c.if-is_barred.false ∙ c.is_barred.ensures.1 is))

pub returns : goal.returns
returns c =
    none_at_all c.args.used.now (IsBarred c.args.named.now c.args.check (shown_path c.args.left_out)) _
    c.loop-path.invariant c.loop-path-test.false
