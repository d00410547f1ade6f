use Rattle.std.proofs.Common.{◌∙◌, List, ℕ, length, ap, sym, subst, rules}
use Rattle.std.proofs.lemmas.Result.{err_from_is_err_and}
use Rattle.std.proofs.lemmas.Slice.Zip.{AllZip-long}
use Rattle.drv_graph.specs.private.Checking.{AreExpected}
use Rattle.drv_graph.specs.Expected.{IsExpected}
use Rattle.drv_graph.specs.private.UsedInputs.{drvs_of_uses, hashes_of}
use Rattle.drv_graph.proofs.Checks.{all_right, value_is_checked}
use Rattle.drv_graph.proofs.KindAnswers.{kind_not_mixed}
use Rattle.drv_graph.proofs.Ends.{err_is}
use Rattle.drv_graph.proofs.outputs.output_checks.expected_outputs.Goals as goal

pub returns-in_err-hashes : goal.returns-in_err-hashes
returns-in_err-hashes c = search (rules, err_is, kind_not_mixed)

pub returns-in_err-paths : goal.returns-in_err-paths
returns-in_err-paths c = search (rules, err_is, kind_not_mixed)

pub check_values-requires : goal.check_values-requires
check_values-requires c =
    ap length c.as_slice.ensures.value
    ∙ AllZip-long
    (IsExpected _ _ _ _
    _) _ _ c.in_ok-paths.ensures

pub returns-in_err-check_values : goal.returns-in_err-check_values
returns-in_err-check_values c =
    let p = err_from_is_err_and c.from_residual-in_err-check_values.result
    c.from_residual-in_err-check_values.ensures.1 in
    let expected : AreExpected c.args.rules.now.dir.now c.args.name.now c.in_ok-kind.kind
    c.args.drv.now
    (hashes_of c.args.used.now) c.as_slice.result.now =
    subst
    (λ (hs : List (List ℕ)). AreExpected c.args.rules.now.dir.now c.args.name.now
    c.in_ok-kind.kind
    c.args.drv.now hs c.as_slice.result.now) (c.deref.ensures.value ∙ c.in_ok-hashes.ensures.value)
    (subst (λ (ps : List (List ℕ)). AreExpected c.args.rules.now.dir.now c.args.name.now
    c.in_ok-kind.kind
    c.args.drv.now c.deref.result.now ps) (sym c.as_slice.ensures.value) c.in_ok-paths.ensures)
    in
    rw (p.1, p.2)
    (value_is_checked c.args.in_draft c.args.rules.now.dir.now c.args.name.now c.in_ok-kind.kind
    c.args.drv.now (hashes_of c.args.used.now) c.as_slice.result.now expected
    (drvs_of_uses c.args.used.now) _
    c.in_ok-kind.ensures c.in_err-check_values.ensures.err)

pub returns : goal.returns
returns c =
    let expected : AreExpected c.args.rules.now.dir.now c.args.name.now c.in_ok-kind.kind
    c.args.drv.now
    (hashes_of _) _ =
    subst
    (λ (hs : List (List ℕ)). AreExpected c.args.rules.now.dir.now c.args.name.now
    c.in_ok-kind.kind
    c.args.drv.now hs c.in_ok-paths.paths.items)
    (c.deref.ensures.value ∙ c.in_ok-hashes.ensures.value) c.in_ok-paths.ensures in
    let slice : AreExpected c.args.rules.now.dir.now c.args.name.now c.in_ok-kind.kind
    c.args.drv.now
    (hashes_of _) _ =
    subst
    (λ (ps : List (List ℕ)). AreExpected c.args.rules.now.dir.now c.args.name.now
    c.in_ok-kind.kind
    c.args.drv.now (hashes_of c.args.used.now) ps) (sym c.as_slice.ensures.value) expected in (
      all_right _ _ _ _ _
          _ _ slice _
          c.in_ok-kind.ensures c.in_ok-check_values.ensures.paths c.in_ok-check_values.ensures.env,
      expected,
    )
