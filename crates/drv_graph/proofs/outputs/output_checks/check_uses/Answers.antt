use Rattle.std.proofs.Common.{◌≡◌, ◌∙◌, ◌<◌, ◌≤◌, ℕ, List, Some, length, map, take, get_or, sym, ap, subst, arith, rules}
use Rattle.std.specs.Prelude.{All}
use Rattle.std.specs.Global.{Vec}
use Rattle.std.specs.List.{slice_get}
use Rattle.std.proofs.lemmas.List.{length-map, take_all}
use Rattle.std.proofs.lemmas.Option.{same_Some}
use Rattle.nix_drv.specs.Derivation.{Drv, Input}
use Rattle.nix_drv.specs.Parts.{bytes_of, input_of, path_of}
use Rattle.nix_drv.specs.declared.derivation.Input.{Input as InputStruct}
use Rattle.drv_graph.specs.private.Checking.{IsUseFault}
use Rattle.drv_graph.specs.Outputs.{IsKnownUse, Use, uses}
use Rattle.drv_graph.specs.private.UsedInputs.{drvs_of_uses, paths_of_uses, uses_of}
use Rattle.drv_graph.specs.declared.outputs.output_checks.UsedInput.{UsedInput}
use Rattle.drv_graph.proofs.Checks.{known_more, use_fault_at}
use Rattle.drv_graph.proofs.Loops.{seen_at}
use Rattle.drv_graph.proofs.Ends.{err_is}
use Rattle.drv_graph.proofs.outputs.output_checks.check_uses.Goals as goal

-- an input, its derivation and its path at an index
here : (inputs : List InputStruct) (used : List UsedInput) (i : ℕ) (item : InputStruct)
    (by : UsedInput) → paths_of_uses used ≡ map path_of inputs → i < length inputs
    → item ≡ get_or inputs i item → by ≡ get_or used i by
    → (slice_get (map input_of inputs) i ≡ Some (input_of item))
    × (slice_get (drvs_of_uses used) i ≡ Some by.drv.now) × (by.path.now ≡ item.path.items)
here inputs used i item by same lt at_item at_by =
    let below : i < length used =
    omega (
      arith,
      ap length same,
      length-map used (λ (u : UsedInput). u.path.now),
      length-map inputs path_of,
    ) in (
      seen_at input_of _ i _ lt at_item,
      seen_at (λ (u : UsedInput). u.drv.now) _ i _ below at_by,
      same_Some by.path.now item.path.items
          (sym (seen_at (λ (u : UsedInput). u.path.now) _ i _ below at_by)
          ∙ ap (λ (ps : List (List ℕ)). slice_get ps i) same
          ∙ seen_at path_of _ i _ lt at_item),
    )

-- what holds of the uses at the lent path holds of those of the input
of_item : (P : List Use → Type 0) (path : List ℕ) (drv : Drv) (item : InputStruct)
    (names : List (Vec ℕ)) → path ≡ item.path.items → names ≡ item.names.items
    → P (uses_of path drv (map bytes_of names))
    → P (uses_of item.path.items drv (map bytes_of item.names.items))
of_item P path drv item names same lent h = search rules

pub loop-index-preserved : goal.loop-index-preserved
loop-index-preserved c =
    let item = c.index-inputs-index.result in
    let at = here _ _ _ _ _ c.requires
    c.loop-index-test.true c.index-inputs-index.is c.index-used-index.is in
    known_more (map input_of c.args.inputs.now) (drvs_of_uses c.args.used.now) c.loop-index.index
    _ _ at.0 at.1 c.loop-index.invariant
    (of_item (All IsKnownUse) _ _ item _ at.2
    c.deref.ensures.value c.in_ok-check_used.ensures.ok)

pub returns-in_err-check_used-clause-err : goal.returns-in_err-check_used-clause-err
returns-in_err-check_used-clause-err c =
    let item = c.index-inputs-index.result in
    let fault = c.in_err-check_used.field-0.0 in
    let at = here _ _ _ _ _ c.requires
    c.loop-index-test.true c.index-inputs-index.is c.index-used-index.is in
    rw (err_is _ _ c.from_residual.ensures.1)
    (use_fault_at (map input_of c.args.inputs.now) (drvs_of_uses c.args.used.now) c.loop-index.index
    _ _ fault at.0 at.1 c.loop-index.invariant
    (of_item (λ us. IsUseFault us fault) _ _ item _ at.2
    c.deref.ensures.value c.in_err-check_used.ensures.err))

pub returns-clause-ok : goal.returns-clause-ok
returns-clause-ok c =
    let inputs = map input_of c.args.inputs.now in
    let drvs = drvs_of_uses c.args.used.now in
    let past : length inputs ≤ c.loop-index.index =
    omega (arith, length-map c.args.inputs.now input_of) in
    let past_drvs : length drvs ≤ c.loop-index.index =
    omega (
      arith,
      ap length c.requires,
      length-map c.args.used.now (λ (u : UsedInput). u.path.now),
      length-map c.args.used.now (λ (u : UsedInput). u.drv.now),
      length-map c.args.inputs.now path_of,
    ) in
    subst (λ (us : List Use). All IsKnownUse us)
    (ap (λ (is : List Input). uses is (take c.loop-index.index drvs))
    (take_all c.loop-index.index inputs past)
    ∙ ap (λ (ds : List Drv). uses inputs ds) (take_all c.loop-index.index drvs past_drvs))
    c.loop-index.invariant
