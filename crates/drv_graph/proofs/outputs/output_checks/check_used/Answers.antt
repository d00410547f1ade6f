use Rattle.std.proofs.Common.{ℕ, List, map, sym, subst, arith}
use Rattle.std.specs.Prelude.{Contains}
use Rattle.std.proofs.lemmas.List.{length-map}
use Rattle.nix_names.proofs.Lists.{Contains-from_get}
use Rattle.nix_drv.specs.Parts.{bytes_of}
use Rattle.nix_drv.specs.Indices.{output_names}
use Rattle.drv_graph.specs.private.Checking.{IsUnknownOutput}
use Rattle.drv_graph.specs.Outputs.{IsKnownUse, Use}
use Rattle.drv_graph.proofs.Checks.{unknown_use}
use Rattle.drv_graph.proofs.Loops.{all_took_all, all_took_more, first_without, seen_twice}
use Rattle.drv_graph.proofs.outputs.output_checks.check_used.Goals as goal

pub loop-name-preserved : goal.loop-name-preserved
loop-name-preserved c =
    let path = c.args.used.now.path.now in
    let drv = c.args.used.now.drv.now in
    let use_of : List ℕ → Use = λ name. record { input = path; output = name; drv = drv } in
    let found = Contains-from_get _ _ _
    c.in-Some.ensures.found in
    all_took_more IsKnownUse _
    _ _
    (seen_twice use_of bytes_of _ _ _
    c.loop-name-test.true c.name-item.is)
    c.loop-name.invariant
    (subst (λ (n : List ℕ). Contains (output_names drv) n) c.as_slice-name.ensures.value found)

pub returns-in_default-clause-err : goal.returns-in_default-clause-err
returns-in_default-clause-err c =
    let path = c.args.used.now.path.now in
    let drv = c.args.used.now.drv.now in
    let use_of : List ℕ → Use = λ name. record { input = path; output = name; drv = drv } in
    unknown_use _ _
    _
    (first_without IsKnownUse _
    _ _
    (seen_twice use_of bytes_of _ _ _
    c.loop-name-test.true c.name-item.is)
    c.loop-name.invariant
    (λ has. c.in_default.ensures.found
    (subst (λ (n : List ℕ). Contains (output_names drv) n) (sym c.as_slice-name.ensures.value)
    has)))
    (subst (λ (n : List ℕ). IsUnknownOutput path n c.in_ok-unknown_output.field-0)
    c.as_slice-name.ensures.value c.in_ok-unknown_output.ensures)

pub returns-clause-ok : goal.returns-clause-ok
returns-clause-ok c =
    let path = c.args.used.now.path.now in
    let drv = c.args.used.now.drv.now in
    let use_of : List ℕ → Use = λ name. record { input = path; output = name; drv = drv } in
    all_took_all IsKnownUse _
    _
    (omega (
      arith,
      length-map (map bytes_of c.args.names.now) use_of,
      length-map c.args.names.now bytes_of,
    )) c.loop-name.invariant
