use Rattle.std.proofs.Common.{ℕ, nat_eq, refl, arith}
use Rattle.std.specs.Global.{Vec}
use Rattle.std.specs.Cmp.Lexicographic.{pointwise}
use Rattle.std.proofs.lemmas.List.{length-map}
use Rattle.std.proofs.lemmas.List.Filters.{dedup_is}
use Rattle.nix_drv.specs.Parts.{input_of}
use Rattle.drv_graph.specs.private.Uniting.{IsNameSorted}
use Rattle.drv_graph.proofs.Gathering.{names_sorted}
use Rattle.drv_graph.proofs.Loops.{zipped_all, zipped_in_place}
use Rattle.drv_graph.proofs.outputs.modulo.sort_names.Goals as goal

pub loop-input-preserved : goal.loop-input-preserved
loop-input-preserved c =
    let names = names_sorted _ _ _
    c.sort_unstable.ensures.permutation c.sort_unstable.ensures.sorted
    (dedup_is (λ (x y : Vec ℕ). pointwise nat_eq x.items y.items) _ _ c.dedup.ensures.filtered) in
    let step = zipped_in_place IsNameSorted input_of _ _ _
    _ _
    _
    (omega arith) c.loop-input.auto.inputs c.loop-input.invariant.sorted c.loop-input.invariant.rest
    refl
    (record { path = refl; rising = names.0; names = names.1 }) in
    record { sorted = step.0; rest = step.1 }

pub returns : goal.returns
returns c =
    zipped_all IsNameSorted _ _
    _
    (omega (arith, length-map c.args.inputs.now input_of))
    (omega (arith, length-map c.loop-input.inputs input_of)) c.loop-input.invariant.sorted
