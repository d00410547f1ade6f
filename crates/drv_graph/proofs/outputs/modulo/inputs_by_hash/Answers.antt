use Rattle.std.proofs.Common.{◌∙◌, ◌<◌, ◌++◌, ◌∷◌, [], length, map, ap, arith}
use Rattle.std.proofs.lemmas.List.{length-map, map-append}
use Rattle.std.proofs.lemmas.Option.{slice_get-get_or}
use Rattle.nix_drv.specs.Derivation.{Input}
use Rattle.nix_drv.specs.Parts.{input_of}
use Rattle.drv_graph.proofs.Loops.{seen_at, took_all, took_more}
use Rattle.drv_graph.proofs.Masking.{input_parts, replaced_at, replaced_length}
use Rattle.drv_graph.proofs.outputs.modulo.inputs_by_hash.Goals as goal

pub loop-index-preserved : goal.loop-index-preserved
loop-index-preserved c =
    let below : c.loop-index.index < length c.args.hashes.now = omega arith in record {
      first = took_more _ _
          _
          _ _
          (replaced_at (map input_of c.args.inputs.now) c.args.hashes.now c.loop-index.index
          _ _
          (seen_at input_of _ _ _ c.loop-index-test.true
          c.index-inputs-index.is) (slice_get-get_or _ _ [] below))
          c.loop-index.invariant.first
          (ap (map input_of) c.push_reserved.ensures.items
          ∙ map-append input_of _ (c.in_ok-with_hash.field-0 ∷ [])
          ∙ ap (λ (i : Input). map input_of c.loop-index.changed.items ++ i ∷ [])
          (input_parts c.in_ok-with_hash.field-0 _ _
          c.in_ok-with_hash.ensures.path c.in_ok-with_hash.ensures.names));
      count = omega arith;
      room = c.push_reserved.ensures.capacity ∙ c.loop-index.invariant.room;
    }

pub returns-clause-value : goal.returns-clause-value
returns-clause-value c =
    took_all _ _ _
    (omega (
      arith,
      replaced_length (map input_of c.args.inputs.now) c.args.hashes.now,
      length-map c.args.inputs.now input_of,
    )) c.loop-index.invariant.first
