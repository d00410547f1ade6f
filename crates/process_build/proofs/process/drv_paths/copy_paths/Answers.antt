use Rattle.std.proofs.Common.{◌≡◌, ◌∙◌, ◌++◌, ◌∷◌, [], ℕ, List, Some, ap, sym, take, length, ◌+◌}
use Rattle.std.specs.Prelude.{slice_get}
use Rattle.std.proofs.lemmas.List.{length_push, take_more}
use Rattle.std.proofs.lemmas.Option.{get_or_from_slice_get, slice_get_within}
use Rattle.drv_graph.specs.Nodes.{paths_of}
use Rattle.process_build.proofs.process.drv_paths.copy_paths.Goals as goal

-- one more of a list
take_next : (xs : List (List ℕ)) (i : ℕ) (x : List ℕ) → slice_get xs i ≡ Some x
    → take i xs ++ x ∷ [] ≡ take (i + 1) xs
take_next xs i x at =
    ap (λ y. take i xs ++ y ∷ []) (sym (get_or_from_slice_get xs i x x at))
    ∙ sym (take_more xs i x (slice_get_within xs i x at))

pub loop-number-preserved : goal.loop-number-preserved
loop-number-preserved c =
    let held = c.loop-number.invariant in
    let path = c.in_ok-copy.field-0 in
    let items = c.push_reserved.ensures.items in
    record {
      count = ap length items ∙ length_push _ _ ∙ ap (λ n. n + 1) held.count;
      paths = items ∙ ap (λ xs. xs ++ path ∷ []) held.paths
          ∙ take_next (paths_of c.args.plan.now.nodes) c.loop-number.number path
          (c.path.ensures.value ∙ ap Some (sym c.in_ok-copy.ensures.same));
      room = c.push_reserved.ensures.capacity ∙ held.room;
    }
