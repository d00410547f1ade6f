use Rattle.std.specs.Cmp.Lexicographic.{slice_cmp}
use Rattle.std.specs.Ordering.{is_lt, nat_cmp}
use Rattle.std.proofs.Common.{◌≡◌, List, drop, length, map, rules, arith, subst}
use Rattle.std.specs.List.{AllZip}
use Rattle.std.proofs.lemmas.List.{take_at}
use Rattle.std.proofs.lemmas.Cmp.{nat_list_cmp_total}
use Rattle.std.proofs.lemmas.List.Sorted.{IsPermutation-map, answers_always, ranks_by}
use Rattle.nix_drv.specs.Parts.{input_of, path_of}
use Rattle.nix_drv.specs.declared.derivation.Input.{Input}
use Rattle.drv_graph.specs.private.Uniting.{IsNameSorted}
use Rattle.drv_graph.proofs.Gathering.{sorted_map}
use Rattle.drv_graph.proofs.Uniting.{gathered_moved, united_from}
use Rattle.drv_graph.proofs.outputs.modulo.unite_inputs.Goals as goal

pub gather-requires : goal.gather-requires
gather-requires c =
    sorted_map path_of _
    (c.sort_unstable_by.ensures.sorted
    (λ (a b : Input). is_lt (slice_cmp nat_cmp a.path.items b.path.items))
    (ranks_by nat_list_cmp_total path_of) (answers_always _ _ _ (λ f a r g h. search rules)))

pub returns : goal.returns
returns c =
    let sorted = c.sort_names.new.inputs in
    let gathered = c.in_ok-gathered.gathered in
    let long : length sorted ≡ gathered.len = omega arith in
    rw (take_at sorted (drop (length sorted) gathered.items) gathered.len long)
    (united_from _ _
    _
    (gathered_moved _ _ _ (IsPermutation-map input_of _ _ c.sort_unstable_by.ensures.permutation)
    c.in_ok-gathered.ensures.value)
    (subst (λ (items : List Input). AllZip IsNameSorted (map input_of items) (map input_of sorted))
    c.deref_mut.ensures.value c.sort_names.ensures))
