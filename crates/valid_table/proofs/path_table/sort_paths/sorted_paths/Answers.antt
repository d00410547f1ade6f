use Rattle.std.proofs.Common.{refl}
use Rattle.std.proofs.lemmas.List.Sorted.{IsPermutation-trans}
use Rattle.valid_table.specs.private.FirstRows.{rows_of_keyed}
use Rattle.valid_table.specs.Tables.{registrations_of}
use Rattle.valid_table.proofs.FirstRows.{same_paths}
use Rattle.valid_table.proofs.Keys.{keyed_moved, paths_rise}
use Rattle.valid_table.proofs.Sorting.{keyed_below, paths_moved, sorted_rising, sorted_same}
use Rattle.valid_table.proofs.path_table.sort_paths.sorted_paths.Goals.{then-not-keys_rise, else-not-keys_rise}
use Rattle.valid_table.proofs.path_table.sort_paths.sorted_paths.Goals as goal

pub copy_paths-requires : goal.copy_paths-requires
copy_paths-requires c =
    rw c.deref.ensures.value
    (keyed_below _ _ _
    _
    refl c.sort.ensures.permutation
    c.in_ok-keyed.ensures.rows.below)

pub returns : goal.returns
returns c =
    let registrations = registrations_of c.args.rows.now.entries in
    let chosen = rows_of_keyed c.in_ok-keyed.keyed.items in
    let copied = rw c.deref.ensures.value at c.in_ok-paths.ensures.paths in
    let moved = paths_moved _ _ _
    _ _
    refl c.sort.ensures.permutation copied in
    elim c.if-not-keys_rise.branch [
      | then-not-keys_rise w ↦
          let sorted = IsPermutation-trans _ _ _ moved w.put_in_order.ensures.moved in
          rw w.paths-is (record {
            rising = sorted_rising _ c.requires.once _ c.in_ok-keyed.ensures.rows
                _ _ refl sorted w.put_in_order.ensures.sorted;
            same = same_paths _ _ _ _
                c.in_ok-keyed.ensures.same
                (sorted_same _ _ _ refl sorted);
          })
      | else-not-keys_rise w ↦
          rw w.paths-is (record {
            rising = rw copied
                (paths_rise _ _
                (keyed_moved _ _ _
                c.sort.ensures.permutation c.in_ok-keyed.ensures.keys)
                (rw c.deref-2.ensures.value at c.keys_rise.ensures w.if-not-keys_rise.false));
            same = same_paths _ _ _ _
                c.in_ok-keyed.ensures.same
                (sorted_same _ _ _ refl moved);
          })
    ]
