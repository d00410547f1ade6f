use Rattle.std.proofs.Common.{◌≡◌, ◌∙◌, Some, arith, get_or, map, ℕ}
use Rattle.std.specs.List.{slice_get}
use Rattle.std.proofs.lemmas.List.{get_or-map, length-map}
use Rattle.valid_table.specs.Entries.{paths_registered}
use Rattle.valid_table.specs.Tables.{registrations_of}
use Rattle.valid_table.proofs.RowNumbers.{paths_are_keys}
use Rattle.valid_table.proofs.Sorting.{paths_more}
use Rattle.valid_table.proofs.path_table.sort_paths.copy_paths.Goals as goal

pub loop-row-preserved : goal.loop-row-preserved
loop-row-preserved c =
    let rows = c.args.rows.now.entries in
    let registrations = registrations_of rows in
    let i = c.loop-row.row-index in
    let keyed = c.args.keyed.now in
    let numbers = map (λ (k : ℕ × ℕ). k.1) keyed in
    let at : slice_get (paths_registered registrations) (get_or numbers i 0) ≡ Some
    c.index.result.now =
    rw (
      get_or-map (λ (k : ℕ × ℕ). k.1) keyed i (0, 0) 0 c.loop-row-test.true,
      paths_are_keys _,
      ← c.keys-texts.ensures.rest,
    )
    c.index.ensures in
    let held = c.loop-row.invariant in
    record {
      paths = paths_more _ _ i _ _
          _
          (omega (arith, c.loop-row-test.true, length-map keyed (λ (k : ℕ × ℕ). k.1)))
          held.paths at
          (rw c.in_ok-copy.ensures.same at c.push_reserved.ensures.items);
      count = omega (arith, held.count, c.push_reserved.ensures.len);
      room = c.push_reserved.ensures.capacity ∙ held.room;
    }
