use Rattle.std.proofs.Common.{◌∙◌, take}
use Rattle.valid_table.specs.Tables.{registrations_of}
use Rattle.valid_table.proofs.AddedRows.{adds_a_row, adds_no_row}
use Rattle.valid_table.proofs.reachability.closure.add_rows.Goals as goal
use Rattle.valid_table.proofs.reachability.closure.add_rows.Goals.{in-Some+in_ok-insert, in_default}
use Rattle.nix_names.proofs.Lists.{taken_more}

pub loop-path-preserved : goal.loop-path-preserved
loop-path-preserved c =
    let registrations = registrations_of c.args.rows.now.entries in
    let paths = take c.loop-path.path-index c.args.paths.now in
    let before = c.loop-path.invariant in
    rw (taken_more _ _ _ c.loop-path-test.true
    c.path-item.is)
    (elim c.match-row_of.branch [
      | in-Some+in_ok-insert w ↦
          rw w.found-is
          (record {
            adds = adds_a_row _ _ _ _
                _ _ _ before.adds w.in-Some.ensures
                w.in_ok-insert.ensures.rows w.insert.ensures.distinct;
            room = w.insert.ensures.room ∙ before.room;
          })
      | in_default w ↦ rw w.found-is
          (record {
            adds = adds_no_row _ _ _ _
                _ before.adds w.in_default.ensures;
            room = before.room;
          })
    ])
