use Rattle.std.proofs.Common.{arith, subst, take, [], All, rules}
use Rattle.std.proofs.lemmas.List.{take_all}
use Rattle.std.proofs.lemmas.List.Elements.{All-push}
use Rattle.valid_table.specs.Tables.{registrations_of}
use Rattle.valid_table.specs.Valid.{IsValid}
use Rattle.valid_table.proofs.AddedRows.{adds_a_row}
use Rattle.valid_table.proofs.Roots.{first_not_valid}
use Rattle.valid_table.proofs.RowNumbers.{valid_from_row}
use Rattle.valid_table.proofs.reachability.closure.root_rows.Goals as goal
use Rattle.nix_names.proofs.Lists.{taken_more}

pub returns-in_default-clause-err : goal.returns-in_default-clause-err
returns-in_default-clause-err c = search (rules, first_not_valid)

pub loop-root-preserved : goal.loop-root-preserved
loop-root-preserved c =
    let registrations = registrations_of c.args.rows.now.entries in
    let roots = take c.loop-root.root-index c.args.roots.now in
    let root = c.root-item.result in
    rw (taken_more _ _ _ c.loop-root-test.true
    c.root-item.is)
    (record {
      valid = All-push (IsValid registrations) _ _ c.loop-root.invariant.valid
          (valid_from_row _ _ _ c.in-Some.ensures);
      added = adds_a_row _ [] roots root c.loop-root.found.rows _ c.in-Some.row
          c.loop-root.invariant.added c.in-Some.ensures c.in_ok-insert.ensures.rows
          c.insert.ensures.distinct;
      room = omega (arith, c.loop-root.invariant.room, c.insert.ensures.room);
    })

pub returns-clause-valid : goal.returns-clause-valid
returns-clause-valid c =
    subst (All (IsValid (registrations_of c.args.rows.now.entries)))
    (take_all c.loop-root.root-index c.args.roots.now c.loop-root-test.false)
    c.loop-root.invariant.valid
