use Rattle.std.proofs.Common.{arith, false, true, rules}
use Rattle.valid_table.specs.private.Entering.{IsPut}
use Rattle.valid_table.specs.Tables.{registrations_of}
use Rattle.valid_table.proofs.EnteredPaths.{prefix_all}
use Rattle.valid_table.proofs.EnteredRows.{put_all, put_more, put_paths, put_twice}
use Rattle.valid_table.proofs.path_table.rows.add_new.Goals as goal

pub loop-count-preserved : goal.loop-count-preserved
loop-count-preserved c =
    let put : IsPut (registrations_of c.loop-count.rows.entries)
    (registrations_of c.put_row.new.rows.entries) c.index-registrations-count.result false =
    rw (c.if-branch.false, c.in_ok-copy.ensures.ok) at c.in_ok-put_row.ensures in
    let more = put_more _ _
    _ _
    _ _ c.loop-count.invariant.rows
    c.loop-count.invariant.new c.loop-count-test.true c.index-registrations-count.is put in
    record { rows = more.0; new = more.1 }

pub returns-then-branch : goal.returns-then-branch
returns-then-branch c =
    let put : IsPut (registrations_of c.loop-count.rows.entries)
    (registrations_of c.put_row.new.rows.entries) c.index-registrations-count.result true =
    rw (c.if-branch.true, c.in_ok-copy.ensures.ok) at c.in_ok-put_row.ensures in
    let twice = put_twice _ _
    _ _
    _ _ c.requires.rising
    c.loop-count.invariant.rows c.loop-count.invariant.new c.loop-count-test.true
    c.index-registrations-count.is put in
    record {
      prefix = twice.0;
      paths = twice.1;
      whole = λ long. absurd (omega (arith, long, c.loop-count-test.true));
    }

pub returns-clause-prefix : goal.returns-clause-prefix
returns-clause-prefix c = search (rules, prefix_all)

pub returns-clause-paths : goal.returns-clause-paths
returns-clause-paths c = search (rules, put_paths)

pub returns-clause-whole : goal.returns-clause-whole
returns-clause-whole c = search (rules, put_all)
