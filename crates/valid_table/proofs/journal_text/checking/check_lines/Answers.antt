use Rattle.std.proofs.Common.{ap, arith, length, rules}
use Rattle.valid_table.proofs.CheckedLines.{line_count_fits, line_count_more, open_here, right_after, twice_here, unknown_within}
use Rattle.valid_table.proofs.EnteredPaths.{closed_more}
use Rattle.valid_table.proofs.journal_text.checking.check_lines.Goals as goal

pub returns-then-index-new : goal.returns-then-index-new
returns-then-index-new c = search (rules, twice_here)

pub overflow_add-result : goal.overflow_add-result
overflow_add-result c = search (rules, line_count_fits)

pub overflow_add-result-in-Some : goal.overflow_add-result-in-Some
overflow_add-result-in-Some c =
    let fits = line_count_fits _ _
    _ c.loop-index-test.true c.index-registrations-index.is in
    let within = unknown_within
    _
    _ _ c.in-Some.ensures in
    omega (
      arith,
      c.requires.few,
      c.loop-index.invariant.number,
      ap length c.references-references.ensures.value,
    )

pub returns-in-Some : goal.returns-in-Some
returns-in-Some c =
    open_here _
    _ _ _ _
    _ _ _
    _ c.loop-index.invariant.new c.if-index-new.false c.loop-index-test.true
    c.index-registrations-index.is c.references-references.ensures.value
    c.loop-index.invariant.closed c.in-Some.ensures c.loop-index.invariant.number

pub overflow_add-line-in-loop-index : goal.overflow_add-line-in-loop-index
overflow_add-line-in-loop-index c = search (rules, line_count_fits)

pub loop-index-preserved : goal.loop-index-preserved
loop-index-preserved c =
    let rs = c.args.registrations.now in
    let more = line_count_more _ _ _
    c.loop-index-test.true c.index-registrations-index.is in
    record {
      new = let upto = c.loop-index.invariant.new in let other = c.if-index-new.false
          in omega arith;
      closed = closed_more
          _ _
          _ _ _
          c.loop-index.invariant.closed c.loop-index-test.true c.index-registrations-index.is
          c.references-references.ensures.value c.in_default.ensures;
      number = omega (
        arith,
        c.loop-index.invariant.number,
        ap length c.references-references.ensures.value,
      );
    }

pub returns : goal.returns
returns c = search (rules, right_after)
