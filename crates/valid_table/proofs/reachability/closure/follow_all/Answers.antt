use Rattle.std.proofs.Common.{◌≡◌, ◌<◌, ◌∙◌, ap, arith, get_or, length, List, ℕ, rules}
use Rattle.std.proofs.lemmas.List.{get_or_default}
use Rattle.valid_table.proofs.Following.{few_rows, followed_all, followed_more, followed_none, row_below}
use Rattle.valid_table.proofs.RowNumbers.{row_count}
use Rattle.valid_table.proofs.reachability.closure.follow_all.Goals as goal

pub loop-next-init : goal.loop-next-init
loop-next-init c = search (rules, followed_none)

pub loop-next-smaller : goal.loop-next-smaller
loop-next-smaller c = search (rules, few_rows)

pub follow-requires-clause-within : goal.follow-requires-clause-within
follow-requires-clause-within c = search (rules, row_below, row_count)

pub loop-next-preserved : goal.loop-next-preserved
loop-next-preserved c =
    let found = c.loop-next.found.rows in
    let next = c.loop-next.next in
    let row = get_or c.rows-in-loop-next.result.now next 0 in
    let within : next < length found = omega (
      arith,
      c.loop-next-test.true,
      ap length c.rows.ensures,
    ) in
    let at : row ≡ get_or found next row =
    ap (λ (numbers : List ℕ). get_or numbers next 0) c.rows-in-loop-next.ensures
    ∙ get_or_default found next 0 row within in
    let adds = c.in_ok-follow.ensures.adds in
    record {
      followed = followed_more _ c.requires.once
          _ _ _ _ _ _
          c.loop-next.invariant.followed within at adds.registers adds.adds;
      room = omega (arith, c.loop-next.invariant.room, c.follow.ensures.room);
    }

pub returns : goal.returns
returns c = followed_all _ _
    _ _ c.loop-next.invariant.followed
    (omega (arith, c.loop-next-test.false, ap length c.rows.ensures))
