use Rattle.std.proofs.Common.{◌∙◌, rules, sym, arith}
use Rattle.valid_table.proofs.Merged.{first_and_rest, least_equal, least_greater, least_less}
use Rattle.valid_table.proofs.path_table.union.least.Goals as goal

pub returns-in-Less : goal.returns-in-Less
returns-in-Less c =
    least_less _ _ _ _ _ _
    (first_and_rest c.args.left.now c.path-item-2.result (first_of (grind arith, search rules))
    c.path-item-2.is)
    (first_and_rest c.args.right.now c.other-item.result (first_of (grind arith, search rules))
    c.other-item.is)
    (sym c.cmp.ensures ∙ c.in-Less.is)

pub returns-in-Equal : goal.returns-in-Equal
returns-in-Equal c =
    least_equal _ _ _ _ _ _
    (first_and_rest c.args.left.now c.path-item-2.result (first_of (grind arith, search rules))
    c.path-item-2.is)
    (first_and_rest c.args.right.now c.other-item.result (first_of (grind arith, search rules))
    c.other-item.is)
    (sym c.cmp.ensures ∙ c.in-Equal.is)

pub returns-in-Greater : goal.returns-in-Greater
returns-in-Greater c =
    least_greater _ _ _ c.other-item.result _ _
    (first_and_rest c.args.left.now c.path-item-2.result (first_of (grind arith, search rules))
    c.path-item-2.is)
    (first_and_rest c.args.right.now c.other-item.result (first_of (grind arith, search rules))
    c.other-item.is)
    (sym c.cmp.ensures ∙ c.in-Greater.is)
