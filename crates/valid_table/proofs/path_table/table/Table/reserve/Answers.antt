use Rattle.valid_table.proofs.path_table.table.Table.reserve.Goals as goal

pub invariant_of-self : goal.invariant_of-self
invariant_of-self c =
    rw c.reserve.ensures.entries (
      c.self.invariant.0,
      c.self.invariant.1,
      c.link.ensures,
      c.extend.ensures.first,
      c.extend.ensures.keys,
    )

pub invariant_of-self-2 : goal.invariant_of-self-2
invariant_of-self-2 c =
    rw c.reserve.ensures.entries (
      c.self.invariant.0,
      c.self.invariant.1,
      c.link.ensures,
      c.extend.ensures.first,
      c.extend.ensures.keys,
    )
