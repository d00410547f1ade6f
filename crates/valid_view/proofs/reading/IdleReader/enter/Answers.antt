use Rattle.std.proofs.Common.{arith}
use Rattle.valid_view.proofs.Prefixes.{longer_begins}
use Rattle.valid_view.proofs.ShownTables.{looks}
use Rattle.valid_view.proofs.reading.IdleReader.enter.Goals as goal

pub enter_as-requires : goal.enter_as-requires
enter_as-requires g c x = looks g.J.ListId.book _ _ x

pub returns-clause-told : goal.returns-clause-told
returns-clause-told g c =
    longer_begins c.over-shown.result c.args.told.now c.one_begins_the_other.ensures
    (omega (arith, c.len.ensures.length, c.len-2.ensures.length, c.if-len.false))
