use Rattle.valid_table.proofs.TableRows.{found_row}
use Rattle.valid_table.proofs.path_table.table.Table.get.Goals as goal

pub returns : goal.returns
returns c = rw (← c.self.view_is) (found_row _ _ _ c.get.ensures.value)
