use Rattle.std.proofs.Common.{◌∙◌}
use Rattle.valid_table.proofs.Keys.{first_row_folder}
use Rattle.valid_table.proofs.path_table.order.folder_of.Goals as goal

pub returns-in-Some : goal.returns-in-Some
returns-in-Some c = c.folder_part.ensures ∙ first_row_folder _ _ _ c.in-Some.ensures.entry
