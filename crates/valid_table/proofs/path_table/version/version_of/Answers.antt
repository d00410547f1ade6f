use Rattle.valid_table.proofs.Versions.{no_version}
use Rattle.valid_table.proofs.path_table.version.version_of.Goals as goal

pub returns : goal.returns
returns c =
    no_version _ c.in_default.ensures c.in_default-after_line.ensures
    c.in_default-after_line-2.ensures
