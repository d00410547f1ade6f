use Rattle.std.proofs.Common.{rules}
use Rattle.std.proofs.lemmas.Slice.Eq.{strip_prefix_is}
use Rattle.valid_table.proofs.Versions.{stripped}
use Rattle.valid_table.proofs.path_table.version.Version.after_line.Goals as goal

pub returns : goal.returns
returns c = search (rules, stripped, strip_prefix_is)
