use Rattle.std.proofs.Common.{◌++◌, ap}
use Rattle.nix_archive.specs.Archive.{magic}
use Rattle.nix_archive.proofs.Texts.{text_of_tree}
use Rattle.nix_archive.proofs.laws.events_write_archives.Goals as goal

pub returns : goal.returns
returns c = λ tree. ap (λ l. magic ++ l) (text_of_tree tree)
