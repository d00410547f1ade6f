use Rattle.nix_archive.specs.Archive.{size_text}
use Rattle.nix_archive.proofs.writer.put_size.Goals as goal

pub returns : goal.returns
unfolding size_text
returns g c = rw (← c.to_le_bytes.ensures) c.put.ensures
