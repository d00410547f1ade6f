use Rattle.nix_archive.proofs.Texts.{padding_is}
use Rattle.nix_archive.proofs.writer.put_padding.Goals as goal

pub returns : goal.returns
returns g c = rw (← padding_is c.args.size) c.put.ensures
