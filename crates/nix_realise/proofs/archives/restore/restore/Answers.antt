use Rattle.nix_realise.proofs.Restoring.{stop_ends}
use Rattle.nix_realise.proofs.archives.restore.restore.Goals as goal

pub returns-in-Err : goal.returns-in-Err
returns-in-Err g c =
    rw c.stop_of.ensures
    (stop_ends c.args.request.now (g.I.Read.remaining c.args.input.now)
    (g.I.Read.remaining c.read_archive.new.input) c.in-Err.fault c.in-Err.ensures.err)
