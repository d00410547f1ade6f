use Rattle.ref_scan.proofs.Belows.{one_archive}
use Rattle.ref_scan.proofs.laws.archive_is_one.Goals as goal

pub returns : goal.returns
returns c = one_archive
