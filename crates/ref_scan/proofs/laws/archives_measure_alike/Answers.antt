use Rattle.ref_scan.proofs.ArchivedMeasures.{measured_alike}
use Rattle.ref_scan.proofs.laws.archives_measure_alike.Goals as goal

pub returns : goal.returns
returns c = measured_alike
