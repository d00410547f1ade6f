use Rattle.ref_scan.proofs.Countings.{counts_hear_limits, counts_stay_past, counts_tell_limits}
use Rattle.ref_scan.proofs.laws.counts_hear_limits.Goals as goal

pub returns : goal.returns
returns c = record { tokens = counts_tell_limits; whole = counts_hear_limits; past = counts_stay_past }
