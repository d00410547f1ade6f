use Rattle.std.proofs.Common.{arith, refl, sym}
use Rattle.sha2.proofs.Schedule256.{rounds_first}
use Rattle.digest_lanes.proofs.LaneLemmas.{slice_index-lane}
use Rattle.digest_lanes.specs.private.Lanes.{lane}
use Rattle.digest_lanes.proofs.rounds.first_step.Goals as goal

pub returns : goal.returns
returns c = λ j b h fits window held.
    rounds_first b h (lane j c.args.w.now) (lane j c.args.v) c.args.t _ _ _ c.requires window held refl
    (sym (slice_index-lane c.args.w.now j c.args.t (omega arith))) (c.round.ensures j fits)
