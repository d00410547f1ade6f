use Rattle.std.proofs.Common.{arith}
use Rattle.sha2.proofs.Schedule256.{IsRoundsAt_at}
use Rattle.digest_lanes.proofs.rounds.sixteen_steps.Goals as goal

pub returns : goal.returns
returns c = λ j b h fits held.
    let s1 = c.four_steps-first.ensures j b h fits (IsRoundsAt_at b h _ _ _ _ (omega arith) held) in
    let s2 = c.four_steps-second.ensures j b h fits s1 in
    let s3 = c.four_steps-third.ensures j b h fits s2 in
    let s4 = c.four_steps-fourth.ensures j b h fits s3 in
    IsRoundsAt_at b h _ _ _ _ (omega arith) s4
