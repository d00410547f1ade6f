use Rattle.std.proofs.Common.{◌≡◌, ◌+◌, ◌%◌, arith, refl}
use Rattle.digest_lanes.proofs.LaneLemmas.{slice_index-lane}
use Rattle.digest_lanes.proofs.rounds.next_word.Goals as goal

pub returns-clause-value : goal.returns-clause-value
returns-clause-value c j h =
    let w = c.args.w.now in
    let p = c.args.place in
    let at : p % 16 ≡ p = omega arith in
    rw (
      slice_index-lane w j ((p + 14) % 16) (omega arith),
      slice_index-lane w j ((p + 9) % 16) (omega arith),
      slice_index-lane w j ((p + 1) % 16) (omega arith),
      slice_index-lane w j (p % 16) (omega arith),
      at,
      c.add-word.ensures j h,
      c.add.ensures j h,
      c.add-late.ensures j h,
      c.small_sigma0.ensures j h,
      c.small_sigma1.ensures j h,
    ) refl
