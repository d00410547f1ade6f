use Rattle.std.proofs.Common.{◌<◌, arith, length}
use Rattle.std.proofs.lemmas.Option.{slice_get-get_or, slice_get_within}
use Rattle.build_outcome.proofs.RootPaths.{met_told, not_met}
use Rattle.build_outcome.proofs.checks.roots.is_met.Goals as goal

pub bounds-marks-index : goal.bounds-marks-index
bounds-marks-index c =
    omega (
      arith,
      slice_get_within c.args.keys.now.keys c.in-Some.index _ c.in-Some.ensures,
      c.requires.same,
    )

pub returns-in-Some : goal.returns-in-Some
returns-in-Some c =
    let low : c.in-Some.index < length c.args.marks.now = omega (
      arith,
      slice_get_within c.args.keys.now.keys c.in-Some.index _ c.in-Some.ensures,
      c.requires.same,
    ) in
    met_told _ _ _ _ _ c.requires.once c.in-Some.ensures
    (slice_get-get_or _ _ _ low)

pub returns-in-None : goal.returns-in-None
returns-in-None c = not_met _ _ _ c.in-None.ensures
