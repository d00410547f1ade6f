use Rattle.std.proofs.Common.{arith, refl}
use Rattle.std.proofs.lemmas.Option.{slice_get_read, slice_get_within}
use Rattle.nix_names.proofs.Lists.{Contains-from_get}
use Rattle.build_outcome.proofs.Linkages.{links_inner_of}
use Rattle.build_outcome.proofs.RootPaths.{roots_among_told}
use Rattle.build_outcome.proofs.checks.roots.roots_among.Goals as goal

pub unreachable-requires : goal.unreachable-requires
unreachable-requires c =
    c.in_default.ensures ((c.in_ok-keys.ensures.same c.index-outputs-n.result).1
    (Contains-from_get c.args.outputs.now c.args.n c.index-outputs-n.result
    (slice_get_read _ _ _ _ refl c.requires.within c.index-outputs-n.is)))

pub reached_from-requires-clause-inner : goal.reached_from-requires-clause-inner
reached_from-requires-clause-inner c =
    rw c.deref.ensures.value (links_inner_of _ _ _ _ _ c.in_ok-keys.ensures c.in_ok-links.ensures)

pub reached_from-requires-clause-within : goal.reached_from-requires-clause-within
reached_from-requires-clause-within c =
    rw c.deref.ensures.value
    (omega (
      arith,
      slice_get_within c.in_ok-keys.keys.keys c.in-Some.start _ c.in-Some.ensures,
      c.in_ok-links.ensures.lengths,
    ))

pub paths_met-requires-clause-same : goal.paths_met-requires-clause-same
paths_met-requires-clause-same c =
    rw (c.deref-2.ensures.value, c.in_ok-marks.ensures.count, c.deref.ensures.value)
    c.in_ok-links.ensures.lengths

pub paths_met-requires-clause-once : goal.paths_met-requires-clause-once
paths_met-requires-clause-once c = c.in_ok-keys.ensures.distinct

pub paths_outside-requires-clause-same : goal.paths_outside-requires-clause-same
paths_outside-requires-clause-same c =
    rw (c.deref-3.ensures.value, c.in_ok-marks.ensures.count, c.deref.ensures.value)
    c.in_ok-links.ensures.lengths

pub paths_outside-requires-clause-once : goal.paths_outside-requires-clause-once
paths_outside-requires-clause-once c = c.in_ok-keys.ensures.distinct

pub returns : goal.returns
returns c =
    let reached = rw c.deref.ensures.value at c.in_ok-marks.ensures in
    let met = rw c.deref-2.ensures.value at c.in_ok-met.ensures in
    let outside = rw c.deref-3.ensures.value at c.in_ok-outside.ensures in
    roots_among_told c.args.outputs.now c.args.records.now c.in_ok-keys.keys.keys
    c.in_ok-links.links.items c.in-Some.start c.in_ok-marks.marks.items c.args.n
    c.index-outputs-n.result
    c.in_ok-keys.ensures c.in_ok-links.ensures c.in-Some.ensures
    (slice_get_read _ _ _ _ refl c.requires.within c.index-outputs-n.is)
    reached _ _ _ _ met outside c.sort_paths.ensures.rising c.sort_paths.ensures.same
    c.sort_paths-2.ensures.rising c.sort_paths-2.ensures.same
