use Rattle.std.proofs.Common.{◌<◌, arith, length, refl, rules}
use Rattle.std.proofs.lemmas.Option.{slice_get_read, slice_get_within}
use Rattle.build_outcome.proofs.Linkages.{links_more, links_none}
use Rattle.build_outcome.proofs.links.fill_links.Goals as goal
use Rattle.build_outcome.proofs.links.fill_links.Goals.{in-Some+in_ok-add_links, in_default}
use Rattle.nix_names.proofs.Lists.{Contains-from_get}

pub loop-n-init : goal.loop-n-init
loop-n-init c = search (rules, links_none)

pub index_mut-requires : goal.index_mut-requires
index_mut-requires c =
    omega (
      arith,
      slice_get_within c.args.paths.now.keys c.in-Some.from _ c.in-Some.ensures,
      c.loop-n.invariant.lengths,
    )

pub loop-n-preserved : goal.loop-n-preserved
loop-n-preserved c =
    let below : c.loop-n.n < length c.args.outputs.now =
    omega (arith, c.loop-n-test.true, c.requires.same) in
    let path_at = slice_get_read _ _ _
    _ refl below c.index-outputs-n.is in
    let info_at = slice_get_read _ _ _
    _ refl c.loop-n-test.true c.index-records-n.is in
    elim c.match-index_of.branch [
      | in-Some+in_ok-add_links w ↦
          let index : w.in-Some.from < length c.loop-n.links.items =
          omega (
            arith,
            slice_get_within c.args.paths.now.keys w.in-Some.from _
                w.in-Some.ensures,
            c.loop-n.invariant.lengths,
          ) in
          let own_at = slice_get_read _ _
          _ _ refl index w.index_mut.ensures.value in
          let adds = rw w.references.ensures.value at w.in_ok-add_links.ensures in
          links_more _ c.args.records.now c.args.paths.now.keys c.loop-n.n
          c.loop-n.links.items c.match-index_of.links.items
          c.index-outputs-n.result c.index-records-n.result w.in-Some.from w.index_mut.result.now
          w.add_links.new.own c.requires.once c.loop-n.invariant path_at info_at
          w.in-Some.ensures own_at adds (rw w.links-is refl)
      | in_default w ↦ absurd
          (w.in_default.ensures
          ((c.requires.once.same c.index-outputs-n.result).1
          (Contains-from_get c.args.outputs.now c.loop-n.n c.index-outputs-n.result path_at)))
    ]
