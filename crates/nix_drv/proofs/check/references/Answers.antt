use Rattle.std.proofs.Common.{◌≡◌, sym, rules}
use Rattle.std.proofs.lemmas.List.Filters.{dedup_is}
use Rattle.std.proofs.lemmas.Result.{err_from_is_err_and}
use Rattle.nix_drv.specs.OwnPath.{referenced_paths}
use Rattle.nix_drv.proofs.CheckedOrder.{references_from}
use Rattle.nix_drv.proofs.CheckedPaths.{all_good, inputs_fault, paths_are, sources_fault}
use Rattle.nix_drv.proofs.check.references.Goals as goal

pub returns-in_err-add_paths-clause-err : goal.returns-in_err-add_paths-clause-err
returns-in_err-add_paths-clause-err c = search (rules, err_from_is_err_and, inputs_fault)

pub returns-in_err-add_paths-2-clause-err : goal.returns-in_err-add_paths-2-clause-err
returns-in_err-add_paths-2-clause-err c = search (rules, err_from_is_err_and, sources_fault)

pub returns-clause-ok : goal.returns-clause-ok
returns-clause-ok c =
    let pushed : c.add_paths-2.new.refs.items ≡ referenced_paths c.args.drv.now =
    rw (
      c.in_ok-add_paths-2.ensures.added,
      c.in_ok-add_paths.ensures.added,
      c.new-refs.ensures.items,
    ) (sym (paths_are _ _ _ c.inputs.ensures c.sources.ensures)) in (
      all_good _ _ _ _ c.inputs.ensures c.sources.ensures c.in_ok-add_paths.ensures.good
          c.in_ok-add_paths-2.ensures.good,
      references_from _ _ _ _ pushed
          c.sort_unstable.ensures.permutation
          c.sort_unstable.ensures.sorted (dedup_is _ _ _ c.dedup.ensures.filtered),
    )
