use Rattle.std.proofs.Common.{◌∙◌, ap, length, sym, rules}
use Rattle.std.proofs.lemmas.Result.{IfErr-weaker}
use Rattle.std.proofs.lemmas.List.{length-map}
use Rattle.nix_drv.specs.Parts.{output_of}
use Rattle.drv_graph.specs.private.Checking.{PathFits}
use Rattle.drv_graph.proofs.Checks.{env_is_value, fit_moved, on_ok, path_is_value}
use Rattle.drv_graph.proofs.Ends.{err_is}
use Rattle.drv_graph.proofs.outputs.values.check_values.Goals as goal

pub returns-in_err-check_paths-clause-err : goal.returns-in_err-check_paths-clause-err
returns-in_err-check_paths-clause-err c = search (rules, err_is, path_is_value)

pub returns-clause-paths : goal.returns-clause-paths
returns-clause-paths c =
    on_ok _ _
    (fit_moved (PathFits _) _
    _ _ _ _ c.outputs.ensures
    (sym (length-map _ output_of) ∙ ap length c.outputs.ensures)
    c.in_ok-check_paths.ensures.ok)

pub returns-clause-err : goal.returns-clause-err
returns-clause-err c = IfErr-weaker _ _ _
    (λ fault h. env_is_value _ c.args.drv.now _ fault
    (fit_moved (PathFits _) _
    _ _ _ _ c.outputs.ensures
    (sym (length-map _ output_of) ∙ ap length c.outputs.ensures)
    c.in_ok-check_paths.ensures.ok) h) c.check_env.ensures.err
