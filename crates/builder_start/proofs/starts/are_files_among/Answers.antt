use Rattle.std.proofs.Common.{◌∙◌, ap, sym}
use Rattle.std.proofs.lemmas.Bool.{false≢true}
use Rattle.nix_names.specs.Names.{is_drv_name}
use Rattle.builder_start.proofs.GraphStarts.{files_all, files_more}
use Rattle.builder_start.proofs.starts.are_files_among.Goals as goal
use Rattle.builder_start.proofs.starts.are_files_among.Goals.{else-is_drv_name-via-then-is_drv_name+else-not-is_among, else-is_drv_name-via-else-is_drv_name}

pub paths-preserved : goal.paths-preserved
paths-preserved c =
    files_more c.args.paths.now c.args.files.now c.paths.path-index c.path-item.result
    c.paths-test.true c.path-item.is c.paths.invariant
    (elim c.else-is_drv_name.branch [
      | else-is_drv_name-via-then-is_drv_name+else-not-is_among w ↦
          (λ drv. w.is_among.ensures.0 w.if-not-is_among.false)
      | else-is_drv_name-via-else-is_drv_name w ↦
          (λ drv. absurd (false≢true (sym w.if-is_drv_name.false ∙ c.is_drv_name.ensures
          ∙ ap is_drv_name c.name.ensures.value ∙ drv)))
    ])

pub returns : goal.returns
returns c =
    files_all c.args.paths.now c.args.files.now c.paths.path-index c.paths-test.false
    c.paths.invariant
