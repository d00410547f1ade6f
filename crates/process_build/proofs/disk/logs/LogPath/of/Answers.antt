use Rattle.std.proofs.Common.{◌++◌, ◌∙◌, ap, drop, inr, length, refl, sym}
use Rattle.std.proofs.lemmas.List.{take-append-drop}
use Rattle.process_build.proofs.disk.logs.LogPath.of.Goals as goal

pub returns-in_default-clause-err : goal.returns-in_default-clause-err
returns-in_default-clause-err c =
    let count = length c.args.store_dir.now in
    let rest = drop count c.args.drv.now in
    inr (
      refl,
      λ same. c.in_default.ensures.cases rest
          (c.as_str.ensures ∙ sym (take-append-drop count c.args.drv.now)
          ∙ ap (λ front. front ++ rest) same),
    )
