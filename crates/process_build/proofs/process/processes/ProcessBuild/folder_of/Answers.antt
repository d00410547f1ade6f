use Rattle.std.proofs.Common.{◌∙◌, Err, Ok, Result, ap, subst, sym}
use Rattle.std.specs.Prelude.{IfOk}
use Rattle.process_build.specs.Folders.{nix_folder_of}
use Rattle.process_build.specs.Leases.{drv_name}
use Rattle.process_build.specs.private.Preparations.{IsFolderOf}
use Rattle.process_build.proofs.process.processes.ProcessBuild.folder_of.Goals as goal

-- three facts of a value give a fourth
all : {A E : Type 0} (r : Result A E) (P Q R S : A → Type 0) → ((a : A) → P a → Q a → R a → S a)
    → IfOk r P → IfOk r Q → IfOk r R → IfOk r S
all (Ok a) P Q R S more first second third = more a first second third
all (Err e) P Q R S more first second third = first

pub returns-in_ok-drv-in-Nix-clause-ok : goal.returns-in_ok-drv-in-Nix-clause-ok
returns-in_ok-drv-in-Nix-clause-ok g c =
    let own = c.args.self.now.options in
    let drv = c.in_ok-drv-in-Nix.drv.now in
    subst (λ p. IfOk c.fresh_folder.result (IsFolderOf own c.args.number c.args.job.now p))
    (sym c.in-Nix.is)
    (all c.fresh_folder.result _ _ _ _
    (λ folder number suffix path. (
      drv,
      number,
      c.in_ok-drv-in-Nix.ensures.ok,
      suffix,
      path ∙ ap (λ dir. nix_folder_of dir (drv_name drv) folder.suffix) c.build_dir.ensures,
    ))
    c.fresh_folder.ensures.number c.fresh_folder.ensures.suffix c.fresh_folder.ensures.path)
