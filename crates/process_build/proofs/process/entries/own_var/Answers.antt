use Rattle.std.proofs.Common.{◌∙◌, ap, ap₂, sym}
use Rattle.std.specs.Prelude.{bytes_eq}
use Rattle.std.specs.List.{list_any}
use Rattle.nix_drv.specs.Parts.{entry_of}
use Rattle.process_build.specs.Setups.{entry}
use Rattle.process_build.proofs.Mapped.{if_ok, under_no, under_yes}
use Rattle.process_build.proofs.process.entries.own_var.Goals as goal

pub returns-then-is_among-clause-var : goal.returns-then-is_among-clause-var
returns-then-is_among-clause-var c =
    if_ok c.file_var.result _ _
    (λ var same. same ∙ under_yes c.args.folder.now c.args.files.now
    c.deref-then-is_among.result.now (entry_of c.args.own.now) c.deref-then-is_among.ensures.value
    (ap (λ k. list_any (λ n. bytes_eq n.now k) c.args.files.now)
    (c.deref-then-is_among.ensures.value ∙ sym c.deref.ensures.value)
    ∙ sym c.is_among.ensures ∙ c.if-is_among.true))
    c.file_var.ensures.var

pub returns-clause-var : goal.returns-clause-var
returns-clause-var c =
    ap₂ entry c.deref-2.ensures.value c.deref-3.ensures.value
    ∙ under_no c.args.folder.now c.args.files.now c.deref.result.now (entry_of c.args.own.now)
    c.deref.ensures.value (sym c.is_among.ensures ∙ c.if-is_among.false)
