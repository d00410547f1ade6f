use Rattle.std.proofs.Common.{◌∙◌, ap, if◌then◌else◌, sym}
use Rattle.std.specs.Prelude.{bytes_eq}
use Rattle.nix_drv.specs.Parts.{entry_of}
use Rattle.process_build.proofs.Mapped.{value_more}
use Rattle.process_build.proofs.process.values.value_in.Goals as goal

pub loop-entry-preserved : goal.loop-entry-preserved
loop-entry-preserved c =
    let e = c.entry-item.result in
    let key = c.args.key.now in
    c.value_or-value.ensures
    ∙ ap (λ v. if bytes_eq (entry_of e).key key then (entry_of e).value else v)
    c.loop-entry.invariant
    ∙ sym (value_more key c.args.entries.now c.loop-entry.entry-index e c.loop-entry-test.true
    c.entry-item.is)
