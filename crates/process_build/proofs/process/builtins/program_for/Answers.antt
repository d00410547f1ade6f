use Rattle.std.proofs.Common.{◌∙◌, ap, if◌then◌else◌, sym}
use Rattle.std.specs.Prelude.{bytes_eq}
use Rattle.process_build.specs.Setups.{entry_of_builtin}
use Rattle.process_build.proofs.Mapped.{program_more}
use Rattle.process_build.proofs.process.builtins.program_for.Goals as goal

pub loop-builtin-preserved : goal.loop-builtin-preserved
loop-builtin-preserved c =
    let e = c.builtin-item.result in
    let builder = c.args.builder.now in
    c.program_or-program.ensures
    ∙ ap (λ v. if bytes_eq (entry_of_builtin e).key builder then (entry_of_builtin e).value else v)
    c.loop-builtin.invariant
    ∙ sym (program_more builder c.args.builtins.now c.loop-builtin.builtin-index e
    c.loop-builtin-test.true c.builtin-item.is)
