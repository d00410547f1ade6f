use Rattle.std.proofs.Common.{◌∙◌, ap, map}
use Rattle.nix_drv.specs.Parts.{entry_of}
use Rattle.process_build.specs.Setups.{entry_under_nix}
use Rattle.process_build.specs.private.RawVars.{entry_of_raw}
use Rattle.process_build.proofs.Mapped.{mapped_after}
use Rattle.process_build.proofs.process.entries.push_own.Goals as goal

pub loop-entry-preserved : goal.loop-entry-preserved
loop-entry-preserved c =
    let set = entry_under_nix c.args.folder.now (map (λ f. f.now) c.args.files.now) in
    mapped_after entry_of_raw set entry_of c.args.entries.now.items c.loop-entry.entries.items _ _
    c.args.own.now c.loop-entry.entry-index c.entry-item.result c.loop-entry-test.true
    c.in_ok-push.ensures.items c.loop-entry.invariant
    (c.in_ok-own_var.ensures.var ∙ ap (λ e. set (entry_of e)) c.entry-item.is)
