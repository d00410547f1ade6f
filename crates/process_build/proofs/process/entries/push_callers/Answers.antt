use Rattle.std.proofs.Common.{map}
use Rattle.nix_drv.specs.Parts.{entry_of}
use Rattle.process_build.specs.Setups.{caller_entry}
use Rattle.process_build.specs.private.RawVars.{entry_of_raw}
use Rattle.process_build.proofs.Mapped.{mapped_after}
use Rattle.process_build.proofs.process.entries.push_callers.Goals as goal

pub loop-name-preserved : goal.loop-name-preserved
loop-name-preserved c =
    mapped_after entry_of_raw (caller_entry (map entry_of c.args.caller.now)) (λ n. n.now)
    c.args.entries.now.items c.loop-name.entries.items _ _ c.args.names.now c.loop-name.name-index _
    c.loop-name-test.true c.in_ok-push.ensures.items c.loop-name.invariant c.caller_var.ensures
