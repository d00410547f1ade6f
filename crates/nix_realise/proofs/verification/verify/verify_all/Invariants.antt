use Rattle.std.proofs.Common.{take}
use Rattle.nix_realise.specs.Verifying.{AreLines}
use Rattle.nix_realise.proofs.verification.verify.verify_all.Given as goal

-- the lines so far are those of the paths so far
abbrev pub invariant-loop-path : goal.invariant-loop-path
invariant-loop-path g l =
    AreLines l.journal (take l.path-index l.paths) l.lines.items l.status
