use Rattle.std.proofs.Common.{take}
use Rattle.nix_realise.specs.private.CheckGroups.{AreLinesOf}
use Rattle.nix_realise.proofs.queries.check.Report.add_group.Given as goal

abbrev pub invariant-loop-i : goal.invariant-loop-i
invariant-loop-i l = AreLinesOf l.dir (take l.i l.asked) l.fn.self.lines.items l.fn.self.status
    l.self.lines.items l.self.status
