use Rattle.std.proofs.Common.{take}
use Rattle.std.specs.List.{AllZip}
use Rattle.process_build.specs.private.Placeholders.{IsPlaceholder}
use Rattle.process_build.proofs.process.placeholders.Placeholders.of.Given as goal

-- the placeholders so far are made
abbrev pub invariant-loop-output : goal.invariant-loop-output
invariant-loop-output l = AllZip IsPlaceholder (take l.output-index l.outputs) l.all.items
