use Rattle.std.proofs.Common.{ℕ, List, ◌++◌, drop, take}
use Rattle.process_build.specs.Setups.{IsFilled}
use Rattle.process_build.proofs.process.placeholders.Placeholders.are_in.Given as goal

-- what was passed stays as it is
abbrev pub invariant-loop-at : goal.invariant-loop-at
invariant-loop-at l = (rest : List ℕ) → IsFilled l.self.outputs.now (drop l.at l.text) rest
    → IsFilled l.self.outputs.now l.text (take l.at l.text ++ rest)
