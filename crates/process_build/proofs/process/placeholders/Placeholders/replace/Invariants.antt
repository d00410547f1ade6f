use Rattle.std.proofs.Common.{◌≤◌, ◌-◌, ℕ, List, ◌++◌, drop, length}
use Rattle.process_build.specs.Setups.{IsFilled}
use Rattle.process_build.proofs.process.placeholders.Placeholders.replace.Given as goal

-- what was passed is filled
abbrev pub invariant-loop-at : goal.invariant-loop-at
invariant-loop-at l = record {
  within : l.at ≤ length l.text;
  filled : (rest : List ℕ) → IsFilled l.self.outputs.now (drop l.at l.text) rest
      → IsFilled l.self.outputs.now l.text (l.filled.items ++ rest);
}

abbrev pub decreases-loop-at : goal.decreases-loop-at
decreases-loop-at l = length l.text - l.at
