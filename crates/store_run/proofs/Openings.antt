-- The entries of a legal history begin with those that it opened with.
use Rattle.std.proofs.Common.{◌≡◌, length, take, rules}
use Rattle.std.proofs.Math.Seq.{take-append_seam}
use Rattle.run_states.specs.Legal.{IsLegal}
use Rattle.run_states.specs.Runs.{History, Run}
use Rattle.run_states.proofs.Seeds.{opened_with}

-- as many of the first entries as it opened with are those
pub opening_is_taken : (run : Run) (history : History) → IsLegal run history
    → take (length history.opening) history.entries ≡ history.opening
opening_is_taken run history legal = search (rules, opened_with, take-append_seam)
