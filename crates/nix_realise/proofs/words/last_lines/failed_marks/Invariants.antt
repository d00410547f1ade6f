use Rattle.std.proofs.Common.{◌≡◌, map}
use Rattle.std.specs.List.{range_with_len}
use Rattle.run_states.specs.Runs.{state_in}
use Rattle.nix_realise.specs.LastLines.{is_failed}
use Rattle.nix_realise.proofs.words.last_lines.failed_marks.Given as goal

-- the marks of the derivations so far
abbrev pub invariant-loop-number : goal.invariant-loop-number
invariant-loop-number g l =
    l.marks.items
    ≡ map (λ d. is_failed (state_in l.book.run l.book.history d)) (range_with_len 0 l.number)
