use Rattle.std.proofs.Common.{◌≡◌, map}
use Rattle.std.specs.List.{range_with_len}
use Rattle.nix_realise.proofs.CauseLines.{mark_of}
use Rattle.nix_realise.proofs.words.cause_lines.refused_marks.Given as goal

-- the marks of the derivations so far
abbrev pub invariant-loop-number : goal.invariant-loop-number
invariant-loop-number l =
    l.marks.items ≡ map (mark_of l.wanted.items l.preconditions.items) (range_with_len 0 l.number)
