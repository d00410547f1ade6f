use Rattle.nix_names.specs.Rising.{IsRising}
use Rattle.lab.proofs.rising.rising.Given as goal

abbrev pub invariant-loop-path : goal.invariant-loop-path
invariant-loop-path l = IsRising l.first.items
