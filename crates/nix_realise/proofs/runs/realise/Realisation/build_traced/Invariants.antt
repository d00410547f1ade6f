-- The list that was just made.
use Rattle.nix_realise.proofs.runs.realise.Realisation.build_traced.Given as goal

abbrev pub ghosts-build : goal.ghosts-build
ghosts-build g a = record { book = a.name }
