-- The list that was just made.
use Rattle.thread_tests.proofs.example.realised.Given as goal

abbrev pub ghosts-run_named : goal.ghosts-run_named
ghosts-run_named g a = record { book = a.name }
