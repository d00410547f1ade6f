-- The list that was just made.
use Rattle.thread_tests.proofs.views.crowd_beside_a_writer.Given as goal

abbrev pub ghosts-crowded : goal.ghosts-crowded
ghosts-crowded g a = record { book = a.name }
