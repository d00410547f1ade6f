-- The list that was just made.
use Rattle.thread_tests.proofs.heard.heard_from.Given as goal

abbrev pub ghosts-heard_named : goal.ghosts-heard_named
ghosts-heard_named g a = record { book = a.name }
