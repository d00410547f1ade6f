-- The list that was just made.
use Rattle.thread_tests.proofs.views.asked_under_the_books_lock.Given as goal

abbrev pub ghosts-asked : goal.ghosts-asked
ghosts-asked g a = record { book = a.name }
