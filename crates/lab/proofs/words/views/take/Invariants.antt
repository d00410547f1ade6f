-- The list that was just made.
use Rattle.lab.proofs.words.views.take.Given as goal

abbrev pub ghosts-opened : goal.ghosts-opened
ghosts-opened g a = record { book = a.name }
