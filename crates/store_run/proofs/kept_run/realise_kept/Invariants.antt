-- The run of the book that was just opened.
use Rattle.std.proofs.Common.{◌≡◌}
use Rattle.store_run.proofs.kept_run.realise_kept.Given as goal

abbrev pub ghosts-run_kept : goal.ghosts-run_kept
ghosts-run_kept g a = record {
  is_this_run = λ run opening. (run ≡ a.book.run) × (opening ≡ a.book.history.opening);
}
