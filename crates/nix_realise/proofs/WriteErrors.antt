-- How a run of `realise` ends where the journal can't be written, or isn't.
use Rattle.std.proofs.Common.{◌≡◌, ◌≤◌, ◌<◌, ◌⊎◌, inl, inr, subst, sym, ℕ, false, true, List, Option, Err}
use Rattle.std.proofs.Math.Nat.{not-le_of_lt}
use Rattle.std.specs.Prelude.{length}
use Rattle.sched_core.specs.Books.{Ledger}
use Rattle.valid_table.specs.Written.{written_text}
use Rattle.process_build.specs.declared.failures.Failure.{Failure}
use Rattle.process_build.specs.declared.failures.Failure.TheVariants as failure
use Rattle.command_line.specs.declared.options.RealiseRequest.{RealiseRequest}
use Rattle.nix_realise.specs.Building.{IsNoFolder}
use Rattle.nix_realise.specs.JournalFiles.{IsUnwrittenJournal, journal_stop, max_journal_len}
use Rattle.nix_realise.specs.JournalFiles.{unwritten_stop}
use Rattle.nix_realise.specs.Realising.{BookEnds, HasShortText, IsNotBegun}
use Rattle.nix_realise.specs.declared.io.journal_write.UnwrittenJournal.{UnwrittenJournal}
use Rattle.nix_realise.specs.declared.io.journal_write.UnwrittenJournal.TheVariants as journal_fault
use Rattle.nix_realise.specs.declared.cli.run_error.RunError.{RunError}
use Rattle.nix_realise.specs.declared.cli.run_error.RunError.TheVariants.{JournalNotWritten, NoMemory}

-- the fault of the journal's trial is what the run ends with
pub not_begun : (request : RealiseRequest) (stop : RunError)
    → (stop ≡ NoMemory) ⊎ (stop ≡ JournalNotWritten) → IsNotBegun request stop
not_begun request stop (inl memory) = inr (subst (IsNoFolder request.logs) (sym memory) tt)
not_begun request stop (inr journal) = inl journal

-- no number is within the limit and past it
pub never_both : (n : ℕ) → n ≤ max_journal_len → max_journal_len < n → true ≡ false
never_both n short long = absurd (not-le_of_lt long short)

-- a text is not too long whose bytes were written
pub short_text : (bytes text : List ℕ) → length bytes ≤ max_journal_len → bytes ≡ text
    → length text ≤ max_journal_len
short_text bytes text short same =
    subst (λ (t : List ℕ). length t ≤ max_journal_len) same short

-- the journal's file can't be written, whose text is not too long
file_refused : (request : RealiseRequest) (book : Ledger) (before after : Option (List ℕ))
    (failure : Failure)
    → after ≡ before → HasShortText book
    → BookEnds request book before after (Err (journal_stop failure))
file_refused request book before after failure.NoMemory same short = same
file_refused request book before after failure same short = (same, short)

-- the journal of a book is not written
unwritten_text : (request : RealiseRequest) (book : Ledger) (before after : Option (List ℕ))
    (fault : UnwrittenJournal)
    → after ≡ before → IsUnwrittenJournal (written_text book.history.entries) fault
    → BookEnds request book before after (Err (unwritten_stop fault))
unwritten_text request book before after journal_fault.TooLong same long = (same, long)
unwritten_text request book before after (journal_fault.File unwritten) same short =
    file_refused request book before after unwritten.failure same short

-- the journal of a book is not written, by the bytes that were to be
pub book_unwritten : (request : RealiseRequest) (book : Ledger) (before after : Option (List ℕ))
    (bytes : List ℕ) (fault : UnwrittenJournal) (stop : RunError)
    → IsUnwrittenJournal bytes fault → stop ≡ unwritten_stop fault
    → bytes ≡ written_text book.history.entries → after ≡ before
    → BookEnds request book before after (Err stop)
book_unwritten request book before after bytes fault stop why is text same =
    rw is
    (unwritten_text request book before after fault same
    (subst (λ (t : List ℕ). IsUnwrittenJournal t fault) text why))
