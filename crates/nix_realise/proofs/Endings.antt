-- How a run of `add-text` ends where its text is refused, or where a file is not written.
use Rattle.std.proofs.Common.{◌≡◌, ◌≤◌, ◌<◌, ◌⊎◌, inl, inr, refl, subst, sym, ℕ, List, Option, Some, None, Result, Ok, Err}
use Rattle.std.proofs.Math.Nat.{not-le_of_lt}
use Rattle.std.specs.Prelude.{IsSome, length}
use Rattle.std.specs.Io.KnownBytes.{Appends}
use Rattle.command_line.specs.declared.options.AddTextRequest.{AddTextRequest}
use Rattle.nix_names.specs.Names.{IsStoreDir}
use Rattle.nix_realise.specs.AddedText.{HasNamedText, IsAdding, IsAddingText, IsNaming}
use Rattle.nix_realise.specs.Files.{FileBytes}
use Rattle.nix_realise.specs.Locking.{IsNotHeld}
use Rattle.process_build.specs.declared.failures.Failure.{Failure}
use Rattle.process_build.specs.declared.failures.Failure.TheVariants as failure
use Rattle.nix_realise.specs.Endings.{EndsBy, IsPrintedAndWritten, path_line}
use Rattle.nix_realise.specs.DrvEndings.{IsNotPut}
use Rattle.nix_realise.specs.Filed.{AreFiled, HasLongJournal, HasShortJournal, IsUnfiled}
use Rattle.nix_realise.specs.Filed.{IsUnprinted, IsUnwrittenNew, new_bytes, unfiled_stop, unput_stop}
use Rattle.nix_realise.specs.JournalFiles.{IsUnwrittenJournal, journal_stop, max_journal_len}
use Rattle.nix_realise.specs.JournalFiles.{text_stop, unwritten_stop}
use Rattle.nix_realise.specs.StoreDirs.{IsStoreDirOf}
use Rattle.nix_realise.specs.declared.additions.add_drv.AddDrvError.{AddDrvError}
use Rattle.nix_realise.specs.declared.additions.add_drv.AddDrvError.TheVariants.{File, Line}
use Rattle.nix_realise.specs.declared.io.all_written.Filed.{Filed}
use Rattle.nix_realise.specs.declared.additions.add_text.AddTextError.{AddTextError}
use Rattle.nix_realise.specs.declared.additions.add_text.AddTextError.TheVariants.{Text, Journal}
use Rattle.nix_realise.specs.declared.additions.added_text.AddedText.{AddedText}
use Rattle.nix_realise.specs.declared.additions.added_text.NamedText.{NamedText}
use Rattle.nix_realise.specs.declared.io.journal_file.OwnJournal.{OwnJournal}
use Rattle.nix_realise.specs.declared.io.journal_write.UnwrittenJournal.{UnwrittenJournal}
use Rattle.nix_realise.specs.declared.io.journal_write.UnwrittenJournal.TheVariants as journal_fault
use Rattle.nix_realise.specs.declared.io.all_written.AllWritten.{AllWritten}
use Rattle.nix_realise.specs.declared.cli.run_error.RunError.{RunError}
use Rattle.nix_realise.specs.declared.cli.run_error.RunError.TheVariants.{BadJournal, BadName, BadStoreDir}
use Rattle.nix_realise.specs.declared.cli.run_error.RunError.TheVariants.{InUse, JournalNotWritten}
use Rattle.nix_realise.specs.declared.cli.run_error.RunError.TheVariants.{JournalTooLong, JournalUnreadable}
use Rattle.nix_realise.specs.declared.cli.run_error.RunError.TheVariants.{NoMemory, NotLocked}
use Rattle.nix_realise.specs.declared.cli.run_error.RunError.TheVariants.{NotWritten, TooLong, Unreadable}
use Rattle.nix_realise.specs.declared.cli.run_error.RunError.TheVariants.{Unwritable}

-- a refused file or name ends the run with nothing printed
pub text_refused : (request : AddTextRequest) (gave journal : FileBytes) (before : Option (List ℕ))
    (stop : RunError)
    → IsStoreDir request.store_dir.now → IsNaming request gave (Err stop)
    → EndsBy request gave journal before before (Err stop)
text_refused request gave journal before (Unreadable blamed) dir h = (refl, (h.0, dir, h.1))
text_refused request gave journal before (TooLong blamed) dir h = (refl, (h.0, dir, h.1))
text_refused request gave journal before (BadName blamed) dir h = (refl, h)
text_refused request gave journal before NoMemory dir h = λ none. none dir
text_refused request gave journal before stop dir h = absurd h

-- a store folder that is not held ends the run with nothing printed
pub not_held : (request : AddTextRequest) (gave journal : FileBytes) (before : Option (List ℕ))
    (bytes : List ℕ) (stop : RunError)
    → HasNamedText request gave bytes → IsNotHeld request.store_dir request.wait stop
    → EndsBy request gave journal before before (Err stop)
not_held request gave journal before bytes (InUse blamed) has h = (refl, (bytes, has), h)
not_held request gave journal before bytes (NotLocked blamed) has h = (refl, (bytes, has), h)
not_held request gave journal before bytes NoMemory has h = λ none. none has.0.0
not_held request gave journal before bytes stop has h = absurd h

-- a refused journal ends the run with nothing printed
pub journal_refused : (request : AddTextRequest) (gave journal : FileBytes)
    (before : Option (List ℕ)) (named : NamedText) (stop : RunError)
    → IsNaming request gave (Ok named)
    → IsAdding request.store_dir.now named journal (Err stop)
    → EndsBy request gave journal before before (Err stop)
journal_refused request gave journal before named JournalUnreadable is h =
    (refl, ((named.text.items, is.0), h))
journal_refused request gave journal before named (BadJournal fault) is h =
    (refl, ((named.text.items, is.0), h))
journal_refused request gave journal before named NoMemory is h = λ none. none is.0.0.0
journal_refused request gave journal before named stop is h = absurd h

-- an accepted text
pub text_accepted : (request : AddTextRequest) (gave journal : FileBytes) (named : NamedText)
    (added : AddedText)
    → IsNaming request gave (Ok named)
    → IsAdding request.store_dir.now named journal (Ok added)
    → IsAddingText request gave journal (Ok added)
text_accepted request gave journal named added is h =
    rw (h.0, h.1) (is.0, is.1, rw (sym is.2) h.2)

-- a bad store folder ends the run before a file is opened
pub folder_refused : (request : AddTextRequest) (gave journal : FileBytes)
    (before : Option (List ℕ)) (stop : RunError)
    → IsStoreDirOf request.store_dir (Err stop)
    → EndsBy request gave journal before before (Err stop)
folder_refused request gave journal before (BadStoreDir blamed) h = (refl, h)
folder_refused request gave journal before NoMemory h = h
folder_refused request gave journal before stop h = absurd h

-- a text is not written after its path was printed
text_not_written : (added : AddedText) (failure : Failure) (before after : Option (List ℕ))
    → Appends before after (path_line added.path) → IsSome added.journal
    → IsPrintedAndWritten added before after (Err (text_stop added.path failure))
text_not_written added failure.NoMemory before after printed renewed = (tt, printed)
text_not_written added failure before after printed renewed = ((refl, renewed), printed)

-- a journal's file can't be written after the text's path was printed
file_refused : (added : AddedText) (failure : Failure) (before after : Option (List ℕ))
    → Appends before after (path_line added.path) → HasShortJournal (new_bytes added)
    → IsPrintedAndWritten added before after (Err (journal_stop failure))
file_refused added failure.NoMemory before after printed short = (tt, printed)
file_refused added failure before after printed short = (short, printed)

-- a journal is not written after the text's path was printed
journal_not_written : (added : AddedText) (fault : UnwrittenJournal)
    (before after : Option (List ℕ))
    → Appends before after (path_line added.path) → IsUnwrittenNew (new_bytes added) fault
    → IsPrintedAndWritten added before after (Err (unwritten_stop fault))
journal_not_written added journal_fault.TooLong before after printed why = (why, printed)
journal_not_written added (journal_fault.File unwritten) before after printed why =
    file_refused added unwritten.failure before after printed why

-- why a journal's bytes are not written is why the new bytes are not, where they are the same
unwritten_same : (bytes : List ℕ) (fault : UnwrittenJournal) → IsUnwrittenJournal bytes fault
    → IsUnwrittenNew (Some bytes) fault
unwritten_same bytes journal_fault.TooLong why = why
unwritten_same bytes (journal_fault.File unwritten) why = why

pub unwritten_new : (added : AddedText) (bytes : List ℕ) (fault : UnwrittenJournal)
    → new_bytes added ≡ Some bytes → IsUnwrittenJournal bytes fault
    → IsUnwrittenNew (new_bytes added) fault
unwritten_new added bytes fault same why =
    subst (λ (new : Option (List ℕ)). IsUnwrittenNew new fault) (sym same)
    (unwritten_same bytes fault why)

-- no bytes that were written are too many
none_long : (new : Option (List ℕ)) → new ≡ None → ¬ (HasLongJournal new)
none_long new none = subst (λ (o : Option (List ℕ)). ¬ (HasLongJournal o)) (sym none) (λ long. long)

some_short : (new : Option (List ℕ)) (bytes : List ℕ) → new ≡ Some bytes
    → length bytes ≤ max_journal_len → ¬ (HasLongJournal new)
some_short new bytes same short =
    subst (λ (o : Option (List ℕ)). ¬ (HasLongJournal o)) (sym same)
    (λ (long : max_journal_len < length bytes). not-le_of_lt long short)

pub filed_not_long : (added : AddedText) (file : OwnJournal) (filed : Option Filed)
    → AreFiled added file filed → ¬ (HasLongJournal (new_bytes added))
filed_not_long added file None h = none_long (new_bytes added) h
filed_not_long added file (Some filed) h =
    some_short (new_bytes added) filed.journal.bytes.now h.2 h.3

-- a file is not written after the text's path was printed
pub file_not_written : (added : AddedText) (unfiled : AddTextError) (before after : Option (List ℕ))
    (stop : RunError) → Appends before after (path_line added.path) → IsUnfiled added unfiled
    → stop ≡ unfiled_stop added.path unfiled → IsPrintedAndWritten added before after (Err stop)
file_not_written added (Text unwritten) before after stop printed why is =
    rw is (text_not_written added unwritten.failure before after printed why)
file_not_written added (Journal fault) before after stop printed why is =
    rw is (journal_not_written added fault before after printed why)

-- how the printing and the writing end is how the run does
pub put_ends : (request : AddTextRequest) (gave journal : FileBytes)
    (before after : Option (List ℕ)) (added : AddedText) (result : Result AllWritten RunError)
    → IsAddingText request gave journal (Ok added) → IsPrintedAndWritten added before after result
    → EndsBy request gave journal before after result
put_ends request gave journal before after added (Ok written) is h =
    (h.0, (added, (is, h.1), h.2))
put_ends request gave journal before after added (Err (NotWritten path)) is h =
    (added, (is, h.1), h.0)
put_ends request gave journal before after added (Err JournalTooLong) is h =
    (added, (is, h.1), h.0)
put_ends request gave journal before after added (Err JournalNotWritten) is h =
    (added, (is, h.1), h.0)
put_ends request gave journal before after added (Err Unwritable) is h = (added, is)
put_ends request gave journal before after added (Err NoMemory) is h = λ none. none is.0.0.0
put_ends request gave journal before after added (Err stop) is h = absurd h.0

-- the stop of a file that is not written
stop_of_text : (path : List ℕ) (failure : Failure)
    → (text_stop path failure ≡ NoMemory) ⊎ (text_stop path failure ≡ NotWritten path)
stop_of_text path failure.NoMemory = inl refl
stop_of_text path failure = inr refl

-- what is known where a derivation is not put
pub not_put : (path : List ℕ) (before after : Option (List ℕ)) (unput : AddDrvError) (stop : RunError)
    → IsUnprinted before after unput → stop ≡ unput_stop path unput
    → IsNotPut path before after stop
not_put path before after (File unwritten) stop same is =
    inl (same, rw is (stop_of_text path unwritten.failure))
not_put path before after Line stop same is = inr is
