-- Where the journal file is, and what ends a run that can't write a file.
use Rattle.std.specs.Prelude.{◌≤◌, ◌<◌, ℕ, ◌≡◌, ◌++◌, Option, Some, None, codes, length, option_map, string_bytes}
use Rattle.nix_names.specs.Bytes.{Bytes, Dir, Path}
use Rattle.process_build.specs.declared.failures.Failure.{Failure}
use Rattle.process_build.specs.declared.failures.Failure.TheVariants as failure
use Rattle.command_line.specs.declared.options.AddTextRequest.{AddTextRequest}
use Rattle.command_line.specs.declared.options.RunRequest.{RunRequest}
use Rattle.nix_realise.specs.Files.{IsReadFrom}
use Rattle.nix_realise.specs.declared.io.files.FileRead.{FileRead}
use Rattle.nix_realise.specs.declared.io.journal_file.OwnJournal.{OwnJournal}
use Rattle.nix_realise.specs.declared.io.journal_write.UnwrittenJournal.{UnwrittenJournal}
use Rattle.nix_realise.specs.declared.io.journal_write.UnwrittenJournal.TheVariants.{File, TooLong}
use Rattle.nix_realise.specs.declared.cli.run_error.RunError.{RunError}
use Rattle.nix_realise.specs.declared.cli.run_error.RunError.TheVariants.{JournalNotWritten, JournalTooLong}
use Rattle.nix_realise.specs.declared.cli.run_error.RunError.TheVariants.{NoMemory, NotWritten}

-- the journal file's path: the given one, else that of `realiser-journal` in the store folder
abbrev pub journal_path_of : (store_dir : Dir) → (given : Option Bytes) → Bytes
journal_path_of store_dir None = store_dir ++ codes "/realiser-journal"
journal_path_of store_dir (Some given) = given

-- the path of the journal file of a run, by its words
abbrev pub runs_journal : RunRequest → Bytes
runs_journal request =
    journal_path_of request.store_dir.now (option_map (λ f. f.now) request.journal)

-- a file of a store folder that is held is the journal file of a run
abbrev pub IsRunsFile : RunRequest → OwnJournal → Type 0
IsRunsFile request file = string_bytes file.path ≡ runs_journal request

-- the journal file of a run was read
abbrev pub IsRunsJournal : RunRequest → FileRead → Type 0
IsRunsJournal request given =
    IsReadFrom (journal_path_of request.store_dir.now (option_map (λ f. f.now) request.journal))
    134217729 given

-- the journal file of `add-text` was read
abbrev pub IsTextsJournal : AddTextRequest → FileRead → Type 0
IsTextsJournal request given =
    IsReadFrom (journal_path_of request.store_dir.now (option_map (λ f. f.now) request.journal))
    134217729 given

-- the greatest length of a journal's text that is written or read, in bytes
abbrev pub max_journal_len : ℕ
max_journal_len = 134217728

-- why a journal's text is not written: it has more bytes than that, and then no file is touched; or
-- it has not, and the file could not be written
abbrev pub IsUnwrittenJournal : (text : Bytes) → UnwrittenJournal → Type 0
IsUnwrittenJournal text TooLong = max_journal_len < length text
IsUnwrittenJournal text (File unwritten) = length text ≤ max_journal_len

-- what ends a run whose journal file is not written, by this failure
abbrev pub journal_stop : Failure → RunError
journal_stop failure.NoMemory = NoMemory
journal_stop failure = JournalNotWritten

-- what ends a run whose journal is not written
abbrev pub unwritten_stop : UnwrittenJournal → RunError
unwritten_stop TooLong = JournalTooLong
unwritten_stop (File unwritten) = journal_stop unwritten.failure

-- what ends a run whose file at this path is not written, by this failure
abbrev pub text_stop : Path → Failure → RunError
text_stop path failure.NoMemory = NoMemory
text_stop path failure = NotWritten path
