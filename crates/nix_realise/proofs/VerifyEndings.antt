-- How `verify` ends: why there is no journal to verify by, and why no paths are verified.
use Rattle.std.proofs.Common.{◌≡◌, ◌∙◌, ap, refl, subst, ℕ, List, Option, Err, Ok, map}
use Rattle.std.specs.Global.{Vec}
use Rattle.nix_names.specs.Names.{IsStoreDir}
use Rattle.valid_table.specs.Tables.{JournalValue}
use Rattle.command_line.specs.declared.options.VerifyRequest.{VerifyRequest}
use Rattle.nix_realise.specs.AddedText.{IsJournalOf}
use Rattle.nix_realise.specs.Files.{FileBytes}
use Rattle.nix_realise.specs.StoreDirs.{IsStoreDirOf}
use Rattle.nix_realise.specs.Tasks.{ArePaths, ArePathsOf, IsFirstBadWord}
use Rattle.nix_realise.specs.Verifying.{HasPaths, IsNotVerified, VerifyEndsOver, words_of}
use Rattle.nix_realise.specs.private.Asking.{IsNotAsked}
use Rattle.nix_realise.specs.declared.cli.run_error.RunError.{RunError}
use Rattle.nix_realise.specs.declared.cli.run_error.RunError.TheVariants.{BadStoreDir, NoMemory, NoPath, NotValid}

-- the store folder is refused
pub folder_refused : (request : VerifyRequest) (gave : FileBytes) (stop : RunError)
    → IsStoreDirOf request.store_dir (Err stop) → IsNotVerified request gave stop
folder_refused request gave (BadStoreDir blamed) h = h
folder_refused request gave NoMemory h = h
folder_refused request gave stop h = absurd h

module _ (request : VerifyRequest) (dir : List ℕ) (same : dir ≡ request.store_dir.now)
    (is_dir : IsStoreDir request.store_dir.now) (gave : FileBytes) where
  -- memory is refused for a well-formed folder
  pub memory_refused : IsNotVerified request gave NoMemory
  memory_refused = λ none. none is_dir

  -- a word is refused
  pub word_refused : (stop : RunError) → ArePathsOf dir (words_of request) (Err stop)
      → IsNotVerified request gave stop
  word_refused (NoPath blamed fault) h = (
    is_dir,
    subst (λ d. IsFirstBadWord d (words_of request) blamed.now fault) same h,
  )
  word_refused NoMemory h = memory_refused
  word_refused stop h = absurd h

  paths_of_folder : ArePaths dir (words_of request) → HasPaths request
  paths_of_folder are = (is_dir, subst (λ d. ArePaths d (words_of request)) same are)

  -- the journal is refused
  pub journal_refused : (stop : RunError) → ArePaths dir (words_of request)
      → IsJournalOf dir gave (Err stop) → IsNotVerified request gave stop
  journal_refused (BadStoreDir blamed) are h = absurd h
  journal_refused (NoPath blamed fault) are h = absurd h
  journal_refused NoMemory are h = memory_refused
  journal_refused stop are h = (
    paths_of_folder are,
    subst (λ d. IsJournalOf d gave (Err stop)) same h,
  )

  -- the journal is there
  pub journal_taken : (journal : JournalValue) → ArePaths dir (words_of request)
      → IsJournalOf dir gave (Ok journal)
      → HasPaths request × IsJournalOf request.store_dir.now gave (Ok journal)
  journal_taken journal are h =
      (paths_of_folder are, subst (λ d. IsJournalOf d gave (Ok journal)) same h)

-- the paths that are named are refused
pub not_asked : (request : VerifyRequest) (journal : JournalValue) (held : Option (List ℕ))
    (stop : RunError)
    → IsNotAsked (words_of request) journal stop
    → VerifyEndsOver request journal held held (Err stop)
not_asked request journal held (NotValid word) h = (refl, h.0, h.1)
not_asked request journal held NoMemory h = refl
not_asked request journal held stop h = absurd h
