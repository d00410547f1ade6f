-- Whether valid paths are what their journal says, and how `verify` ends. No clause says what lies on
-- disk, so that is some tree.
use Rattle.std.specs.Prelude.{◌≡◌, ◌⊎◌, ◌↔◌, Bool, true, false, not, List, [], ◌∷◌, ◌++◌, All, Contains, Option, Some, None, Result, Ok, Err, IfSome, codes, if◌then◌else◌, length, map}
use Rattle.std.specs.Io.KnownBytes.{Appends}
use Rattle.std.specs.List.{flat_map, list_all}
use Rattle.sha2.specs.Sha256.{sha256}
use Rattle.nix_archive.specs.Archive.{nar}
use Rattle.nix_archive.specs.Trees.{IsArchivable, Tree}
use Rattle.nix_names.specs.Bytes.{Bytes, Dir, Path}
use Rattle.nix_names.specs.Digests.{algorithm_of}
use Rattle.nix_names.specs.Names.{IsStoreDir}
use Rattle.nix_names.specs.Rising.{IsRising}
use Rattle.nix_names.specs.declared.digest.Algorithm.{Algorithm}
use Rattle.nix_names.specs.declared.digest.Digest.{Digest}
use Rattle.nix_names.specs.declared.method.Method.{Method}
use Rattle.nix_names.specs.declared.method.Method.TheVariants.{Flat, Recursive}
use Rattle.nix_names.specs.declared.method.MethodDigest.{MethodDigest}
use Rattle.valid_table.specs.Entries.{registered}
use Rattle.valid_table.specs.PathInfos.{NarInfo, PathInfo}
use Rattle.valid_table.specs.Tables.{JournalValue}
use Rattle.valid_table.specs.Valid.{IsValid, Registers}
use Rattle.build_outcome.specs.Hearing.{archived_digest}
use Rattle.build_outcome.specs.Verdicts.{digest_by}
use Rattle.command_line.specs.declared.options.VerifyRequest.{VerifyRequest}
use Rattle.nix_realise.specs.AddedText.{IsJournalOf}
use Rattle.nix_realise.specs.Files.{FileBytes}
use Rattle.nix_realise.specs.Tasks.{ArePaths, IsFirstBadWord}
use Rattle.nix_realise.specs.declared.cli.exit.Status.{Status}
use Rattle.nix_realise.specs.declared.cli.exit.Status.TheVariants.{Done, Unrealised}
use Rattle.nix_realise.specs.declared.cli.run_error.RunError.{RunError}
use Rattle.nix_realise.specs.declared.cli.run_error.RunError.TheVariants.{BadStoreDir, NoMemory}
use Rattle.nix_realise.specs.declared.cli.run_error.RunError.TheVariants.{NoPath, NotValid, Unwritable}
use Rattle.nix_realise.specs.declared.verification.verified.Verified.{Verified}
use Rattle.nix_realise.specs.declared.verification.verified.Verified.TheVariants.{Differs, Same, Unknown, Unreadable}

-- the digest of a tree by a method and an algorithm: that of a file's bytes, and nothing has one
-- else; or that of the tree's archive
abbrev pub digest_in : Method → Algorithm → Tree → Option Digest
digest_in Flat algorithm tree = archived_digest (Some algorithm) tree
digest_in Recursive algorithm tree = Some (digest_by algorithm (nar tree))

-- the tree has this digest, by its method
abbrev pub HasDigest : Tree → MethodDigest → Type 0
HasDigest tree told = digest_in told.method (algorithm_of told.digest) tree ≡ Some told.digest

-- the tree's archive has this SHA-256 and this length
abbrev pub HasSum : Tree → NarInfo → Type 0
HasSum tree sum = (sum.hash ≡ sha256 (nar tree)) × (sum.size ≡ length (nar tree))

-- The tree is what a record says, as far as it says something.
pub record IsAsTold (info : PathInfo) (tree : Tree) : Type 0 where
  pub digest : IfSome info.digest (HasDigest tree)
  pub sum : IfSome info.nar (HasSum tree)

-- a record says nothing of what lies at its path
abbrev pub SaysNothing : PathInfo → Type 0
SaysNothing info = (info.digest ≡ None) × (info.nar ≡ None)

-- What is found of a path by its record: the record says nothing, and nothing is read; or the path
-- can't be read; or what lies there is a tree that is what the record says, or is not.
abbrev pub IsFinding : PathInfo → Verified → Type 0
IsFinding info Unknown = SaysNothing info
IsFinding info Unreadable = ¬ (SaysNothing info)
IsFinding info Same =
    ¬ (SaysNothing info) × ((tree : Tree) × IsArchivable tree × IsAsTold info tree)
IsFinding info Differs =
    ¬ (SaysNothing info) × ((tree : Tree) × IsArchivable tree × ¬ (IsAsTold info tree))

-- whether something is wrong with a path
abbrev pub is_bad : Verified → Bool
is_bad Unreadable = true
is_bad Differs = true
is_bad found = false

-- the line of a path
abbrev pub line_of : Path → Verified → Bytes
line_of path Same = codes "ok " ++ path ++ 10 ∷ []
line_of path Unreadable = codes "bad " ++ path ++ codes ": Unreadable\n"
line_of path Differs = codes "bad " ++ path ++ codes ": Differs\n"
line_of path Unknown = codes "unknown " ++ path ++ 10 ∷ []

-- The lines of some valid paths, one for each, in their order, by what is found of each; and the
-- status, which says whether something is wrong with one.
pub record AreLines (journal : JournalValue) (paths : List Path) (text : Bytes) (status : Status)
    : Type 0 where
  pub rows : List (Path × Verified)
  pub paths_are : map (λ row. row.0) rows ≡ paths
  pub each : All (λ row. (info : PathInfo)
      × Registers (registered journal.entries) row.0 info × IsFinding info row.1) rows
  pub lines : text ≡ flat_map (λ row. line_of row.0 row.1) rows
  pub is_status : status
      ≡ (if list_all (λ row. not (is_bad row.1)) rows then Done else Unrealised)

-- the words PATH of a request
abbrev pub words_of : VerifyRequest → List Bytes
words_of request = map (λ w. w.now) request.paths.items

-- which paths are verified: those of the words, or all valid ones where there is no word
abbrev pub IsAsked : (words : List Bytes) → JournalValue → Path → Type 0
IsAsked [] journal path = IsValid (registered journal.entries) path
IsAsked words journal path = Contains words path

-- The paths that are verified, once each, by path.
pub record AreAsked (words : List Bytes) (journal : JournalValue) (paths : List Path) : Type 0 where
  pub rising : IsRising paths
  pub same : (path : Path) → Contains paths path ↔ IsAsked words journal path

-- The store folder is well-formed, and the words are paths of it.
abbrev pub HasPaths : VerifyRequest → Type 0
HasPaths request =
    IsStoreDir request.store_dir.now × ArePaths request.store_dir.now (words_of request)

-- How `verify` ends over a journal: with the lines of the paths that are asked for; or since a word
-- is no valid path.
abbrev pub VerifyEndsOver : VerifyRequest → JournalValue → (before after : Option Bytes)
    → Result Status RunError → Type 0
VerifyEndsOver request journal before after (Ok status) =
    (paths : List Path) × AreAsked (words_of request) journal paths
    × ((text : Bytes) × AreLines journal paths text status × Appends before after text)
VerifyEndsOver request journal before after (Err (NotValid blamed)) =
    (after ≡ before) × Contains (words_of request) blamed.now
    × ¬ (IsValid (registered journal.entries) blamed.now)
VerifyEndsOver request journal before after (Err NoMemory) = after ≡ before
VerifyEndsOver request journal before after (Err Unwritable) = Unit {0}
VerifyEndsOver request journal before after (Err stop) = ⊥

-- Why there is no journal to verify by. The store folder is tested first, then the words, then the
-- journal.
abbrev pub IsNotVerified : VerifyRequest → (gave : FileBytes) → RunError → Type 0
IsNotVerified request gave (BadStoreDir blamed) =
    (blamed ≡ request.store_dir) × ¬ (IsStoreDir request.store_dir.now)
IsNotVerified request gave (NoPath blamed fault) =
    IsStoreDir request.store_dir.now
    × IsFirstBadWord request.store_dir.now (words_of request) blamed.now fault
IsNotVerified request gave NoMemory = ¬ (¬ (IsStoreDir request.store_dir.now))
IsNotVerified request gave stop =
    HasPaths request × IsJournalOf request.store_dir.now gave (Err stop)

-- How `verify` ends, by what the journal file gave. Nothing is printed where there is no journal.
abbrev pub VerifyEndsBy : VerifyRequest → (gave : FileBytes) → (before after : Option Bytes)
    → Result Status RunError → Type 0
VerifyEndsBy request gave before after result =
    ((stop : RunError) × (result ≡ Err stop) × (after ≡ before)
    × IsNotVerified request gave stop)
    ⊎ ((journal : JournalValue) × HasPaths request
    × IsJournalOf request.store_dir.now gave (Ok journal)
    × VerifyEndsOver request journal before after result)

-- how it ends: nothing is known of what the journal file gave
abbrev pub VerifyEnds : VerifyRequest → (before after : Option Bytes) → Result Status RunError
    → Type 0
VerifyEnds request before after result =
    (gave : FileBytes) × VerifyEndsBy request gave before after result
