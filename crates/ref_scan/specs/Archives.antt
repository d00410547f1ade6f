-- The archive (NAR) of a tree in memory, whose folders have their members in any order.
use Rattle.std.specs.Prelude.{◌≡◌, ◌⊎◌, ◌-◌, ◌^◌, true, false, List, Option, Some, None, length, min}
use Rattle.sha2.specs.Sha256.{sha256}
use Rattle.nix_archive.specs.Archive.{nar}
use Rattle.nix_archive.specs.Tokens.{Token, tokens_of}
use Rattle.nix_archive.specs.Trees.{Bytes, Tree as Archived, File as ArchivedFile, Link as ArchivedLink, Folder, Entries, NoEntries, Entry, IsArchivable}
use Rattle.ref_scan.specs.Trees.{joined}
use Rattle.ref_scan.specs.declared.tree_archive.sum.ArchiveSum.{ArchiveSum}
use Rattle.ref_scan.specs.declared.tree_archive.outcome.Told.{Told}
use Rattle.ref_scan.specs.declared.tree_archive.outcome.Told.TheVariants.{Whole, NoArchive}
use Rattle.ref_scan.specs.declared.tree.Tree.{Tree, File, Pieces, Executable, Link, Dir', Row_of-Member, end_of-Member, more_of-Member}

-- the entries are the others, whose order stays, and this one, which stands anywhere among them
abbrev pub IsBeside : (name : Bytes) (node : Archived) (others entries : Entries) → Type 0
IsBeside name node others NoEntries = ⊥
IsBeside name node others (Entry first tree rest) =
    ((first ≡ name) × (tree ≡ node) × (rest ≡ others))
    ⊎ ((fewer : Entries) × (others ≡ Entry first tree fewer) × IsBeside name node fewer rest)

abbrev mutual
  -- The archive's tree is that of a tree in memory: a file has the bytes that its pieces make
  -- together, and a folder has one entry for each member, in any order.
  pub IsArchiveOf : Tree → Archived → Type 0
  IsArchiveOf (File bytes) archived = archived ≡ ArchivedFile false bytes.items
  IsArchiveOf (Pieces parts) archived = archived ≡ ArchivedFile false (joined parts.items)
  IsArchiveOf (Executable parts) archived = archived ≡ ArchivedFile true (joined parts.items)
  IsArchiveOf (Link target) archived = archived ≡ ArchivedLink target.items
  IsArchiveOf (Dir' shape members) archived =
      (entries : Entries) × (archived ≡ Folder entries) × AreEntriesOf members entries

  -- The entries are those of a folder's members: the first member's, which has its name and the
  -- archive of its tree, and those of the others.
  pub AreEntriesOf : {m : _} → Row_of-Member m → Entries → Type 0
  AreEntriesOf end_of-Member entries = entries ≡ NoEntries
  AreEntriesOf (more_of-Member name tree rest) entries =
      (node : Archived) × (others : Entries) × IsArchiveOf tree node
      × IsBeside name.items node others entries × AreEntriesOf rest others

-- a tree has at most one tree of its archive that may stand in an archive
abbrev pub ArchiveIsOne : Type 0
ArchiveIsOne = (tree : Tree) (a b : Archived) → IsArchiveOf tree a → IsArchiveOf tree b
    → IsArchivable a → IsArchivable b → a ≡ b

-- The tree has an archive, of which this was heard.
pub record IsHeard {S : Type 0} (heard : S → List Token → S → Type 0) (before after : S)
    (tree : Tree) : Type 0 where
  pub archived : Archived
  pub of_tree : IsArchiveOf tree archived
  pub archivable : IsArchivable archived
  pub hears : heard before (tokens_of archived) after

-- the tree has no archive
abbrev pub HasNoArchive : Tree → Type 0
HasNoArchive tree = (archived : Archived) → IsArchiveOf tree archived → IsArchivable archived → ⊥

-- the tree's archive was heard, or it has none
abbrev pub IsTold : {S : Type 0} → (S → List Token → S → Type 0) → (before after : S) → Tree → Told
    → Type 0
IsTold heard before after tree Whole = IsHeard heard before after tree
IsTold heard before after tree NoArchive = HasNoArchive tree

-- The tree has an archive, of whose bytes this holds.
pub record HasArchive (tree : Tree) (P : Bytes → Type 0) : Type 0 where
  pub archived : Archived
  pub of_tree : IsArchiveOf tree archived
  pub archivable : IsArchivable archived
  pub holds : P (nar archived)

-- what is answered of the bytes of a tree's archive; none where the tree has no archive
abbrev pub IsOfArchive : {X : Type 0} → (P : Bytes → X → Type 0) → Tree → Option X → Type 0
IsOfArchive P tree (Some x) = HasArchive tree (λ bytes. P bytes x)
IsOfArchive P tree None = HasNoArchive tree

-- The SHA-256 of some bytes, and how many there are, or 2^64 - 1 if they are more.
pub record IsArchiveSum (bytes : Bytes) (sum : ArchiveSum) : Type 0 where
  pub hash : sum.hash ≡ sha256 bytes
  pub count : sum.length ≡ min (length bytes) (2 ^ 64 - 1)
