-- A walk of a tree in memory that tells its archive, by a list of the folders that it is in: of
-- each the members that lie ahead, in the order of their names.
use Rattle.std.specs.Prelude.{◌≡◌, ◌<◌, ◌≤◌, ◌+◌, ◌*◌, ℕ, Bool, List, [], ◌∷◌, ◌++◌, Option, Some, None, Vec, map, reverse}
use Rattle.std.specs.Borrow.{Bor}
use Rattle.std.specs.declared.alloc.Global.{Global}
use Rattle.nix_archive.specs.Tokens.{Token, EntryEnded, FolderBegun, FolderEnded, file_tokens, tokens_among, tokens_of}
use Rattle.nix_archive.specs.Trees.{Bytes, Tree as Archived, Entries, NoEntries, Entry, AreEntries, IsAfter, IsArchivable, IsName, IsString}
use Rattle.ref_scan.specs.Archives.{HasNoArchive, IsArchiveOf, IsBeside}
use Rattle.ref_scan.specs.Trees.{entry_count}
use Rattle.ref_scan.specs.declared.tree_archive.outcome.Told.{Told}
use Rattle.ref_scan.specs.declared.tree_archive.outcome.Told.TheVariants.{Whole, NoArchive}
use Rattle.ref_scan.specs.declared.tree_archive.node.Node.{Node}
use Rattle.ref_scan.specs.declared.tree_archive.node.Node.TheVariants.{Heard, Begun, Refused}
use Rattle.ref_scan.specs.declared.tree.Tree.{Tree}
use Rattle.ref_scan.specs.declared.tree.Member.{Member}
use Rattle.ref_scan.specs.private.Walk.{count_below}

-- the entries are those of a folder's members
abbrev pub AreBelow : List Member → Entries → Type 0
AreBelow [] entries = entries ≡ NoEntries
AreBelow (member ∷ members) entries =
    (node : Archived) × (others : Entries) × IsArchiveOf member.tree node
    × IsBeside member.name.items node others entries × AreBelow members others

-- the entries are those of the members, in the same order
abbrev pub AreInOrder : List Member → Entries → Type 0
AreInOrder [] NoEntries = Unit {0}
AreInOrder (member ∷ members) (Entry name node rest) =
    (name ≡ member.name.items) × IsArchiveOf member.tree node × IsArchivable node
    × AreInOrder members rest
AreInOrder _ _ = ⊥

-- the members may stand in this order in a folder of an archive, after a name; none may be empty,
-- and then they begin the folder
abbrev pub AreNames : (before : Bytes) → List Member → Type 0
AreNames before [] = Unit {0}
AreNames before (member ∷ members) = IsName member.name.items × IsAfter before member.name.items
    × AreNames member.name.items members

-- The members of a folder are these, in the order of their names.
pub record IsOrderOf (members order : List Member) : Type 0 where
  pub sound : (entries : Entries) → AreInOrder order entries
      → AreBelow members entries × AreEntries [] entries
  pub complete : (entries : Entries) → AreBelow members entries → AreEntries [] entries
      → AreInOrder order entries
  pub count : count_below order ≤ count_below members

-- no entries may stand in an archive and are those of a folder's members
abbrev pub HasNoEntries : List Member → Type 0
HasNoEntries members =
    (entries : Entries) → AreBelow members entries → AreEntries [] entries → ⊥

-- members that are put off, the next one last
abbrev pub order_of : List (Bor Member) → List Member
order_of refs = reverse (map (λ (ref : Bor Member). ref.now) refs)

-- the members are put in order, or their folder has no archive
abbrev pub IsOrdered : List Member → Option (Vec (Bor Member) Global) → Type 0
IsOrdered members (Some order) = IsOrderOf members (order_of order.items)
IsOrdered members None = HasNoEntries members

-- The hearer heard some tokens: after them Q may follow, just where P might before.
pub record IsTelling {S : Type 0} (heard : S → List Token → S → Type 0) (before after : S)
    (P Q : List Token → Type 0) : Type 0 where
  pub said : List Token
  pub hears : heard before said after
  pub sound : (ts : List Token) → Q ts → P (said ++ ts)
  pub complete : (ts : List Token) → P ts → (later : List Token) × (ts ≡ said ++ later) × Q later

-- nothing is heard
abbrev pub Nothing : List Token → Type 0
Nothing ts = ts ≡ []

-- A tree's archive is heard.
pub record Tells (tree : Tree) (ts : List Token) : Type 0 where
  pub archived : Archived
  pub of_tree : IsArchiveOf tree archived
  pub archivable : IsArchivable archived
  pub said : ts ≡ tokens_of archived

-- One is heard, and then the other.
pub record Then (P Q : List Token → Type 0) (ts : List Token) : Type 0 where
  pub first : List Token
  pub rest : List Token
  pub parts : ts ≡ first ++ rest
  pub begins : P first
  pub follows : Q rest

-- Some tokens are heard, and then more.
pub record Says (said : List Token) (P : List Token → Type 0) (ts : List Token) : Type 0 where
  pub rest : List Token
  pub parts : ts ≡ said ++ rest
  pub follows : P rest

-- Members of a folder are heard, and its end.
pub record InFolder (order : List Member) (ts : List Token) : Type 0 where
  pub entries : Entries
  pub are : AreInOrder order entries
  pub said : ts ≡ tokens_among entries ++ FolderEnded ∷ []

-- the end of the entry in which a tree lies, if it lies in a folder
abbrev pub entry_end : (folders : List (List Member)) → List Token
entry_end [] = []
entry_end (order ∷ folders) = EntryEnded ∷ []

-- what is heard of the folders that the walk is in, by their members that lie ahead, the innermost
-- first
abbrev pub Ahead : List (List Member) → List Token → Type 0
Ahead [] = Nothing
Ahead (order ∷ folders) = Then (InFolder order) (Says (entry_end folders) (Ahead folders))

-- what follows a tree that lies in these folders
abbrev pub Outer : List (List Member) → List Token → Type 0
Outer folders = Says (entry_end folders) (Ahead folders)

-- the folders that a walk is in, the innermost first
abbrev pub folders_of : List (Vec (Bor Member) Global) → List (List Member)
folders_of folders =
    reverse (map (λ (order : Vec (Bor Member) Global). order_of order.items) folders)

-- how much of the walk lies ahead at most: a step for each folder, and two for each entry
abbrev pub steps_of : List (List Member) → ℕ
steps_of [] = 0
steps_of (order ∷ folders) = 1 + 2 * count_below order + steps_of folders

-- what was heard of a tree: all, or where it is a folder its begin; or it has no archive
abbrev pub IsNode : {S : Type 0} → (S → List Token → S → Type 0) → (before after : S) → Tree → Node
    → Type 0
IsNode heard before after tree Heard = IsTelling heard before after (Tells tree) Nothing
IsNode heard before after tree (Begun order) =
    IsTelling heard before after (Tells tree) (InFolder (order_of order.items))
    × (count_below (order_of order.items) ≤ entry_count tree)
IsNode heard before after tree Refused = HasNoArchive tree

-- a file of these bytes was heard, or no archive has it
abbrev pub IsFileTold : {S : Type 0} → (S → List Token → S → Type 0) → (before after : S) → Bool
    → Bytes → Node → Type 0
IsFileTold heard before after executable bytes Heard =
    IsString bytes × heard before (file_tokens executable bytes) after
IsFileTold heard before after executable bytes (Begun order) = ⊥
IsFileTold heard before after executable bytes Refused = IsString bytes → ⊥

-- the begin of a folder was heard, or no archive has the folder
abbrev pub IsBegun : {S : Type 0} → (S → List Token → S → Type 0) → (before after : S)
    → List Member → Node → Type 0
IsBegun heard before after members Heard = ⊥
IsBegun heard before after members (Begun order) =
    heard before (FolderBegun ∷ []) after × IsOrderOf members (order_of order.items)
IsBegun heard before after members Refused = HasNoEntries members

-- A tree was visited that lies in some folders, or it has no archive.
abbrev pub IsVisit : {S : Type 0} → (S → List Token → S → Type 0) → (before after : S) → Tree
    → (folders inner : List (List Member)) → Told → Type 0
IsVisit heard before after tree folders inner Whole =
    IsTelling heard before after (Then (Tells tree) (Outer folders)) (Ahead inner)
    × (steps_of inner ≤ 1 + 2 * entry_count tree + steps_of folders)
IsVisit heard before after tree folders inner NoArchive = HasNoArchive tree

-- A step was made from some folders, so that less lies ahead, or one of their members has no
-- archive.
abbrev pub IsStep : {S : Type 0} → (S → List Token → S → Type 0) → (before after : S)
    → (folders inner : List (List Member)) → Told → Type 0
IsStep heard before after folders inner Whole =
    IsTelling heard before after (Ahead folders) (Ahead inner) × (steps_of inner < steps_of folders)
IsStep heard before after folders inner NoArchive = (ts : List Token) → Ahead folders ts → ⊥
