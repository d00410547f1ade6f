-- What is heard of a walk, step by step.
use Rattle.std.proofs.Common.{◌≡◌, ◌∙◌, ℕ, Bool, true, false, refl, ap, sym, subst, arith, List, [], ◌∷◌, ◌++◌, append_assoc, append-nil, length}
use Rattle.std.specs.Borrow.{Bor}
use Rattle.std.specs.declared.alloc.Global.{Global}
use Rattle.std.specs.declared.vec.Vec.{Vec}
use Rattle.nix_archive.specs.Tokens.{Token, EntryBegun, EntryEnded, FolderBegun, FolderEnded, tokens_among, tokens_of}
use Rattle.nix_archive.specs.Trees.{Bytes, Tree as Archived, File as ArchivedFile, Folder, Entries, NoEntries, Entry, IsArchivable}
use Rattle.nix_archive.specs.Archive.{magic}
use Rattle.nix_archive.specs.Texts.{text_of}
use Rattle.nix_archive.proofs.Texts.{text_of_tree}
use Rattle.ref_scan.specs.Archives.{HasArchive, HasNoArchive, IsArchiveOf, IsHeard}
use Rattle.ref_scan.specs.Trees.{joined}
use Rattle.ref_scan.specs.private.Telling.{Ahead, AreInOrder, InFolder, IsBegun, IsFileTold, IsNode, IsOrderOf, IsStep, IsTelling, IsVisit, Nothing, Outer, Says, Tells, Then, entry_end, order_of}
use Rattle.ref_scan.specs.declared.tree_archive.node.Node.{Node}
use Rattle.ref_scan.specs.declared.tree_archive.node.Node.TheVariants.{Heard, Begun, Refused}
use Rattle.ref_scan.specs.declared.tree_archive.outcome.Told.{Told}
use Rattle.ref_scan.specs.declared.tree_archive.outcome.Told.TheVariants.{Whole, NoArchive}
use Rattle.ref_scan.specs.declared.tree.Tree.{Tree, Pieces, Executable, Dir}
use Rattle.ref_scan.specs.declared.tree.Member.{Member}
use Rattle.ref_scan.proofs.Folders.{count_dir}
use Rattle.ref_scan.proofs.Orders.{order_last}
use Rattle.ref_scan.proofs.Belows.{below_from_dir, dir_from_below, one_archive}

-- what was told of a tree that lies in no folder
abbrev pub Root : Tree → List Token → Type 0
Root tree = Then (Tells tree) (Outer [])

no_more : (es : Entries) → AreInOrder [] es → es ≡ NoEntries
no_more NoEntries h = refl
no_more (Entry f t rest) h = absurd h

none_of : {X : Type 0} (xs : List X) → length xs ≡ 0 → xs ≡ []
none_of [] none = refl
none_of (x ∷ xs) none = absurd (omega (arith, none))

-- what is heard of a member, and what follows it
member_tokens : (name : Bytes) (node : Archived) (es : Entries) (rest : List Token)
    → (tokens_among (Entry name node es) ++ FolderEnded ∷ []) ++ rest
    ≡ EntryBegun name ∷ (tokens_of node
    ++ EntryEnded ∷ ((tokens_among es ++ FolderEnded ∷ []) ++ rest))
member_tokens name node es rest =
    ap (λ l. EntryBegun name ∷ (l ++ rest))
    (append_assoc (tokens_of node) (EntryEnded ∷ tokens_among es) (FolderEnded ∷ []))
    ∙ ap (λ l. EntryBegun name ∷ l)
    (append_assoc (tokens_of node) (EntryEnded ∷ (tokens_among es ++ FolderEnded ∷ [])) rest)

-- the first of a folder's members, and what follows it
record IsMember (m : Member) (ms : List Member) (es : Entries) : Type 0 where
  pub node : Archived
  pub rest : Entries
  pub is : es ≡ Entry m.name.items node rest
  pub of_tree : IsArchiveOf m.tree node
  pub archivable : IsArchivable node
  pub are : AreInOrder ms rest

is_member : (m : Member) (ms : List Member) (es : Entries) → AreInOrder (m ∷ ms) es
    → IsMember m ms es
is_member m ms NoEntries h = absurd h
is_member m ms (Entry f t rest) h = record {
  node = t;
  rest = rest;
  is = ap (λ l. Entry l t rest) h.0;
  of_tree = h.1;
  archivable = h.2;
  are = h.3;
}

module _ {S : Type 0} (heard : S → List Token → S → Type 0) where
  -- what is heard joins
  abbrev pub Joins : Type 0
  Joins = (s m t : S) (before after : List Token) → heard s before m → heard m after t
      → heard s (before ++ after) t

  pub told_both : Joins → {s m t : S} {P Q R : List Token → Type 0} → IsTelling heard s m P Q
      → IsTelling heard m t Q R → IsTelling heard s t P R
  told_both joins {s} {m} {t} {P} {Q} {R} a b = record {
    said = a.said ++ b.said;
    hears = joins s m t a.said b.said a.hears b.hears;
    sound = λ ts h. subst P (sym (append_assoc a.said b.said ts))
        (a.sound (b.said ++ ts) (b.sound ts h));
    complete = λ ts h.
        let one = a.complete ts h in
        let two = b.complete one.0 one.2 in (
          two.0,
          one.1 ∙ ap (λ l. a.said ++ l) two.1 ∙ sym (append_assoc a.said b.said two.0),
          two.2,
        );
  }

  -- something follows
  pub told_then : {s t : S} {P Q : List Token → Type 0} (K : List Token → Type 0)
      → IsTelling heard s t P Q → IsTelling heard s t (Then P K) (Then Q K)
  told_then {s} {t} {P} {Q} K a = record {
    said = a.said;
    hears = a.hears;
    sound = λ ts h. record {
      first = a.said ++ h.first;
      rest = h.rest;
      parts = ap (λ l. a.said ++ l) h.parts ∙ sym (append_assoc a.said h.first h.rest);
      begins = a.sound h.first h.begins;
      follows = h.follows;
    };
    complete = λ ts h.
        let one = a.complete h.first h.begins in (
          one.0 ++ h.rest,
          h.parts ∙ ap (λ l. l ++ h.rest) one.1 ∙ append_assoc a.said one.0 h.rest,
          record {
            first = one.0;
            rest = h.rest;
            parts = refl;
            begins = one.2;
            follows = h.follows;
          },
        );
  }

  -- nothing is left of the first
  pub told_on : {s t : S} {P : List Token → Type 0} (K : List Token → Type 0)
      → IsTelling heard s t P (Then Nothing K) → IsTelling heard s t P K
  told_on {s} {t} {P} K a = record {
    said = a.said;
    hears = a.hears;
    sound = λ ts h. a.sound ts (record {
      first = [];
      rest = ts;
      parts = refl;
      begins = refl;
      follows = h;
    });
    complete = λ ts h.
        let one = a.complete ts h in
        let same : one.0 ≡ one.2.rest =
        one.2.parts ∙ ap (λ l. l ++ one.2.rest) one.2.begins in
        (one.2.rest, one.1 ∙ ap (λ l. a.said ++ l) same, one.2.follows);
  }

  -- some tokens are heard that come first
  pub told_said : {s t : S} (said : List Token) (P : List Token → Type 0) → heard s said t
      → IsTelling heard s t (Says said P) P
  told_said {s} {t} said P h = record {
    said = said;
    hears = h;
    sound = λ ts k. record { rest = ts; parts = refl; follows = k };
    complete = λ ts k. (k.rest, k.parts, k.follows);
  }

  -- a tree is heard as a whole
  pub whole_told : {s t : S} (tree : Tree) (archived : Archived) → IsArchiveOf tree archived
      → IsArchivable archived → heard s (tokens_of archived) t
      → IsTelling heard s t (Tells tree) Nothing
  whole_told {s} {t} tree archived of_tree archivable h = record {
    said = tokens_of archived;
    hears = h;
    sound = λ ts none. record {
      archived = archived;
      of_tree = of_tree;
      archivable = archivable;
      said = ap (λ l. tokens_of archived ++ l) none ∙ append-nil (tokens_of archived);
    };
    complete = λ ts k. (
      [],
      k.said ∙ ap tokens_of (one_archive tree k.archived archived k.of_tree of_tree k.archivable
          archivable) ∙ sym (append-nil (tokens_of archived)),
      refl,
    );
  }

  -- the begin of a folder is heard
  pub begin_told : {s t : S} (members : Vec Member Global) (order : List Member)
      → IsOrderOf members.items order → heard s (FolderBegun ∷ []) t
      → IsTelling heard s t (Tells (Dir members)) (InFolder order)
  begin_told {s} {t} members order is h = record {
    said = FolderBegun ∷ [];
    hears = h;
    sound = λ ts k.
        let are = is.sound k.entries k.are in record {
          archived = Folder k.entries;
          of_tree = dir_from_below members k.entries are.0;
          archivable = are.1;
          said = ap (λ l. FolderBegun ∷ l) k.said;
        };
    complete = λ ts k.
        let folder = below_from_dir members k.archived k.of_tree in (
          tokens_among folder.0 ++ FolderEnded ∷ [],
          k.said ∙ ap tokens_of folder.1,
          record {
            entries = folder.0;
            are = is.complete folder.0 folder.2 (subst IsArchivable folder.1 k.archivable);
            said = refl;
          },
        );
  }

  -- the end of a folder is heard
  pub end_told : {s t : S} (K : List Token → Type 0) → heard s (FolderEnded ∷ []) t
      → IsTelling heard s t (Then (InFolder []) K) K
  end_told {s} {t} K h = record {
    said = FolderEnded ∷ [];
    hears = h;
    sound = λ ts k. record {
      first = FolderEnded ∷ [];
      rest = ts;
      parts = refl;
      begins = record { entries = NoEntries; are = tt; said = refl };
      follows = k;
    };
    complete = λ ts k.
        let none : k.begins.entries ≡ NoEntries = no_more k.begins.entries k.begins.are in (
          k.rest,
          k.parts ∙ ap (λ l. l ++ k.rest)
              (k.begins.said ∙ ap (λ es. tokens_among es ++ FolderEnded ∷ []) none),
          k.follows,
        );
  }

  -- the name of a folder's next member is heard
  pub name_told : {s t : S} (m : Member) (ms : List Member) (K : List Token → Type 0)
      → heard s (EntryBegun m.name.items ∷ []) t
      → IsTelling heard s t (Then (InFolder (m ∷ ms)) K)
      (Then (Tells m.tree) (Says (EntryEnded ∷ []) (Then (InFolder ms) K)))
  name_told {s} {t} m ms K h = record {
    said = EntryBegun m.name.items ∷ [];
    hears = h;
    sound = λ ts k.
        let node = k.begins.archived in
        let inner = k.follows.follows in
        let es = inner.begins.entries in
        let all : ts ≡ tokens_of node
        ++ EntryEnded ∷ ((tokens_among es ++ FolderEnded ∷ []) ++ inner.rest) = k.parts
        ∙ ap (λ l. l ++ k.rest) k.begins.said
        ∙ ap (λ l. tokens_of node ++ l) (k.follows.parts
        ∙ ap (λ l. EntryEnded ∷ l) (inner.parts ∙ ap (λ l. l ++ inner.rest) inner.begins.said)) in
        record {
          first = tokens_among (Entry m.name.items node es) ++ FolderEnded ∷ [];
          rest = inner.rest;
          parts = ap (λ l. EntryBegun m.name.items ∷ l) all
              ∙ sym (member_tokens m.name.items node es inner.rest);
          begins = record {
            entries = Entry m.name.items node es;
            are = (refl, k.begins.of_tree, k.begins.archivable, inner.begins.are);
            said = refl;
          };
          follows = inner.follows;
        };
    complete = λ ts k.
        let one = is_member m ms k.begins.entries k.begins.are in
        let later : List Token = (tokens_among one.rest ++ FolderEnded ∷ []) ++ k.rest in (
          tokens_of one.node ++ EntryEnded ∷ later,
          k.parts ∙ ap (λ l. l ++ k.rest) (k.begins.said
              ∙ ap (λ es. tokens_among es ++ FolderEnded ∷ []) one.is)
              ∙ member_tokens m.name.items one.node one.rest k.rest,
          record {
            first = tokens_of one.node;
            rest = EntryEnded ∷ later;
            parts = refl;
            begins = record {
              archived = one.node;
              of_tree = one.of_tree;
              archivable = one.archivable;
              said = refl;
            };
            follows = record {
              rest = later;
              parts = refl;
              follows = record {
                first = tokens_among one.rest ++ FolderEnded ∷ [];
                rest = k.rest;
                parts = refl;
                begins = record { entries = one.rest; are = one.are; said = refl };
                follows = k.follows;
              };
            };
          },
        );
  }

  -- a member has no archive
  pub none_told : {s t : S} {P K : List Token → Type 0} (tree : Tree)
      → IsTelling heard s t P (Then (Tells tree) K) → HasNoArchive tree → (ts : List Token)
      → P ts → ⊥
  none_told {s} {t} {P} {K} tree a none ts h =
      let one = a.complete ts h in
      none one.2.begins.archived one.2.begins.of_tree one.2.begins.archivable

  -- the end of the walk
  pub all_told : {s t : S} (tree : Tree) → IsTelling heard s t (Root tree) (Ahead [])
      → IsHeard heard s t tree
  all_told {s} {t} tree a =
      let whole = a.sound [] refl in
      let none : whole.rest ≡ [] = whole.follows.parts ∙ whole.follows.follows in
      let all : a.said ≡ tokens_of whole.begins.archived = sym (append-nil a.said) ∙ whole.parts
      ∙ ap (λ l. whole.first ++ l) none ∙ append-nil whole.first ∙ whole.begins.said in
      record {
        archived = whole.begins.archived;
        of_tree = whole.begins.of_tree;
        archivable = whole.begins.archivable;
        hears = subst (λ l. heard s l t) all a.hears;
      }

  -- the walk meets a member that has no archive
  pub root_refused : {s t : S} (tree : Tree) (folders : List (List Member))
      → IsTelling heard s t (Root tree) (Ahead folders)
      → ((ts : List Token) → Ahead folders ts → ⊥) → HasNoArchive tree
  root_refused {s} {t} tree folders a none archived of_tree archivable =
      let one = a.complete (tokens_of archived) (record {
        first = tokens_of archived;
        rest = [];
        parts = sym (append-nil (tokens_of archived));
        begins = record {
          archived = archived;
          of_tree = of_tree;
          archivable = archivable;
          said = refl;
        };
        follows = record { rest = []; parts = refl; follows = refl };
      }) in
      none one.0 one.2

  -- a file was told, or no archive has it
  file_told : (s t : S) (tree : Tree) (executable : Bool) (bytes : Bytes) (node : Node)
      → IsArchiveOf tree (ArchivedFile executable bytes)
      → ((a : Archived) → IsArchiveOf tree a → a ≡ ArchivedFile executable bytes)
      → IsFileTold heard s t executable bytes node → IsNode heard s t tree node
  file_told s t tree executable bytes Heard is just h =
      whole_told tree (ArchivedFile executable bytes) is h.0 h.1
  file_told s t tree executable bytes (Begun order) is just h = absurd h
  file_told s t tree executable bytes Refused is just h = λ archived of archivable.
      h (subst IsArchivable (just archived of) archivable)

  pub pieces_told : (s t : S) (tree : Tree) (parts : Vec (Vec ℕ Global) Global)
      (pieces : List (Vec ℕ Global)) (node : Node) → tree ≡ Pieces parts → pieces ≡ parts.items
      → IsFileTold heard s t false (joined pieces) node → IsNode heard s t tree node
  pieces_told s t tree parts pieces node is same h =
      subst (λ l. IsNode heard s t l node) (sym is)
      (file_told s t (Pieces parts) false (joined parts.items) node refl (λ a e. e)
      (subst (λ l. IsFileTold heard s t false (joined l) node) same h))

  pub executable_told : (s t : S) (tree : Tree) (parts : Vec (Vec ℕ Global) Global)
      (pieces : List (Vec ℕ Global)) (node : Node) → tree ≡ Executable parts → pieces ≡ parts.items
      → IsFileTold heard s t true (joined pieces) node → IsNode heard s t tree node
  executable_told s t tree parts pieces node is same h =
      subst (λ l. IsNode heard s t l node) (sym is)
      (file_told s t (Executable parts) true (joined parts.items) node refl (λ a e. e)
      (subst (λ l. IsFileTold heard s t true (joined l) node) same h))

  -- the begin of a folder was told, or no archive has the folder
  dir_told : (s t : S) (members : Vec Member Global) (node : Node)
      → IsBegun heard s t members.items node → IsNode heard s t (Dir members) node
  dir_told s t members Heard h = absurd h
  dir_told s t members (Begun order) h =
      (begin_told members (order_of order.items) h.1 h.0, omega (arith, h.1.count, count_dir members))
  dir_told s t members Refused h = λ archived of archivable.
      let folder = below_from_dir members archived of in
      h folder.0 folder.2 (subst IsArchivable folder.1 archivable)

  pub folder_told : (s t : S) (tree : Tree) (members : Vec Member Global) (list : List Member)
      (node : Node) → tree ≡ Dir members → list ≡ members.items → IsBegun heard s t list node
      → IsNode heard s t tree node
  folder_told s t tree members list node is same h =
      subst (λ l. IsNode heard s t l node) (sym is)
      (dir_told s t members node (subst (λ l. IsBegun heard s t l node) same h))

  -- a tree that is no folder was visited
  pub visit_heard : Joins → (s m t : S) (tree : Tree) (folders : List (List Member))
      → IsNode heard s m tree Heard → heard m (entry_end folders) t
      → IsVisit heard s t tree folders folders Whole
  visit_heard joins s m t tree folders a h = (
    told_both joins (told_on (Outer folders) (told_then (Outer folders) a))
        (told_said (entry_end folders) (Ahead folders) h),
    omega arith,
  )

  -- a folder was visited
  pub visit_begun : (s t : S) (tree : Tree) (folders inner : List (List Member))
      (order : Vec (Bor Member) Global) → inner ≡ order_of order.items ∷ folders
      → IsNode heard s t tree (Begun order) → IsVisit heard s t tree folders inner Whole
  visit_begun s t tree folders inner order is a =
      subst (λ i. IsVisit heard s t tree folders i Whole) (sym is)
      (told_then (Outer folders) a.0, omega (arith, a.1))

  -- a step to the end of a folder
  pub step_end : Joins → (s m t : S) (order : List (Bor Member)) (folders : List (List Member))
      → length order ≡ 0 → heard s (FolderEnded ∷ []) m → heard m (entry_end folders) t
      → IsStep heard s t (order_of order ∷ folders) folders Whole
  step_end joins s m t order folders none h k =
      subst (λ l. IsStep heard s t (order_of l ∷ folders) folders Whole) (sym (none_of order none)) (
        told_both joins (end_told (Outer folders) h)
            (told_said (entry_end folders) (Ahead folders) k),
        omega arith,
      )

  member_step : Joins → (s m t : S) (member : Member) (ms : List Member)
      (folders inner : List (List Member)) (told : Told)
      → heard s (EntryBegun member.name.items ∷ []) m
      → IsVisit heard m t member.tree (ms ∷ folders) inner told
      → IsStep heard s t ((member ∷ ms) ∷ folders) inner told
  member_step joins s m t member ms folders inner Whole h v =
      (told_both joins (name_told member ms (Outer folders) h) v.0, omega (arith, v.1))
  member_step joins s m t member ms folders inner NoArchive h v =
      none_told member.tree (name_told member ms (Outer folders) h) v

  -- a step to a member
  pub step_member : Joins → (s m t : S) (order left : List (Bor Member)) (ref : Bor Member)
      (name : Bytes) (folders outer inner : List (List Member)) (told : Told)
      → order ≡ left ++ ref ∷ [] → outer ≡ order_of left ∷ folders → name ≡ ref.now.name.items
      → heard s (EntryBegun name ∷ []) m → IsVisit heard m t ref.now.tree outer inner told
      → IsStep heard s t (order_of order ∷ folders) inner told
  step_member joins s m t order left ref name folders outer inner told is more named h v =
      subst (λ l. IsStep heard s t (l ∷ folders) inner told) (sym (ap order_of is ∙ order_last left ref))
      (member_step joins s m t ref.now (order_of left) folders inner told
      (subst (λ l. heard s (EntryBegun l ∷ []) m) named h)
      (subst (λ l. IsVisit heard m t ref.now.tree l inner told) more v))

  -- a step of the walk
  pub walk_on : Joins → (s m t : S) (tree : Tree) (folders mid inner : List (List Member))
      → folders ≡ mid → IsTelling heard s m (Root tree) (Ahead folders)
      → IsStep heard m t mid inner Whole → IsTelling heard s t (Root tree) (Ahead inner)
  walk_on joins s m t tree folders mid inner is a step =
      told_both joins (subst (λ l. IsTelling heard s m (Root tree) (Ahead l)) is a) step.0

  pub walk_refused : (s m t : S) (tree : Tree) (folders mid inner : List (List Member))
      → folders ≡ mid → IsTelling heard s m (Root tree) (Ahead folders)
      → IsStep heard m t mid inner NoArchive → HasNoArchive tree
  walk_refused s m t tree folders mid inner is a step =
      root_refused tree mid (subst (λ l. IsTelling heard s m (Root tree) (Ahead l)) is a) step

  pub walk_ended : (s t : S) (tree : Tree) (folders : List (List Member)) → folders ≡ []
      → IsTelling heard s t (Root tree) (Ahead folders) → IsHeard heard s t tree
  walk_ended s t tree folders is a =
      all_told tree (subst (λ l. IsTelling heard s t (Root tree) (Ahead l)) is a)

-- what a writer writes into its sink
pub written : {S W : Type 0} (took : S → Bytes → S → Type 0) (sink_of : W → S)
    → ((s m t : S) (before after : Bytes) → took s before m → took m after t
    → took s (before ++ after) t) → (s : S) (m t : W) (tree : Tree) → took s magic (sink_of m)
    → IsHeard (λ a tokens b. took (sink_of a) (text_of tokens) (sink_of b)) m t tree
    → HasArchive tree (λ bytes. took s bytes (sink_of t))
written took sink_of joins s m t tree head h = record {
  archived = h.archived;
  of_tree = h.of_tree;
  archivable = h.archivable;
  holds = subst (λ l. took s l (sink_of t)) (ap (λ l. magic ++ l) (text_of_tree h.archived))
      (joins s (sink_of m) (sink_of t) magic (text_of (tokens_of h.archived)) head h.hears);
}
