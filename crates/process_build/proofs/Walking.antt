-- What a walk over a tree on disk has told, step by step.
use Rattle.std.proofs.Common.{◌≡◌, ◌∙◌, ℕ, ◌+◌, ◌-◌, ◌<◌, ◌≤◌, ◌^◌, Bool, List, Option, Some, None, [], ◌∷◌, ◌++◌, length, map, take, refl, ap, sym, subst, append_assoc, append-nil, arith, length-append}
use Rattle.std.specs.Prelude.{reverse}
use Rattle.std.specs.Io.KnownBytes.{Consumes, IsAtEnd}
use Rattle.std.proofs.KnownBytes.{Consumes-nil, Consumes-trans}
use Rattle.std.proofs.lemmas.List.{map-append, reverse-append}
use Rattle.std.specs.declared.alloc.Global.{Global}
use Rattle.std.specs.declared.vec.Vec.{Vec}
use Rattle.nix_archive.specs.Trees.{AreBytes, AreEntries, Bytes, Entries, Entry, File, Folder, IsAfter, IsArchivable, IsName, IsString, Link, NoEntries, Tree}
use Rattle.nix_archive.specs.Tokens.{Token, EntryBegun, EntryEnded, FileBegun, FileByte, FileEnded, FolderBegun, FolderEnded, LinkTo, tokens_among, tokens_of}
use Rattle.nix_archive.proofs.Bytes.{both_bytes, no_bytes}
use Rattle.process_build.specs.Walks.{IsTreeTold}
use Rattle.process_build.specs.declared.walk.tree_walk.OpenFolder.{OpenFolder}
use Rattle.process_build.specs.private.Walking.{AreAhead, AreAllTold, AreTold, IsAt, IsFileTold, IsFolderBegun, IsFoundTold, IsPart, IsAtOrDone, IsWithin, ahead_of, first_first, last_name}

-- ---- the entries of a folder

-- one more entry, as the last
more : Entries → Bytes → Tree → Entries
more NoEntries name tree = Entry name tree NoEntries
more (Entry n t rest) name tree = Entry n t (more rest name tree)

tokens_more : (told : Entries) (name : Bytes) (tree : Tree) → tokens_among (more told name tree)
    ≡ tokens_among told ++ EntryBegun name ∷ (tokens_of tree ++ EntryEnded ∷ [])
unfolding more
tokens_more NoEntries name tree = refl
tokens_more (Entry n t rest) name tree =
    ap (λ l. EntryBegun n ∷ (tokens_of t ++ EntryEnded ∷ l)) (tokens_more rest name tree)
    ∙ ap (λ l. EntryBegun n ∷ l) (sym (append_assoc (tokens_of t)
    (EntryEnded ∷ tokens_among rest) (EntryBegun name ∷ (tokens_of tree ++ EntryEnded ∷ []))))

last_more : (before : Bytes) (told : Entries) (name : Bytes) (tree : Tree)
    → last_name before (more told name tree) ≡ name
unfolding more
last_more before NoEntries name tree = refl
last_more before (Entry n t rest) name tree = last_more n rest name tree

are_more : (before : Bytes) (told : Entries) (name : Bytes) (tree : Tree) → AreEntries before told
    → IsName name → IsAfter (last_name before told) name → IsArchivable tree
    → AreEntries before (more told name tree)
unfolding more
are_more before NoEntries name tree are is after archivable = (is, after, archivable, tt)
are_more before (Entry n t rest) name tree are is after archivable =
    (are.0, are.1, are.2, are_more n rest name tree are.3 is after archivable)

-- the next entry was told
part_more : (told : Entries) (name : Bytes) (ahead : List Bytes) (tree : Tree)
    → IsPart told (name ∷ ahead) → IsArchivable tree → IsPart (more told name tree) ahead
part_more told name ahead tree part archivable = record {
  are = are_more [] told name tree part.are part.rise.0 part.rise.1 archivable;
  rise = subst (λ l. AreAhead l ahead) (sym (last_more [] told name tree)) part.rise.2;
}

-- the name that is popped is the next one
pub popped : (old new : List (Vec ℕ Global)) (name : Vec ℕ Global) (bytes : Bytes)
    → old ≡ new ++ name ∷ [] → bytes ≡ name.items → first_first old ≡ bytes ∷ first_first new
popped old new name bytes e same =
    ap first_first e
    ∙ ap (map (λ (n : Vec ℕ Global). n.items)) (reverse-append new (name ∷ []))
    ∙ ap (λ l. l ∷ first_first new) (sym same)

-- nothing was popped
pub emptied : (old new : List OpenFolder) (size : ℕ) → old ≡ new ++ [] → new ≡ take (size - 1) old
    → size ≡ 0 → old ≡ []
emptied old new size all rest none =
    all ∙ append-nil new ∙ rest ∙ ap (λ n. take (n - 1) old) none

pushed : (around more : List OpenFolder) (folder : OpenFolder) → more ≡ around ++ folder ∷ []
    → reverse more ≡ folder ∷ reverse around
pushed around more folder e = ap reverse e ∙ reverse-append around (folder ∷ [])

regrouped : (a d x : List Token) (e n l c : Token)
    → ((a ++ e ∷ (d ++ n ∷ [])) ++ e ∷ x) ++ l ∷ c ∷ []
    ≡ a ++ e ∷ (d ++ n ∷ ((e ∷ (x ++ l ∷ [])) ++ c ∷ []))
regrouped a d x e n l c = simp append_assoc

module _ {S : Type 0} (heard : S → List Token → S → Type 0)
    (joins : (s m t : S) (before after : List Token) → heard s before m → heard m after t
    → heard s (before ++ after) t) where
  say : {s t : S} {said other : List Token} → said ≡ other → heard s said t → heard s other t
  say {s} {t} e h = subst (λ l. heard s l t) e h

  -- ---- files

  -- nothing is told of a file yet
  pub none_told : (s : S) (size : ℕ) (old : Option Bytes) → heard s [] s → size ≡ 0
      → AreTold heard s s size old old
  none_told s size old h e = record {
    bytes = [];
    sized = sym e;
    are_bytes = no_bytes;
    hears = h;
    read = Consumes-nil old;
  }

  -- one more piece was told
  pub piece_told : (s m t : S) (size left after : ℕ) (old mid new : Option Bytes) (piece : Bytes)
      → AreTold heard s m (size - left) old mid → AreBytes piece
      → heard m (map FileByte piece) t → Consumes mid new piece → left ≤ size
      → after + length piece ≡ left
      → AreTold heard s t (size - after) old new
  piece_told s m t size left after old mid new piece told are h read within e = record {
    bytes = told.bytes ++ piece;
    sized = omega (arith, told.sized, length-append told.bytes piece, within, e);
    are_bytes = both_bytes told.bytes piece told.are_bytes are;
    hears = say (sym (map-append FileByte told.bytes piece))
        (joins s m t _ _ told.hears h);
    read = Consumes-trans old mid new told.bytes piece told.read read;
  }

  -- a last reading gave no bytes, and no bytes were left
  pub all_told : (s t : S) (size left count : ℕ) (old mid new : Option Bytes) (buffer : Bytes)
      → AreTold heard s t (size - left) old mid → left ≡ 0 → count ≡ 0
      → Consumes mid new (take count buffer) → IsAtEnd new → AreAllTold heard s t size old new
  all_told s t size left count old mid new buffer told none zero read ended = record {
    told = record {
      bytes = told.bytes;
      sized = omega (arith, told.sized, none);
      are_bytes = told.are_bytes;
      hears = told.hears;
      read = subst (Consumes old new)
          (ap (λ n. told.bytes ++ take n buffer) zero ∙ append-nil told.bytes)
          (Consumes-trans old mid new told.bytes (take count buffer) told.read read);
    };
    ended = ended;
  }

  -- a file was told
  pub file_told : (s a b t : S) (executable : Bool) (size : ℕ) (old new : Option Bytes)
      → size < 2 ^ 64 → heard s (FileBegun executable size ∷ []) a
      → AreAllTold heard a b size old new → heard b (FileEnded size ∷ []) t
      → IsFileTold heard s t executable size old new
  file_told s a b t executable size old new lt begun all ended =
      let told = all.told in
      record {
        bytes = told.bytes;
        is_string = record { sized = omega (arith, told.sized, lt); are_bytes = told.are_bytes };
        sized = told.sized;
        hears = say
            (ap (λ n. FileBegun executable n ∷ (map FileByte told.bytes ++ FileEnded n ∷ []))
            (sym told.sized))
            (joins s a t _ _ begun (joins a b t _ _ told.hears ended));
        read = told.read;
        ended = all.ended;
      }

  pub tree_file : (s t : S) (executable : Bool) (size : ℕ) (old new : Option Bytes)
      → IsFileTold heard s t executable size old new → IsTreeTold heard s t
  tree_file s t executable size old new file = record {
    tree = File executable file.bytes;
    archivable = file.is_string;
    hears = file.hears;
  }

  pub tree_link : (s t : S) (target : Bytes) → IsString target → heard s (LinkTo target ∷ []) t
      → IsTreeTold heard s t
  tree_link s t target is h = record { tree = Link target; archivable = is; hears = h }

  -- ---- folders

  -- the walk begins in a folder that lies in no other one
  at_begun : (s t : S) (folder : OpenFolder) (around : List OpenFolder) → around ≡ []
      → IsFolderBegun heard s t folder → IsAt heard s t (ahead_of folder) around
  at_begun s t folder around e begun = subst (IsAt heard s t (ahead_of folder)) (sym e) record {
    outer = [];
    within = refl;
    told = NoEntries;
    part = record { are = tt; rise = begun.rise };
    hears = begun.hears;
  }

  -- the walk begins
  pub at_or_done : (s t : S) (position : Option OpenFolder) (around : List OpenFolder) → around ≡ []
      → IsFoundTold heard s t position → IsAtOrDone heard s t position around
  at_or_done s t None around e h = h
  at_or_done s t (Some folder) around e h = at_begun s t folder around e h

  -- an entry that is a file or a link was told
  pub at_more : (s a b c t : S) (ahead later : List Bytes) (name : Bytes)
      (around : List OpenFolder) → ahead ≡ name ∷ later → IsAt heard s a ahead around
      → heard a (EntryBegun name ∷ []) b → IsTreeTold heard b c → heard c (EntryEnded ∷ []) t
      → IsAt heard s t later around
  at_more s a b c t ahead later name around e at begun whole ended = record {
    outer = at.outer;
    within = at.within;
    told = more at.told name whole.tree;
    part = part_more at.told name later whole.tree (subst (IsPart at.told) e at.part)
        whole.archivable;
    hears = say (append_assoc at.outer (FolderBegun ∷ tokens_among at.told)
        (EntryBegun name ∷ (tokens_of whole.tree ++ EntryEnded ∷ []))
        ∙ ap (λ l. at.outer ++ FolderBegun ∷ l) (sym (tokens_more at.told name whole.tree)))
        (joins s a t _ _ at.hears (joins a b t _ _ begun (joins b c t _ _ whole.hears ended)));
  }

  -- an entry that is a folder begins
  pub at_deeper : (s a b t : S) (ahead : List Bytes) (name : Bytes) (folder inside : OpenFolder)
      (around deeper : List OpenFolder) → ahead ≡ name ∷ ahead_of folder
      → deeper ≡ around ++ folder ∷ [] → IsAt heard s a ahead around
      → heard a (EntryBegun name ∷ []) b → IsFolderBegun heard b t inside
      → IsAt heard s t (ahead_of inside) deeper
  at_deeper s a b t ahead name folder inside around deeper e pushes at begun entered =
      let outer : List Token =
      at.outer ++ FolderBegun ∷ (tokens_among at.told ++ EntryBegun name ∷ []) in
      record {
        outer = outer;
        within = subst (λ l. IsWithin l outer) (sym (pushed around deeper folder pushes)) (
          at.outer,
          at.told,
          name,
          at.within,
          subst (IsPart at.told) e at.part,
          refl,
        );
        told = NoEntries;
        part = record { are = tt; rise = entered.rise };
        hears = say (sym (append_assoc (at.outer ++ FolderBegun ∷ tokens_among at.told)
            (EntryBegun name ∷ []) (FolderBegun ∷ []))
            ∙ ap (λ l. l ++ FolderBegun ∷ []) (append_assoc at.outer
            (FolderBegun ∷ tokens_among at.told) (EntryBegun name ∷ [])))
            (joins s a t _ _ at.hears (joins a b t _ _ begun entered.hears));
      }

  -- the outermost folder ends
  pub whole_at : (s a t : S) (ahead : List Bytes) (around : List OpenFolder) → around ≡ []
      → IsAt heard s a ahead around → heard a (FolderEnded ∷ []) t → IsTreeTold heard s t
  whole_at s a t ahead around e at₀ ended =
      let at : IsAt heard s a ahead [] = subst (IsAt heard s a ahead) e at₀ in
      record {
        tree = Folder at.told;
        archivable = at.part.are;
        hears = say
            (ap (λ l. (l ++ FolderBegun ∷ tokens_among at.told) ++ FolderEnded ∷ []) at.within)
            (joins s a t _ _ at.hears ended);
      }

  -- a folder in another one ends
  pub at_above : (s a b t : S) (ahead : List Bytes) (folder : OpenFolder)
      (around above : List OpenFolder) → around ≡ above ++ folder ∷ []
      → IsAt heard s a ahead around → heard a (FolderEnded ∷ []) b → heard b (EntryEnded ∷ []) t
      → IsAt heard s t (ahead_of folder) above
  at_above s a b t ahead folder around above e at left ended =
      let w : IsWithin (folder ∷ reverse above) at.outer =
      subst (λ l. IsWithin l at.outer) (pushed above around folder e) at.within in
      let outer : List Token = w.0 in
      let told : Entries = w.1 in
      let name : Bytes = w.2 in
      let tree : Tree = Folder at.told in
      record {
        outer = outer;
        within = w.3;
        told = more told name tree;
        part = part_more told name (ahead_of folder) tree w.4 at.part.are;
        hears = say
            (ap (λ l. (l ++ FolderBegun ∷ tokens_among at.told) ++ FolderEnded ∷ EntryEnded ∷ [])
            w.5
            ∙ regrouped outer (tokens_among told) (tokens_among at.told) FolderBegun
            (EntryBegun name) FolderEnded EntryEnded
            ∙ ap (λ l. outer ++ FolderBegun ∷ l) (sym (tokens_more told name tree)))
            (joins s a t _ _ at.hears (joins a b t _ _ left ended));
      }
