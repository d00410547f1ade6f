-- How trees and entries begin.
use Rattle.std.proofs.Common.{◌≡◌, ◌≢◌, ◌∙◌, Bool, true, false, List, [], ◌∷◌, ◌++◌, refl, ap, sym, inl, inr, append_assoc, append-nil, drop}
use Rattle.std.specs.Prelude.{codes}
use Rattle.std.proofs.Math.ListN.{replicate}
use Rattle.nix_archive.specs.Trees.{IsArchivable, IsString, AreEntries, Bytes, Tree, Entries, File, Link, Folder, NoEntries, Entry}
use Rattle.nix_archive.specs.Archive.{mark, node, nodes, padding, size_text, str, strs}
use Rattle.nix_archive.specs.Tokens.{Token, FolderBegun, FolderEnded, EntryBegun, EntryEnded, tokens_of, tokens_among, file_tokens}
use Rattle.nix_archive.specs.Parts.{After, Says, Either, Counted, Node, Nodes, Outer, LetterRest, MarkRest, close, ended, file, named, open_text}
use Rattle.nix_archive.specs.Reading.{IsSame}

-- how the type of a file or a link begins
abbrev pub seven : Bytes
seven = 7 ∷ replicate 7 0

-- how a folder's type is written
abbrev pub directory : Bytes
directory = str (codes "directory")

-- how an entry begins
abbrev pub entry_text : Bytes
entry_text = strs (codes "entry" ∷ codes "(" ∷ codes "name" ∷ [])

-- what follows how a tree begins
abbrev pub KindRest : (K : List Token → Bytes → Type 0) → List Token → Bytes → Type 0
KindRest K = Either seven (LetterRest K) directory (Says (FolderBegun ∷ []) (Nodes [] K))

-- what follows in a folder
abbrev pub MoreRest : (before : Bytes) (outer : List Bytes) → List Token → Bytes → Type 0
MoreRest before outer = Either entry_text (Says (ended before) (Counted (named before outer)))
    close (Says (ended before ++ FolderEnded ∷ []) (Outer outer))

put : {text : Bytes} {P : List Token → Bytes → Type 0} {ts : List Token} {u : Bytes} (rest : Bytes)
    → u ≡ text ++ rest → P ts rest → After text P ts u
put rest e h = record { rest = rest; begins = e; follows = h }

regroup : (m c b p r : Bytes) → (m ++ (c ++ (b ++ (p ++ [])))) ++ r ≡ (m ++ c) ++ (b ++ (p ++ r))
regroup m c b p r = simp (append_assoc, append-nil)

regroup_two : (b p r : Bytes) → (b ++ (p ++ [])) ++ r ≡ b ++ (p ++ r)
regroup_two b p r = simp (append_assoc, append-nil)

-- the mark and the bytes of a file, its end, and what follows
abbrev file_text : Bool → Bytes → Bytes → Bytes
file_text x bytes rest = (mark x ++ strs (codes "contents" ∷ bytes ∷ codes ")" ∷ [])) ++ rest

record IsMarked (K : List Token → Bytes → Type 0) (ts : List Token) (u : Bytes) : Type 0 where
  executable : Bool
  bytes : Bytes
  is_string : IsString bytes
  later : List Token
  said : ts ≡ file_tokens executable bytes ++ later
  rest : Bytes
  begins : u ≡ file_text executable bytes rest
  follows : K later rest

mark_to : (K : List Token → Bytes → Type 0) (x : Bool) (bytes : Bytes) (ts later : List Token)
    (rest : Bytes) → IsString bytes → ts ≡ file_tokens x bytes ++ later → K later rest
    → MarkRest K ts (file_text x bytes rest)
mark_to K true bytes ts later rest is_string said k =
    inl (put (str bytes ++ (close ++ rest))
    (regroup (mark true) (str (codes "contents")) (str bytes) close rest)
    record {
      bytes = bytes;
      is_string = is_string;
      follows = put (close ++ rest) refl record
          { later = later; begins = said; follows = put rest refl k };
    })
mark_to K false bytes ts later rest is_string said k =
    inr (put (str bytes ++ (close ++ rest))
    (regroup [] (str (codes "contents")) (str bytes) close rest)
    record {
      bytes = bytes;
      is_string = is_string;
      follows = put (close ++ rest) refl record
          { later = later; begins = said; follows = put rest refl k };
    })

marked : (K : List Token → Bytes → Type 0) (x : Bool) (text : Bytes) (ts : List Token) (u : Bytes)
    → text ≡ mark x ++ str (codes "contents") → After text (Counted (file x K)) ts u → IsMarked K ts
    u
marked K x text ts u is h =
    let c = h.follows in
    let d = c.follows.follows in record {
      executable = x;
      bytes = c.bytes;
      is_string = c.is_string;
      later = d.later;
      said = d.begins;
      rest = d.follows.rest;
      begins = h.begins ∙ ap (λ l. l ++ h.rest) is
          ∙ ap (λ l. (mark x ++ str (codes "contents")) ++ l)
          (c.follows.begins ∙ ap (λ l. str c.bytes ++ l) d.follows.begins)
          ∙ sym (regroup (mark x) (str (codes "contents")) (str c.bytes) close d.follows.rest);
      follows = d.follows.follows;
    }

mark_from : (K : List Token → Bytes → Type 0) (ts : List Token) (u : Bytes) → MarkRest K ts u
    → IsMarked K ts u
mark_from K ts u h =
    elim h [
      | inl w ↦ marked K true (mark true ++ str (codes "contents")) ts u refl w
      | inr w ↦ marked K false (str (codes "contents")) ts u refl w
    ]

abbrev regular : Bytes
regular = codes "regular" ++ 0 ∷ []

abbrev symlink : Bytes
symlink = codes "symlink" ++ 0 ∷ str (codes "target")

kind_to : (K : List Token → Bytes → Type 0) (tree : Tree) → IsArchivable tree → (ts : List Token)
    (u : Bytes) (later : List Token) (rest : Bytes) → ts ≡ tokens_of tree ++ later
    → open_text ++ u ≡ node tree ++ rest → K later rest → KindRest K ts u
unfolding str size_text padding
kind_to K (File x bytes) a ts u later rest said e k =
    let e₁ : u ≡ seven ++ (regular ++ file_text x bytes rest) = ap (drop 32) e in
    inl (put (regular ++ file_text x bytes rest) e₁
    (inl (put (file_text x bytes rest) refl (mark_to K x bytes ts later rest a said k))))
kind_to K (Link target) a ts u later rest said e k =
    let e₁ : u ≡ seven ++ (symlink ++ ((str target ++ (close ++ [])) ++ rest)) = ap (drop 32) e in
    let r : Bytes = str target ++ (close ++ rest) in
    inl (put (symlink ++ r) (e₁ ∙ ap (λ l. seven ++ (symlink ++ l))
    (regroup_two (str target) close rest))
    (inr (put r refl record {
      bytes = target;
      is_string = a;
      follows = put (close ++ rest) refl record
          { later = later; begins = said; follows = put rest refl k };
    })))
kind_to K (Folder entries) a ts u later rest said e k =
    let e₁ : u ≡ directory ++ ((nodes entries ++ close) ++ rest) = ap (drop 32) e in
    inr (put ((nodes entries ++ close) ++ rest) e₁ record {
      later = (tokens_among entries ++ FolderEnded ∷ []) ++ later;
      begins = said;
      follows = record {
        entries = entries;
        are = a;
        follows = record {
          later = later;
          begins = refl;
          follows = put (close ++ rest) (append_assoc (nodes entries) close rest) (put rest refl k);
        };
      };
    })

kind_from : (K : List Token → Bytes → Type 0) (ts : List Token) (u : Bytes) → KindRest K ts u
    → Node K ts (open_text ++ u)
unfolding str size_text padding
kind_from K ts u h =
    elim h [
      | inl w ↦ elim (w.follows) [
        | inl v ↦
            let m = mark_from K ts v.rest v.follows in record {
              tree = File m.executable m.bytes;
              archivable = m.is_string;
              follows = record {
                later = m.later;
                begins = m.said;
                follows = put m.rest (ap (λ l. open_text ++ l) (w.begins
                    ∙ ap (λ l. seven ++ l) (v.begins ∙ ap (λ l. regular ++ l) m.begins))) m.follows;
              };
            }
        | inr v ↦
            let c = v.follows in
            let d = c.follows.follows in record {
              tree = Link c.bytes;
              archivable = c.is_string;
              follows = record {
                later = d.later;
                begins = d.begins;
                follows = put d.follows.rest (ap (λ l. open_text ++ l) (w.begins
                    ∙ ap (λ l. seven ++ l) (v.begins ∙ ap (λ l. symlink ++ l) (c.follows.begins
                    ∙ ap (λ l. str c.bytes ++ l) d.follows.begins
                    ∙ sym (regroup_two (str c.bytes) close d.follows.rest))))) d.follows.follows;
              };
            }
      ]
      | inr w ↦
          let n = w.follows.follows in
          let a = n.follows.follows in record {
            tree = Folder n.entries;
            archivable = n.are;
            follows = record {
              later = n.follows.later;
              begins = w.follows.begins ∙ ap (λ l. FolderBegun ∷ l) n.follows.begins;
              follows = put a.follows.rest (ap (λ l. open_text ++ l) (w.begins
                  ∙ ap (λ l. directory ++ l) (a.begins ∙ ap (λ l. nodes n.entries ++ l)
                  a.follows.begins
                  ∙ sym (append_assoc (nodes n.entries) close a.follows.rest)))) a.follows.follows;
            };
          }
    ]

-- how a tree begins
pub same_kind : (K : List Token → Bytes → Type 0)
    → IsSame (λ ts u. Node K ts (open_text ++ u)) (KindRest K)
same_kind K = record {
  to = λ ts u h. kind_to K h.tree h.archivable ts u h.follows.later h.follows.follows.rest
      h.follows.begins h.follows.follows.begins h.follows.follows.follows;
  from = kind_from K;
}

ended_name : (name : Bytes) → name ≢ [] → ended name ≡ EntryEnded ∷ []
ended_name [] ne = absurd (ne refl)
ended_name (b ∷ bs) ne = refl

retold : (e t a f l : List Token) (n c : Token) → (e ++ ((n ∷ (t ++ c ∷ a)) ++ f)) ++ l
    ≡ e ++ n ∷ (t ++ ((c ∷ (a ++ f)) ++ l))
retold e t a f l n c = simp append_assoc

regroup_entry : (a b c n m t d r x : Bytes) →
    ((a ++ (b ++ (c ++ (n ++ (m ++ []))))) ++ (t ++ (d ++ r))) ++ x
    ≡ (a ++ (b ++ (c ++ []))) ++ (n ++ (m ++ (t ++ (d ++ (r ++ x)))))
regroup_entry a b c n m t d r x = simp (append_assoc, append-nil)

entry_regroup : (name tree rest x : Bytes) →
    (strs (codes "entry" ∷ codes "(" ∷ codes "name" ∷ name ∷ codes "node" ∷ [])
    ++ (tree ++ (close ++ rest))) ++ x
    ≡ entry_text ++ (str name ++ (str (codes "node") ++ (tree ++ (close ++ (rest ++ x)))))
entry_regroup name tree rest x =
    regroup_entry (str (codes "entry")) (str (codes "(")) (str (codes "name")) (str name)
    (str (codes "node")) tree close rest x

more_to : (before : Bytes) (outer : List Bytes) (entries : Entries) → AreEntries before entries
    → (ts : List Token) (u : Bytes) (later : List Token) (rest : Bytes)
    → ts ≡ (ended before ++ (tokens_among entries ++ FolderEnded ∷ [])) ++ later
    → u ≡ nodes entries ++ (close ++ rest) → Outer outer later rest → MoreRest before outer ts u
more_to before outer NoEntries a ts u later rest said e k =
    inr (put rest e record { later = later; begins = said; follows = k })
more_to before outer (Entry name tree others) a ts u later rest said e k =
    let named_is : ended name ≡ EntryEnded ∷ [] = ended_name name a.0.not_empty in
    let third : List Token = (EntryEnded ∷ (tokens_among others ++ FolderEnded ∷ [])) ++ later in
    let r₄ : Bytes = nodes others ++ (close ++ rest) in
    let r₃ : Bytes = node tree ++ (close ++ r₄) in
    let r₂ : Bytes = str (codes "node") ++ r₃ in
    let inner : Outer (name ∷ outer) third (close ++ r₄) = put r₄ refl record {
      entries = others;
      are = a.3;
      follows = record {
        later = later;
        begins = ap (λ l. (l ++ (tokens_among others ++ FolderEnded ∷ [])) ++ later) (sym named_is);
        follows = put (close ++ rest) refl (put rest refl k);
      };
    } in
    inl (put (str name ++ r₂) (e ∙ entry_regroup name (node tree) (nodes others) (close ++ rest))
    record {
      later = EntryBegun name ∷ (tokens_of tree ++ third);
      begins = said ∙ retold (ended before) (tokens_of tree) (tokens_among others)
          (FolderEnded ∷ [])
          later (EntryBegun name) EntryEnded;
      follows = record {
        bytes = name;
        is_string = a.0.is_string;
        follows = put r₂ refl (
          a.0,
          a.1,
          record {
            later = tokens_of tree ++ third;
            begins = refl;
            follows = put r₃ refl record {
              tree = tree;
              archivable = a.2;
              follows = record {
                later = third;
                begins = refl;
                follows = put (close ++ r₄) refl
                    inner;
              };
            };
          },
        );
      };
    })

more_from : (before : Bytes) (outer : List Bytes) (ts : List Token) (u : Bytes)
    → MoreRest before outer ts u → Nodes before (Outer outer) ts u
more_from before outer ts u h =
    elim h [
      | inl w ↦
          let c = w.follows.follows in
          let name = c.bytes in
          let is_name = c.follows.follows.0 in
          let s = c.follows.follows.2 in
          let n = s.follows.follows in
          let t = n.follows in
          let i = t.follows.follows in
          let o = i.follows in
          let named_is : ended name ≡ EntryEnded ∷ [] = ended_name name is_name.not_empty in
          let end = o.follows.follows.follows in
          let inner : i.rest ≡ nodes o.entries ++ (close ++ end.rest) = o.follows.follows.begins
          ∙ ap (λ l. nodes o.entries ++ l) end.begins in
          record {
            entries = Entry name n.tree o.entries;
            are = (is_name, c.follows.follows.1, n.archivable, o.are);
            follows = record {
              later = o.follows.later;
              begins = w.follows.begins
                  ∙ ap (λ l. ended before ++ l) (s.begins
                  ∙ ap (λ l. EntryBegun name ∷ l) (t.begins
                  ∙ ap (λ l. tokens_of n.tree ++ l) (o.follows.begins
                  ∙ ap (λ l. (l ++ (tokens_among o.entries ++ FolderEnded ∷ [])) ++ o.follows.later)
                  named_is)))
                  ∙ sym (retold (ended before) (tokens_of n.tree) (tokens_among o.entries)
                  (FolderEnded ∷ [])
                  o.follows.later (EntryBegun name) EntryEnded);
              follows = put (close ++ end.rest) (w.begins
                  ∙ ap (λ l. entry_text ++ l) (c.follows.begins
                  ∙ ap (λ l. str name ++ l) (s.follows.begins
                  ∙ ap (λ l. str (codes "node") ++ l) (t.follows.begins
                  ∙ ap (λ l. node n.tree ++ l) (i.begins ∙ ap (λ l. close ++ l) inner))))
                  ∙ sym (entry_regroup name (node n.tree) (nodes o.entries) (close ++ end.rest)))
                  (put end.rest refl end.follows);
            };
          }
      | inr w ↦ record {
        entries = NoEntries;
        are = tt;
        follows = record {
          later = w.follows.later;
          begins = w.follows.begins;
          follows = put u refl (put w.rest w.begins w.follows.follows);
        };
      }
    ]

-- what follows in a folder
pub same_more : (before : Bytes) (outer : List Bytes)
    → IsSame (Nodes before (Outer outer)) (MoreRest before outer)
same_more before outer = record {
  to = λ ts u h. more_to before outer h.entries h.are ts u h.follows.later
      h.follows.follows.follows.rest h.follows.begins
      (h.follows.follows.begins ∙ ap (λ l. nodes h.entries ++ l) h.follows.follows.follows.begins)
      h.follows.follows.follows.follows;
  from = more_from before outer;
}
