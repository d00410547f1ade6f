-- A reader of a whole archive.
use Rattle.std.proofs.Common.{◌≡◌, ◌≢◌, ◌∙◌, ℕ, ◌+◌, ◌<◌, ◌≤◌, zero, suc, Bool, true, false, List, [], ◌∷◌, ◌++◌, length, refl, ap, sym, subst, append_assoc, append-nil, take, drop, arith, length-drop}
use Rattle.std.proofs.Math.ListN.{replicate}
use Rattle.std.proofs.Common.{inl, inr, get_or}
use Rattle.std.proofs.lemmas.List.{length-replicate}
use Rattle.std.proofs.Math.Seq.{take-add}
use Rattle.nix_archive.specs.Trees.{Bytes, Tree, File, Link, Folder}
use Rattle.nix_archive.specs.Archive.{magic, node}
use Rattle.nix_archive.specs.Tokens.{Token, FolderEnded, tokens_among, tokens_of}
use Rattle.nix_archive.specs.declared.mode.Mode.{Mode}
use Rattle.nix_archive.specs.declared.mode.Mode.TheVariants.{Kind, Letter, Mark, More, Size, Contents, Name, Target, End}
use Rattle.nix_archive.specs.declared.mode.What.TheVariants.{File as OfFile, Name as OfName, Target as OfTarget}
use Rattle.nix_archive.specs.Parts.{After, Counted, Node, Nothing, Outer, LetterRest, MarkRest, ended, file, link, open_text}
use Rattle.nix_archive.specs.Rests.{mode_rest}
use Rattle.nix_archive.specs.Reading.{IsArchive, IsSame, IsStep, IsRefused}
use Rattle.nix_archive.specs.private.Takes.{is_end, is_some_count, IsTaken, IsTakenOf, Unheard}
use Rattle.nix_archive.proofs.Rests.{after_both, after_none, after_same, fixed_step, heard_nothing, refused, same, same_both, steps, step_from}
use Rattle.nix_archive.proofs.Ends.{same_open, unfixed}
use Rattle.nix_archive.proofs.Turns.{Next}

module _ {S : Type 0} (heard : S → List Token → S → Type 0) where
  pub unheard : (s : S) (P Q : List Token → Bytes → Type 0) (read : Bytes) (taken : Bool)
      → heard s [] s → IsTaken Unheard 0 0 P Q read taken → IsTaken heard s s P Q read taken
  unheard s P Q read true h k = heard_nothing heard s h k
  unheard s P Q read false h k = k

  pub taken_from : (s t : S) {O P : List Token → Bytes → Type 0} (Q : List Token → Bytes → Type 0)
      (piece : Bytes) (n : ℕ) → IsSame O P → IsTakenOf heard s t P Q piece n
      → IsTakenOf heard s t O Q piece n
  taken_from s t Q piece zero e h = λ ts u o. h ts u (e.to ts (take 1 piece ++ u) o)
  taken_from s t Q piece (suc n) e h = (h.0, step_from heard e h.1)

  pub taken_byte : (s t : S) (P Q : List Token → Bytes → Type 0) (byte n : ℕ)
      → IsTakenOf heard s t P Q (byte ∷ []) n → IsTaken heard s t P Q (byte ∷ []) (is_some_count n)
  taken_byte s t P Q byte zero h = h
  taken_byte s t P Q byte (suc zero) h = h.1
  taken_byte s t P Q byte (suc (suc n)) h = absurd (omega (arith, h.0))

  -- a piece was read up to some byte, and then more of it
  pub fed_on : ((s m t : S) (before after : List Token) → heard s before m → heard m after t
      → heard s (before ++ after) t) → (s m t : S) (P Q R : List Token → Bytes → Type 0)
      (piece : Bytes) (done n : ℕ) → n ≢ 0 → IsStep heard s m P Q (take done piece)
      → IsTakenOf heard m t Q R (drop done piece) n → IsStep heard s t P R (take (done + n) piece)
  fed_on joins s m t P Q R piece done zero ne h k = absurd (ne refl)
  fed_on joins s m t P Q R piece done (suc n) ne h k =
      subst (λ l. IsStep heard s t P R l) (sym (take-add done (suc n) piece))
      (steps heard joins (take done piece) (take (suc n) (drop done piece)) h k.1)

  pub fed_within : (m t : S) (Q R : List Token → Bytes → Type 0) (piece : Bytes) (done n : ℕ)
      → done < length piece → IsTakenOf heard m t Q R (drop done piece) n → done + n ≤ length piece
  fed_within m t Q R piece done zero lt k = omega arith
  fed_within m t Q R piece done (suc n) lt k =
      omega (arith, k.0, length-drop done piece)

  pub fed_no : (s m t : S) (P Q R : List Token → Bytes → Type 0) (piece : Bytes) (done n : ℕ)
      → n ≡ 0 → IsStep heard s m P Q (take done piece) → IsTakenOf heard m t Q R (drop done piece) n
      → IsRefused P (take (done + 1) piece)
  fed_no s m t P Q R piece done (suc n) e h k = absurd (omega (arith, e))
  fed_no s m t P Q R piece done zero e h k = λ ts u p.
      let first : Bytes = take done piece in
      let one : Bytes = take 1 (drop done piece) in
      let cut : take (done + 1) piece ++ u ≡ first ++ (one ++ u) =
      ap (λ l. l ++ u) (take-add done 1 piece) ∙ append_assoc first one u in
      let q = h.complete ts (one ++ u) (subst (P ts) cut p) in
      k q.0 u q.1

-- a zero is read
pub zero_step : (zeros now : ℕ) (P : List Token → Bytes → Type 0) → zeros ≡ suc now
    → IsStep Unheard 0 0 (After (replicate zeros 0) P) (After (replicate now 0) P) (0 ∷ [])
zero_step zeros now P e =
    subst (λ z. IsStep Unheard 0 0 (After (replicate z 0) P) (After (replicate now 0) P) (0 ∷ []))
    (sym e)
    (fixed_step Unheard 0 0 (replicate now 0) P refl)

pub zero_no : (zeros now byte : ℕ) (P : List Token → Bytes → Type 0) → zeros ≡ suc now → byte ≢ 0
    → IsRefused (After (replicate zeros 0) P) (byte ∷ [])
zero_no zeros now byte P e ne =
    subst (λ z. IsRefused (After (replicate z 0) P) (byte ∷ [])) (sym e)
    (refused Unheard 0 byte (replicate now 0) P ne)

same_next : (zeros other : ℕ) (text more : Bytes) (M : List Token → Bytes → Type 0) → zeros ≡ other
    → text ≡ more → IsSame (Next zeros text M) (Next other more M)
same_next zeros other text more M e f =
    subst (λ z. IsSame (Next zeros text M) (Next z more M)) e
    (subst (λ l. IsSame (Next zeros text M) (Next zeros l M)) f (same (Next zeros text M)))

same_text : (zeros : ℕ) (text : Bytes) (M : List Token → Bytes → Type 0) → zeros ≡ 0
    → IsSame (After text M) (Next zeros text M)
same_text zeros text M none =
    subst (λ z. IsSame (After text M) (Next z text M)) (sym none) (after_none (After text M))

-- the first byte of a text is read
pub text_step : (zeros first : ℕ) (text rest : Bytes) (M : List Token → Bytes → Type 0) → zeros ≡ 0
    → text ≡ first ∷ rest
    → IsStep Unheard 0 0 (Next zeros text M) (Next zeros rest M) (first ∷ [])
text_step zeros first text rest M none e =
    let s : IsStep Unheard 0 0 (After (first ∷ rest) M) (After rest M) (first ∷ []) =
    fixed_step Unheard 0 first rest M refl in
    let to : IsSame (After rest M) (Next zeros rest M) = same_text zeros rest M none in
    let from : IsSame (Next zeros text M) (After (first ∷ rest) M) =
    same_both (same_next zeros 0 text (first ∷ rest) M none e)
    record {
      to = λ ts u h. (after_none (After (first ∷ rest) M)).from ts u h;
      from = λ ts u h. (after_none (After (first ∷ rest) M)).to ts u h;
    } in record {
      said = s.said;
      hears = s.hears;
      sound = λ ts u q. from.from (s.said ++ ts) (first ∷ u) (s.sound ts u (to.from ts u q));
      complete = λ ts u p.
          let l = s.complete ts u (from.to ts (first ∷ u) p) in
          (l.0, to.to l.0 u l.1);
    }

pub text_no : (zeros first byte : ℕ) (text rest : Bytes) (M : List Token → Bytes → Type 0) → zeros ≡
    0
    → text ≡ first ∷ rest → byte ≢ first → IsRefused (Next zeros text M) (byte ∷ [])
text_no zeros first byte text rest M none e ne = λ ts u h.
    refused Unheard first byte rest M ne ts u
    ((after_none (After (first ∷ rest) M)).from ts (byte ∷ u)
    ((same_next zeros 0 text (first ∷ rest) M none e).to ts (byte ∷ u) h))

-- what follows at the start is an archive
pub same_start : IsSame (After []
    (After (magic ++ open_text) (λ ts u. Node Nothing ts (open_text ++ u))))
    IsArchive
same_start =
    let M : List Token → Bytes → Type 0 = λ ts u. Node Nothing ts (open_text ++ u) in
    let e : IsSame (After magic (Node Nothing)) (After [] (After (magic ++ open_text) M)) =
    same_both (after_same magic (same_open Nothing))
    (same_both (after_both magic open_text M) (after_none (After (magic ++ open_text) M))) in record {
      to = λ ts u h.
          let a = e.from ts u h in
          let n = a.follows in
          let o = n.follows.follows in record {
            tree = n.tree;
            archivable = n.archivable;
            said = n.follows.begins ∙ ap (λ l. tokens_of n.tree ++ l) o.follows.0
                ∙ append-nil (tokens_of n.tree);
            read = a.begins ∙ ap (λ l. magic ++ l)
                (o.begins ∙ ap (λ l. node n.tree ++ l) o.follows.1
                ∙ append-nil (node n.tree));
          };
      from = λ ts u h. e.to ts u record {
        rest = node h.tree;
        begins = h.read;
        follows = record {
          tree = h.tree;
          archivable = h.archivable;
          follows = record {
            later = [];
            begins = h.said ∙ sym (append-nil (tokens_of h.tree));
            follows = record {
              rest = [];
              begins = sym (append-nil (node h.tree));
              follows =
                  (refl, refl);
            };
          };
        };
      };
    }

tokens_some : (tree : Tree) (l : List Token) → [] ≡ tokens_of tree ++ l → ⊥
tokens_some (File x bytes) l e = cc
tokens_some (Link target) l e = cc
tokens_some (Folder entries) l e = cc

file_some : (x : Bool) (K : List Token → Bytes → Type 0) (u : Bytes) → Counted (file x K) [] u → ⊥
file_some x K u h = let e = h.follows.follows.begins in cc

link_some : (K : List Token → Bytes → Type 0) (u : Bytes) → Counted (link K) [] u → ⊥
link_some K u h = let e = h.follows.follows.begins in cc

mark_some : (K : List Token → Bytes → Type 0) (u : Bytes) → MarkRest K [] u → ⊥
mark_some K u h =
    elim h [
      | inl w ↦ file_some true K w.rest w.follows
      | inr w ↦ file_some false K w.rest w.follows
    ]

letter_some : (K : List Token → Bytes → Type 0) (u : Bytes) → LetterRest K [] u → ⊥
letter_some K u h =
    elim h [ inl w ↦ mark_some K w.rest w.follows | inr w ↦ link_some K w.rest w.follows ]

last_some : (a l : List Token) (t : Token) → [] ≡ (a ++ t ∷ []) ++ l → ⊥
last_some [] l t e = cc
last_some (x ∷ xs) l t e = cc

-- where nothing may follow, nothing comes next
ended_mode : (mode : Mode) (seen : Bytes) (names : List Bytes) → mode_rest mode seen names [] []
    → is_end mode ≡ true
ended_mode Kind seen names h = absurd (tokens_some h.tree h.follows.later h.follows.begins)
ended_mode Letter seen names h = absurd (letter_some (Outer names) [] h)
ended_mode Mark seen names h = absurd (mark_some (Outer names) [] h)
ended_mode More seen [] h = absurd h
ended_mode More seen (before ∷ outer) h =
    absurd (last_some (ended before ++ tokens_among h.entries) h.follows.later FolderEnded
    (h.follows.begins ∙ ap (λ l. l ++ h.follows.later)
    (sym (append_assoc (ended before) (tokens_among h.entries) (FolderEnded ∷ [])))))
ended_mode (Size (OfFile x)) seen names h = absurd (file_some x (Outer names) (seen ++ []) h)
ended_mode (Size OfTarget) seen names h = absurd (link_some (Outer names) (seen ++ []) h)
ended_mode (Size OfName) seen [] h = absurd h
ended_mode (Size OfName) seen (before ∷ outer) h = let e = h.follows.follows.2.begins in cc
ended_mode (Contents size more) seen names h = absurd
    (last_some _ h.follows.later _ h.follows.begins)
ended_mode (Name size tie) seen [] h = absurd h
ended_mode (Name size tie) seen (before ∷ outer) h = let e = h.follows.follows.follows.2.begins in cc
ended_mode (Target size) seen names h = let e = h.follows.follows.follows.begins in cc
ended_mode End seen names h = refl

nil_front : (a r : Bytes) → [] ≡ a ++ r → (a ≡ []) × (r ≡ [])
nil_front [] r e = (refl, sym e)
nil_front (x ∷ xs) r e = absurd (omega (arith, ap length e))

-- where nothing may follow, nothing is fixed, and nothing comes next
pub ended_at : (zeros : ℕ) (text : Bytes) (mode : Mode) (seen : Bytes) (names : List Bytes)
    → Next zeros text (mode_rest mode seen names) [] []
    → (zeros ≡ 0) × (text ≡ []) × (is_end mode ≡ true)
ended_at zeros text mode seen names h =
    let a : (replicate zeros 0 ≡ []) × (h.rest ≡ []) = nil_front (replicate zeros 0) h.rest h.begins
    in
    let b : (text ≡ []) × (h.follows.rest ≡ []) =
    nil_front text h.follows.rest (sym a.1 ∙ h.follows.begins) in
    let none : zeros ≡ 0 = sym (length-replicate zeros 0) ∙ ap length a.0 in (
      none,
      b.0,
      ended_mode mode seen names
          (subst (λ l. mode_rest mode seen names [] l) b.1 h.follows.follows),
    )

end_is : (mode : Mode) (seen : Bytes) (names : List Bytes) → is_end mode ≡ true
    → mode_rest mode seen names [] []
end_is End seen names e = (refl, refl)
end_is Kind seen names e = absurd cc
end_is Letter seen names e = absurd cc
end_is Mark seen names e = absurd cc
end_is More seen names e = absurd cc
end_is (Size w) seen names e = absurd cc
end_is (Contents s m) seen names e = absurd cc
end_is (Name s t) seen names e = absurd cc
end_is (Target s) seen names e = absurd cc

pub at_end : (zeros : ℕ) (text : Bytes) (mode : Mode) (seen : Bytes) (names : List Bytes)
    → zeros ≡ 0 → text ≡ [] → is_end mode ≡ true → Next zeros text (mode_rest mode seen names) [] []
at_end zeros text mode seen names none blank e =
    (unfixed zeros text (mode_rest mode seen names) none blank).to [] [] (end_is mode seen names e)

pub same_back : {P Q : List Token → Bytes → Type 0} → IsSame P Q → IsSame Q P
same_back e = record { to = e.from; from = e.to }

pub first_byte : (piece : Bytes) → 0 < length piece → take 1 piece ≡ get_or piece 0 0 ∷ []
first_byte [] lt = absurd (omega arith)
first_byte (x ∷ xs) lt = refl
