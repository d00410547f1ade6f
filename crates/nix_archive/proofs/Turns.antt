-- Steps of a reader, mode by mode.
use Rattle.std.proofs.Common.{◌≡◌, ◌≢◌, ◌∙◌, ℕ, true, false, List, [], ◌∷◌, ◌++◌, length, map, refl, ap, sym, subst, drop, reverse, arith}
use Rattle.std.specs.Prelude.{Vec}
use Rattle.std.specs.declared.alloc.Global.{Global}
use Rattle.std.proofs.lemmas.List.{map-append, reverse-append, length-map, length-reverse}
use Rattle.nix_archive.specs.declared.mode.Mode.{Mode}
use Rattle.nix_archive.specs.declared.mode.Mode.TheVariants.{More}
use Rattle.std.specs.Prelude.{codes}
use Rattle.std.proofs.Math.ListN.{replicate}
use Rattle.nix_archive.specs.Trees.{Bytes}
use Rattle.nix_archive.specs.Archive.{mark, padding, size_text, str}
use Rattle.nix_archive.specs.Tokens.{Token, FolderBegun}
use Rattle.nix_archive.specs.Parts.{After, Says, Either, Counted, Node, Nodes, Outer, LetterRest, MarkRest, close, file, link, open_text}
use Rattle.nix_archive.specs.Rests.{mode_rest}
use Rattle.nix_archive.specs.Parts.{names_of}
use Rattle.nix_archive.specs.Reading.{IsSame, IsStep, IsRefused}
use Rattle.nix_archive.specs.private.Takes.{Unheard}
use Rattle.nix_archive.proofs.Rests.{after_both, first_quiet, first_step, neither, ready, same, same_seen, second_quiet, second_step, step_from, step_to}
use Rattle.nix_archive.proofs.Choices.{same_kind}

-- the text that is read next
abbrev pub Next : (zeros : ℕ) (text : Bytes) (P : List Token → Bytes → Type 0) → List Token → Bytes
    → Type 0
Next zeros text P = After (replicate zeros 0) (After text P)

module _ {S : Type 0} (heard : S → List Token → S → Type 0) (zeros : ℕ) (none : zeros ≡ 0) where
  -- of two texts the first, of which the rest is read next
  pub turn_first : {s : S} (b c : ℕ) (x y : Bytes) (P M Q : List Token → Bytes → Type 0) → b ≢ c
      → heard s [] s → IsSame P M
      → IsStep heard s s (Either (b ∷ x) P (c ∷ y) Q) (Next zeros x M) (b ∷ [])
  turn_first {s} b c x y P M Q ne h e =
      step_to heard (ready zeros x none e) (first_quiet heard s b c x y P Q ne h)

  -- the second
  pub turn_second : {s : S} (b c : ℕ) (x y : Bytes) (P Q M : List Token → Bytes → Type 0) → c ≢ b
      → heard s [] s → IsSame Q M
      → IsStep heard s s (Either (b ∷ x) P (c ∷ y) Q) (Next zeros y M) (c ∷ [])
  turn_second {s} b c x y P Q M ne h e =
      step_to heard (ready zeros y none e) (second_quiet heard s b c x y P Q ne h)

  -- the first, after which some tokens are heard
  pub turn_first_told : {s t : S} (b c : ℕ) (x y : Bytes) (said : List Token)
      (P M Q : List Token → Bytes → Type 0) → b ≢ c → heard s said t → IsSame P M
      → IsStep heard s t (Either (b ∷ x) (Says said P) (c ∷ y) Q) (Next zeros x M) (b ∷ [])
  turn_first_told b c x y said P M Q ne h e =
      step_to heard (ready zeros x none e) (first_step heard b c x y said P Q ne h)

  pub turn_second_told : {s t : S} (b c : ℕ) (x y : Bytes) (said : List Token)
      (P Q M : List Token → Bytes → Type 0) → c ≢ b → heard s said t → IsSame Q M
      → IsStep heard s t (Either (b ∷ x) P (c ∷ y) (Says said Q)) (Next zeros y M) (c ∷ [])
  turn_second_told b c x y said P Q M ne h e =
      step_to heard (ready zeros y none e) (second_step heard b c x y said P Q ne h)

module _ (K : List Token → Bytes → Type 0) (zeros : ℕ) (none : zeros ≡ 0) where
  -- a file's type
  pub letter_r : IsStep Unheard 0 0 (LetterRest K)
      (Next zeros (codes "egular" ++ 0 ∷ []) (MarkRest K))
      (114 ∷ [])
  unfolding str size_text padding
  letter_r = turn_first Unheard zeros none 114 115 (codes "egular" ++ 0 ∷ [])
      (codes "ymlink" ++ 0 ∷ str (codes "target")) (MarkRest K) (MarkRest K) (Counted (link K))
      (λ n. absurd (omega (arith, n))) refl (same (MarkRest K))

  -- a link's type
  pub letter_s : (seen : Bytes) → seen ≡ []
      → IsStep Unheard 0 0 (LetterRest K) (Next zeros (codes "ymlink" ++ 0 ∷ str (codes "target"))
      (λ ts u. Counted (link K) ts (seen ++ u))) (115 ∷ [])
  unfolding str size_text padding
  letter_s seen is = turn_second Unheard zeros none 114 115 (codes "egular" ++ 0 ∷ [])
      (codes "ymlink" ++ 0 ∷ str (codes "target")) (MarkRest K) (Counted (link K))
      (λ ts u. Counted (link K) ts (seen ++ u)) (λ n. absurd (omega (arith, n))) refl
      (same_seen (Counted (link K)) seen is)

  pub letter_no : (byte : ℕ) → byte ≢ 114 → byte ≢ 115 → IsRefused (LetterRest K) (byte ∷ [])
  unfolding str size_text padding
  letter_no byte r s = neither 114 115 byte (codes "egular" ++ 0 ∷ [])
      (codes "ymlink" ++ 0 ∷ str (codes "target")) (MarkRest K) (Counted (link K)) r s

-- what follows the first byte of some text
abbrev pub tail_of : Bytes → Bytes
tail_of text = drop 1 text

module _ (K : List Token → Bytes → Type 0) (zeros : ℕ) (none : zeros ≡ 0) where
  pub mark_yes : (seen : Bytes) → seen ≡ []
      → IsStep Unheard 0 0 (MarkRest K) (Next zeros (tail_of (mark true ++ str (codes "contents")))
      (λ ts u. Counted (file true K) ts (seen ++ u))) (10 ∷ [])
  unfolding str size_text padding
  mark_yes seen is = turn_first Unheard zeros none 10 8
      (tail_of (mark true ++ str (codes "contents")))
      (tail_of (str (codes "contents"))) (Counted (file true K))
      (λ ts u. Counted (file true K) ts (seen ++ u)) (Counted (file false K))
      (λ n. absurd (omega (arith, n))) refl (same_seen (Counted (file true K)) seen is)

  pub mark_not : (seen : Bytes) → seen ≡ []
      → IsStep Unheard 0 0 (MarkRest K) (Next zeros (tail_of (str (codes "contents")))
      (λ ts u. Counted (file false K) ts (seen ++ u))) (8 ∷ [])
  unfolding str size_text padding
  mark_not seen is = turn_second Unheard zeros none 10 8
      (tail_of (mark true ++ str (codes "contents")))
      (tail_of (str (codes "contents"))) (Counted (file true K)) (Counted (file false K))
      (λ ts u. Counted (file false K) ts (seen ++ u))
      (λ n. absurd (omega (arith, n))) refl (same_seen (Counted (file false K)) seen is)

  pub mark_no : (byte : ℕ) → byte ≢ 10 → byte ≢ 8 → IsRefused (MarkRest K) (byte ∷ [])
  unfolding str size_text padding
  mark_no byte r s = neither 10 8 byte (tail_of (mark true ++ str (codes "contents")))
      (tail_of (str (codes "contents"))) (Counted (file true K)) (Counted (file false K)) r s

module _ {S : Type 0} (heard : S → List Token → S → Type 0) (K : List Token → Bytes → Type 0)
    (zeros : ℕ) (none : zeros ≡ 0) where
  pub kind_seven : (s : S) → heard s [] s
      → IsStep heard s s (λ ts u. Node K ts (open_text ++ u))
      (Next zeros (replicate 7 0) (LetterRest K))
      (7 ∷ [])
  unfolding str size_text padding
  kind_seven s h = step_from heard (same_kind K)
      (turn_first heard zeros none 7 9 (replicate 7 0) (tail_of (str (codes "directory")))
      (LetterRest K) (LetterRest K) (Says (FolderBegun ∷ []) (Nodes [] K))
      (λ n. absurd (omega (arith, n))) h (same (LetterRest K)))

  pub kind_nine : (s t : S) (M : List Token → Bytes → Type 0) → heard s (FolderBegun ∷ []) t
      → IsSame (Nodes [] K) M
      → IsStep heard s t (λ ts u. Node K ts (open_text ++ u))
      (Next zeros (tail_of (str (codes "directory"))) M) (9 ∷ [])
  unfolding str size_text padding
  kind_nine s t M h e = step_from heard (same_kind K)
      (turn_second_told heard zeros none 7 9 (replicate 7 0) (tail_of (str (codes "directory")))
      (FolderBegun ∷ []) (LetterRest K) (Nodes [] K) M (λ n. absurd (omega (arith, n))) h e)

  pub kind_no : (byte : ℕ) → byte ≢ 7 → byte ≢ 9
      → IsRefused (λ ts u. Node K ts (open_text ++ u)) (byte ∷ [])
  unfolding str size_text padding
  kind_no byte a b ts u h = neither 7 9 byte (replicate 7 0) (tail_of (str (codes "directory")))
      (LetterRest K) (Says (FolderBegun ∷ []) (Nodes [] K)) a b ts u
      ((same_kind K).to ts (byte ∷ u) h)

-- a folder was opened
pub pushed : (folders more : List (Vec ℕ Global)) (name : Vec ℕ Global)
    → more ≡ folders ++ name ∷ [] → names_of more ≡ name.items ∷ names_of folders
pushed folders more name is =
    let f : Vec ℕ Global → Bytes = λ (v : Vec ℕ Global). v.items in
    ap names_of is ∙ ap reverse (map-append f folders (name ∷ []))
    ∙ reverse-append (map f folders) (name.items ∷ [])

pub same_opened : (outer names : List Bytes) (seen first : Bytes) → names ≡ first ∷ outer → first ≡
    []
    → IsSame (Nodes [] (Outer outer)) (mode_rest More seen names)
same_opened outer names seen first is none =
    subst (λ l. IsSame (Nodes [] (Outer outer)) (mode_rest More seen l))
    (sym (is ∙ ap (λ l. l ∷ outer) none)) (same (Nodes [] (Outer outer)))

pub names_none : (folders : List (Vec ℕ Global)) → length folders ≡ 0 → names_of folders ≡ []
names_none [] e = refl
names_none (x ∷ xs) e = absurd (omega arith)

pub names_some : (folders : List (Vec ℕ Global)) → length folders ≢ 0 → names_of folders ≢ []
names_some folders ne e =
    let f : Vec ℕ Global → Bytes = λ (v : Vec ℕ Global). v.items in
    ne (sym (length-map folders f) ∙ sym (length-reverse (map f folders)) ∙ ap length e)

pub up_end : (once : Bytes) (names : List Bytes) → names ≡ []
    → IsSame (After once (Outer names)) (After once (Outer []))
up_end once names e = subst (λ l. IsSame (After once (Outer l)) (After once (Outer []))) (sym e)
    (same (After once (Outer [])))

pub up_more : (once twice seen : Bytes) (names : List Bytes) → names ≢ [] → twice ≡ once ++ close
    → IsSame (After once (Outer names)) (After twice (mode_rest More seen names))
up_more once twice seen [] ne is = absurd (ne refl)
up_more once twice seen (before ∷ outer) ne is =
    subst (λ l. IsSame (After once (Outer (before ∷ outer))) (After l (Nodes before (Outer outer))))
    (sym is) (after_both once close (Nodes before (Outer outer)))

pub same_mode : (m n : Mode) (seen : Bytes) (outer : List Bytes) → m ≡ n
    → IsSame (mode_rest m seen outer) (mode_rest n seen outer)
same_mode m n seen outer e = subst (λ l. IsSame (mode_rest m seen outer) (mode_rest l seen outer)) e
    (same (mode_rest m seen outer))
