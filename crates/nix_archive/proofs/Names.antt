-- Bytes with which no name goes on.
use Rattle.std.proofs.Common.{◌≡◌, ◌∙◌, ℕ, zero, suc, ◌≢◌, ◌<◌, ◌+◌, ◌-◌, ◌^◌, ◌&&◌, Bool, true, false, List, Option, Some, None, [], ◌∷◌, ◌++◌, length, refl, ap, sym, subst, append_assoc, take, drop, arith, length-append}
use Rattle.std.specs.Prelude.{Vec, codes, nat_eq, not}
use Rattle.std.specs.List.{list_all, slice_get}
use Rattle.std.specs.Cmp.Lexicographic.{pointwise}
use Rattle.std.specs.declared.alloc.Global.{Global}
use Rattle.std.proofs.lemmas.List.{length-take, take-append-drop}
use Rattle.std.proofs.lemmas.List.Folds.{list_all-append}
use Rattle.nix_archive.specs.Trees.{AreBytes, Bytes, IsAfter, IsName, is_name_byte, may_be_name}
use Rattle.nix_archive.specs.Reading.{IsRefused}
use Rattle.nix_archive.specs.Rests.{mode_rest}
use Rattle.nix_archive.specs.Parts.{names_of}
use Rattle.nix_archive.specs.declared.mode.Mode.TheVariants.{Name}
use Rattle.nix_archive.specs.declared.mode.Tie.{Tie}
use Rattle.nix_archive.proofs.Bytes.{back_bytes, byte_more, no_bytes, none_after}
use Rattle.nix_archive.specs.private.Ready.{AreHeld, IsFit, IsReady, IsTied, IsTiedOn, MayShare}
use Rattle.nix_archive.specs.declared.mode.Mode.{Mode}
use Rattle.nix_archive.specs.declared.mode.Tie.TheVariants.{Tied}
use Rattle.nix_archive.proofs.Telling.{cut}
use Rattle.nix_archive.proofs.Turns.{pushed}
use Rattle.nix_archive.proofs.Ends.{same_names}

and_left : (a b : Bool) → (a && b) ≡ true → a ≡ true
and_left true b h = refl
and_left false b h = h

and_right : (a b : Bool) → (a && b) ≡ true → b ≡ true
and_right true b h = h
and_right false b h = absurd cc

-- no name has such a byte
pub no_name_byte : (seen more : Bytes) (byte : ℕ) → is_name_byte byte ≡ false
    → IsName (seen ++ byte ∷ more) → ⊥
unfolding may_be_name
no_name_byte seen more byte other h =
    let name : Bytes = seen ++ byte ∷ more in
    let dot : Bool = not (pointwise nat_eq name (codes ".")) in
    let dots : Bool = not (pointwise nat_eq name (codes "..")) in
    let all : list_all is_name_byte name ≡ true =
    and_left (list_all is_name_byte name) dot
    (and_left (list_all is_name_byte name && dot) dots h.allowed) in
    let here : is_name_byte byte ≡ true = and_left (is_name_byte byte) (list_all is_name_byte more)
    (and_right (list_all is_name_byte seen) (list_all is_name_byte (byte ∷ more))
    (sym (list_all-append is_name_byte seen (byte ∷ more)) ∙ all)) in cc

-- a byte with which no name that may stand here goes on
pub no_name : (size : ℕ) (tie : Tie) (seen before : Bytes) (outer names : List Bytes) (byte : ℕ)
    → names ≡ before ∷ outer → length seen < size
    → ((more : Bytes) → length ((seen ++ byte ∷ []) ++ more) ≡ size → AreBytes more
    → IsName ((seen ++ byte ∷ []) ++ more) → IsAfter before ((seen ++ byte ∷ []) ++ more) → ⊥)
    → IsRefused (mode_rest (Name size tie) seen names) (byte ∷ [])
no_name size tie seen before outer names byte e lt never ts u h =
    let p = (same_names (mode_rest (Name size tie) seen) names (before ∷ outer) e).to ts (byte ∷ u) h
    in
    let one : Bytes = seen ++ byte ∷ [] in
    let n : ℕ = length one in
    let front : Bytes = take n p.bytes in
    let back : Bytes = drop n p.bytes in
    let both : front ++ back ≡ p.bytes = take-append-drop n p.bytes in
    let long : length one ≡ length front =
    omega (arith, length-take {A = ℕ}, length-append seen (byte ∷ []), p.long) in
    let parts : (one ≡ front) × (u ≡ back ++ p.follows.rest) =
    cut one front u (back ++ p.follows.rest) long
    (append_assoc seen (byte ∷ []) u ∙ p.follows.begins
    ∙ ap (λ l. l ++ p.follows.rest) (sym both) ∙ append_assoc front back p.follows.rest) in
    let is : p.bytes ≡ one ++ back = sym both ∙ ap (λ l. l ++ back) (sym parts.0) in
    let k = p.follows.follows.follows in
    never back (ap length (sym is) ∙ p.long)
    (back_bytes front back (subst AreBytes (sym both) p.are_bytes))
    (subst IsName is k.0) (subst (IsAfter before) is k.1)

-- the last of some elements
last_at : (folders : List (Vec ℕ Global)) (name : Vec ℕ Global) (n : ℕ) → length folders ≡ suc n
    → slice_get folders n ≡ Some name
    → (front : List (Vec ℕ Global)) × (folders ≡ front ++ name ∷ [])
last_at [] name n long e = absurd cc
last_at (x ∷ []) name zero long e = let k : x ≡ name = cc in ([], ap (λ y. y ∷ []) k)
last_at (x ∷ y ∷ ys) name zero long e = absurd (omega (arith, long))
last_at (x ∷ xs) name (suc n) long e =
    let k = last_at xs name n (omega (arith, long)) e in (x ∷ k.0, ap (λ l. x ∷ l) k.1)

-- the name of the innermost open folder's last entry
pub innermost : (folders : List (Vec ℕ Global)) (name : Vec ℕ Global)
    → slice_get folders (length folders - 1) ≡ Some name
    → (outer : List Bytes) × (names_of folders ≡ name.items ∷ outer)
innermost [] name e = absurd cc
innermost (x ∷ xs) name e =
    let k = last_at (x ∷ xs) name (length (x ∷ xs) - 1) (omega arith) e in
    (names_of k.0, pushed k.0 (x ∷ xs) name k.1)

-- no folder is open
pub no_last : (folders : List (Vec ℕ Global)) → slice_get folders (length folders - 1) ≡ None
    → names_of folders ≡ []
no_last [] e = refl
no_last (x ∷ xs) e = absurd (some (x ∷ xs) (length (x ∷ xs) - 1) (omega arith) e)
  where
    some : (l : List (Vec ℕ Global)) (i : ℕ) → i < length l → slice_get l i ≡ None → ⊥
    some [] i lt e = absurd (omega (arith, lt))
    some (x ∷ xs) zero lt e = cc
    some (x ∷ xs) (suc i) lt e = some xs i (omega (arith, lt)) e

pub held_first : (names outer : List Bytes) (before : Bytes) → AreHeld names
    → names ≡ before ∷ outer → AreBytes before × (length before < 2 ^ 63)
held_first names outer before h e =
    let k : AreHeld (before ∷ outer) = subst AreHeld e h in (k.0, k.1)

pub fit_name : (mode : Mode) (seen : Bytes) (names outer : List Bytes) (before : Bytes) (size : ℕ)
    (tie : Tie) → IsFit mode seen names → mode ≡ Name size tie → names ≡ before ∷ outer
    → IsFit (Name size tie) seen (before ∷ outer)
fit_name mode seen names outer before size tie h e f =
    subst (λ l. IsFit (Name size tie) seen l) f (subst (λ m. IsFit m seen names) e h)

-- the length of a name was read
pub ready_begun : (mode : Mode) (seen : Bytes) (names outer : List Bytes) (before : Bytes)
    (size most : ℕ) → IsReady mode seen names → seen ≡ [] → names ≡ before ∷ outer → size < 2 ^ 64
    → MayShare most size before → IsReady (Name size (Tied most)) seen names
ready_begun mode seen names outer before size most r none e lt may =
    subst (λ l. IsReady (Name size (Tied most)) l names) (sym none)
    (subst (λ l. IsReady (Name size (Tied most)) [] l) (sym e) record {
      are_bytes = no_bytes;
      held = subst AreHeld e r.held;
      fit = (some size may, lt, refl, (refl, omega arith, may));
    })
  where
    some : (size : ℕ) → MayShare most size before → 0 < size
    some zero may = absurd (none_after before ((may [] before refl (omega arith)).0 (omega arith)))
    some (suc n) may = omega arith

-- one more byte of a name was read
pub ready_on : (mode : Mode) (seen more : Bytes) (names outer : List Bytes) (before : Bytes)
    (size byte : ℕ) (tie next : Tie) → IsReady mode seen names → mode ≡ Name size tie
    → names ≡ before ∷ outer → more ≡ seen ++ byte ∷ [] → byte < 256 → is_name_byte byte ≡ true
    → length more ≢ size → IsTied next size (seen ++ byte ∷ []) before
    → IsReady (Name size next) more names
ready_on mode seen more names outer before size byte tie next r m e is lt name other tied =
    let fit = fit_name mode seen names outer before size tie r.fit m e in
    let long : length more ≡ length seen + 1 =
    ap length is ∙ length-append seen (byte ∷ []) in
    subst (λ l. IsReady (Name size next) more l) (sym e) record {
      are_bytes = byte_more seen more byte r.are_bytes lt is;
      held = subst AreHeld e r.held;
      fit = (
        omega (arith, long, fit.0, other),
        fit.1,
        ap (list_all is_name_byte) is ∙ list_all-append is_name_byte seen (byte ∷ [])
            ∙ ap (λ b. b && (is_name_byte byte && true)) fit.2
            ∙ ap (λ b. b && true) name,
        subst (λ l. IsTied next size l before) (sym is) tied,
      );
    }

-- what is known of a name, by other names of the same bytes
pub tied_as : (size byte : ℕ) (tie : Tie) (s t a b : Bytes) (r : Option Tie) → s ≡ t → a ≡ b
    → (IsTied tie size s a → IsTiedOn size (s ++ byte ∷ []) a r) → IsTied tie size t b
    → IsTiedOn size (t ++ byte ∷ []) b r
tied_as size byte tie s t a b r e f h k =
    subst (λ l. IsTiedOn size (l ++ byte ∷ []) b r) e
    (subst (λ l. IsTiedOn size (s ++ byte ∷ []) l r) f
    (h (subst (λ l. IsTied tie size s l) (sym f) (subst (λ l. IsTied tie size l b) (sym e) k))))
