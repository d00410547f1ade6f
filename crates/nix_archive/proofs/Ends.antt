-- Steps of a reader within files, names and targets.
use Rattle.std.proofs.Common.{◌≡◌, ◌≢◌, ◌∙◌, ℕ, ◌+◌, ◌-◌, ◌%◌, ◌^◌, ◌<◌, ◌≤◌, get_or, zero, suc, if◌then◌else◌, Bool, true, false, List, [], ◌∷◌, ◌++◌, length, map, refl, ap, sym, subst, append_assoc, take, drop, arith, length-append, length-drop}
use Rattle.std.specs.Prelude.{codes, OnOk, Result}
use Rattle.std.proofs.lemmas.Result.{on_ok_weaker}
use Rattle.std.specs.declared.alloc.AllocError.{AllocError}
use Rattle.std.proofs.Math.ListN.{replicate}
use Rattle.std.proofs.lemmas.List.{length-take, map-append, take-append-drop}
use Rattle.std.proofs.Math.Seq.{take-length}
use Rattle.std.specs.Int.{w64, from_le_bytes}
use Rattle.nix_archive.specs.Trees.{AreBytes, Bytes, Tree, File, Link, Folder, IsAfter, IsName}
use Rattle.nix_archive.specs.Archive.{node, padding, size_text, str}
use Rattle.nix_archive.specs.Tokens.{Token, EntryBegun, FileBegun, FileByte, FileEnded, FolderEnded, LinkTo}
use Rattle.nix_archive.specs.Parts.{After, Says, Sized, Counted, Bytewise, Node, Outer, close, ended, file, link, named, open_text}
use Rattle.nix_archive.specs.Rests.{mode_rest}
use Rattle.nix_archive.specs.Reading.{IsSame, IsStep, IsRefused}
use Rattle.nix_archive.specs.private.Takes.{IsTaken, IsTakenOf}
use Rattle.nix_archive.specs.declared.mode.Mode.TheVariants.{More, Name, Size}
use Rattle.nix_archive.specs.declared.mode.Tie.{Tie}
use Rattle.nix_archive.specs.declared.mode.Tie.TheVariants.{Free}
use Rattle.nix_archive.specs.declared.mode.What.{What}
use Rattle.nix_archive.specs.declared.mode.What.TheVariants.{File as OfFile, Name as OfName, Target as OfTarget}
use Rattle.nix_archive.specs.private.Ready.{IsBar}
use Rattle.nix_archive.proofs.Bytes.{back_bytes, both_bytes, no_bytes}
use Rattle.nix_archive.proofs.Telling.{cut}
use Rattle.nix_archive.proofs.Rests.{after_both, after_none, after_same, neither, ready, same, same_both, same_seen, same_size, same_whole, seen_step, steps, silent, step_from, step_to, second_step}
use Rattle.nix_archive.proofs.Choices.{entry_text, same_more}
use Rattle.nix_archive.proofs.Turns.{Next, tail_of, turn_first_told}

-- the padding of a length, and what follows it
pub padded : (size zeros : ℕ) {P R : List Token → Bytes → Type 0} → zeros ≡ (8 - size % 8) % 8
    → IsSame P R → IsSame (After (padding size) P) (After (replicate zeros 0) R)
unfolding padding
padded size zeros {P} {R} is e =
    subst (λ z. IsSame (After (padding size) P) (After (replicate z 0) R)) (sym is)
    (after_same (padding size) e)

pub none_of : (b : Bytes) → length b ≡ 0 → b ≡ []
none_of [] e = refl
none_of (x ∷ xs) e = absurd (omega arith)

joined : (a b e l : List Token) → a ++ ((b ++ e) ++ l) ≡ ((a ++ b) ++ e) ++ l
joined a b e l = simp append_assoc

node_open : (tree : Tree) → (rest : Bytes) × (node tree ≡ open_text ++ rest)
unfolding str size_text padding
node_open (File x bytes) = (_, refl)
node_open (Link target) = (_, refl)
node_open (Folder entries) = (_, refl)

-- each tree begins so
pub same_open : (K : List Token → Bytes → Type 0)
    → IsSame (Node K) (After open_text (λ ts u. Node K ts (open_text ++ u)))
same_open K = record {
  to = λ ts u h.
      let o = node_open h.tree in
      let rest : Bytes = o.0 ++ h.follows.follows.rest in
      let e : u ≡ open_text ++ rest = h.follows.follows.begins
      ∙ ap (λ l. l ++ h.follows.follows.rest) o.1 ∙ append_assoc open_text o.0
      h.follows.follows.rest in
      record { rest = rest; begins = e; follows = subst (Node K ts) e h };
  from = λ ts u h. subst (Node K ts) (sym h.begins) h.follows;
}

pub same_names : (P : List Bytes → List Token → Bytes → Type 0) (names other : List Bytes)
    → names ≡ other → IsSame (P names) (P other)
same_names P names other e = subst (λ l. IsSame (P names) (P l)) e (same (P names))

module _ {S : Type 0} (heard : S → List Token → S → Type 0) where
  -- nothing was read
  pub idle : (s : S) (zeros : ℕ) (text : Bytes) (M : List Token → Bytes → Type 0) → heard s [] s
      → zeros ≡ 0 → text ≡ [] → IsStep heard s s M (Next zeros text M) []
  idle s zeros text M h none blank =
      let e : IsSame M (Next zeros text M) =
      subst (λ l. IsSame M (Next zeros l M)) (sym blank)
      (same_both (after_none M) (ready zeros [] none (same M))) in
      silent heard [] s h e.from e.to

  -- tokens are heard within what follows some bytes
  pub says_after : {s t : S} (a : Bytes) (said : List Token) (P : List Token → Bytes → Type 0)
      → heard s said t → IsStep heard s t (After a (Says said P)) (After a P) []
  says_after a said P h = record {
    said = said;
    hears = h;
    sound = λ ts u p. record {
      rest = p.rest;
      begins = p.begins;
      follows = record { later = ts; begins = refl; follows = p.follows };
    };
    complete = λ ts u p. (
      p.follows.later,
      record { rest = p.rest; begins = p.begins; follows = p.follows.follows },
    );
  }

  pub file_end : {s t : S} (size zeros : ℕ) (K R : List Token → Bytes → Type 0)
      → heard s (FileEnded size ∷ []) t → zeros ≡ (8 - size % 8) % 8 → IsSame (After close K) R
      → IsStep heard s t (Bytewise size 0 K) (After (replicate zeros 0) R) []
  file_end size zeros K R h is e =
      let p : IsSame (After (padding size) (After close K)) (After (replicate zeros 0) R) =
      padded size zeros is e in
      let n : IsSame (After (padding size) (After close K))
      (After [] (After (padding size) (After close K))) =
      after_none (After (padding size) (After close K)) in record {
        said = FileEnded size ∷ [];
        hears = h;
        sound = λ ts u r. record {
          bytes = [];
          long = refl;
          are_bytes = no_bytes;
          follows = record { later = ts; begins = refl; follows = n.to ts u (p.from ts u r) };
        };
        complete = λ ts u b.
            let none : b.bytes ≡ [] = none_of b.bytes b.long in
            let said : ts ≡ FileEnded size ∷ b.follows.later =
            b.follows.begins ∙ ap (λ l. (map FileByte l ++ FileEnded size ∷ []) ++ b.follows.later)
            none in (
              b.follows.later,
              p.to b.follows.later u (n.from b.follows.later u
                  (subst (λ l. After l (After (padding size) (After close K)) b.follows.later u)
                  none
                  b.follows.follows)),
            );
      }

  pub file_begin : {s t : S} (x : Bool) (size : ℕ) (K : List Token → Bytes → Type 0)
      → heard s (FileBegun x size ∷ []) t
      → IsStep heard s t (Sized size (file x K)) (Bytewise size size K) []
  file_begin x size K h = record {
    said = FileBegun x size ∷ [];
    hears = h;
    sound = λ ts u b.
        let a = b.follows.follows in record {
          bytes = b.bytes;
          long = b.long;
          are_bytes = b.are_bytes;
          follows = record {
            rest = a.rest;
            begins = a.begins;
            follows = record {
              rest = a.follows.rest;
              begins = a.follows.begins;
              follows = record {
                later = b.follows.later;
                begins = ap (λ l. FileBegun x size ∷ l) b.follows.begins
                    ∙ ap (λ n. FileBegun x n ∷ ((map FileByte b.bytes ++ FileEnded n ∷ []) ++
                    b.follows.later))
                    (sym b.long);
                follows = a.follows.follows;
              };
            };
          };
        };
    complete = λ ts u p.
        let s = p.follows.follows.follows in (
          (map FileByte p.bytes ++ FileEnded size ∷ []) ++ s.later,
          record {
            bytes = p.bytes;
            long = p.long;
            are_bytes = p.are_bytes;
            follows = record {
              later = s.later;
              begins = refl;
              follows = record {
                rest = p.follows.rest;
                begins = p.follows.begins;
                follows = record {
                  rest = p.follows.follows.rest;
                  begins = p.follows.follows.begins;
                  follows = s.follows;
                };
              };
            };
          },
        );
  }

  pub contents_step : {s t : S} (size left after : ℕ) (K : List Token → Bytes → Type 0) (w : Bytes)
      → heard s (map FileByte w) t → AreBytes w → left ≡ length w + after
      → IsStep heard s t (Bytewise size left K) (Bytewise size after K) w
  contents_step size left after K w h are is =
      let E : List Token = FileEnded size ∷ [] in record {
        said = map FileByte w;
        hears = h;
        sound = λ ts u b.
            let a = b.follows.follows in record {
              bytes = w ++ b.bytes;
              long = omega (arith, length-append w b.bytes, b.long);
              are_bytes = both_bytes w b.bytes are b.are_bytes;
              follows = record {
                later = b.follows.later;
                begins = ap (λ l. map FileByte w ++ l) b.follows.begins
                    ∙ joined (map FileByte w) (map FileByte b.bytes) E b.follows.later
                    ∙ ap (λ l. (l ++ E) ++ b.follows.later) (sym (map-append FileByte w b.bytes));
                follows = record {
                  rest = a.rest;
                  begins = ap (λ l. w ++ l) a.begins ∙ sym (append_assoc w b.bytes a.rest);
                  follows = a.follows;
                };
              };
            };
        complete = λ ts u b.
            let n : ℕ = length w in
            let front : Bytes = take n b.bytes in
            let back : Bytes = drop n b.bytes in
            let a = b.follows.follows in
            let both : front ++ back ≡ b.bytes = take-append-drop n b.bytes in
            let long : length w ≡ length front = omega (arith, length-take {A = ℕ}, b.long) in
            let parts : (w ≡ front) × (u ≡ back ++ a.rest) =
            cut w front u (back ++ a.rest) long
            (a.begins ∙ ap (λ l. l ++ a.rest) (sym both) ∙ append_assoc front back a.rest) in (
              (map FileByte back ++ E) ++ b.follows.later,
              record {
                bytes = back;
                long = omega (arith, length-drop n b.bytes, b.long);
                are_bytes = back_bytes front back (subst AreBytes (sym both) b.are_bytes);
                follows = record {
                  later = b.follows.later;
                  begins = refl;
                  follows = record { rest = a.rest; begins = parts.1; follows = a.follows };
                };
              },
            );
      }

  pub target_end : {s t : S} (zeros : ℕ) (target : Bytes) (K R : List Token → Bytes → Type 0)
      → heard s (LinkTo target ∷ []) t → zeros ≡ (8 - length target % 8) % 8
      → IsSame (After close K) R
      → IsStep heard s t (After (padding (length target)) (link K target))
      (After (replicate zeros 0) R) []
  target_end zeros target K R h is e =
      step_to heard (padded (length target) zeros is e)
      (says_after (padding (length target)) (LinkTo target ∷ []) (After close K) h)

  -- a name that may stand here was read
  pub name_end : {s t : S} (zeros : ℕ) (name before : Bytes) (outer names other : List Bytes)
      → heard s (EntryBegun name ∷ []) t → zeros ≡ (8 - length name % 8) % 8
      → IsName name → IsAfter before name → names ≡ before ∷ outer → other ≡ name ∷ outer
      → IsStep heard s t (mode_rest (Name (length name) Free) name names)
      (After (replicate zeros 0) (After (str (codes "node") ++ open_text)
      (λ ts u. Node (Outer other) ts (open_text ++ u)))) []
  name_end zeros name before outer names other h is a b e f =
      let size : ℕ = length name in
      let T : Bytes = str (codes "node") in
      let M : List Token → Bytes → Type 0 = λ ts u. Node (Outer other) ts (open_text ++ u) in
      let X : List Token → Bytes → Type 0 = After T (Node (Outer (name ∷ outer))) in
      let text : IsSame X (After (T ++ open_text) M) =
      same_both (same_names (λ l. After T (Node (Outer l))) (name ∷ outer) other (sym f))
      (same_both (after_same T (same_open (Outer other))) (after_both T open_text M)) in
      let may : IsSame (named before outer name) (Says (EntryBegun name ∷ []) X) = record {
        to = λ ts u p. p.2;
        from = λ ts u p. (a, b, p);
      } in
      step_from heard (same_names (mode_rest (Name size Free) name) names (before ∷ outer) e)
      (step_from heard (same_whole (named before outer) name size a.is_string.are_bytes refl)
      (step_from heard (after_same (padding size) may)
      (step_to heard (padded size zeros is text)
      (says_after (padding size) (EntryBegun name ∷ []) X h))))

-- a name that may not
pub name_no : (name before : Bytes) (outer names : List Bytes)
    → ((IsName name × IsAfter before name) → ⊥) → AreBytes name → names ≡ before ∷ outer
    → (ts : List Token) (u : Bytes) → mode_rest (Name (length name) Free) name names ts u → ⊥
name_no name before outer names never are e ts u h =
    let size : ℕ = length name in
    let p = (same_whole (named before outer) name size are refl).to ts u
    ((same_names (mode_rest (Name size Free) name) names (before ∷ outer) e).to ts u h) in
    never (p.follows.0, p.follows.1)

pub name_outside : (size : ℕ) (tie : Tie) (seen : Bytes) (names : List Bytes) → names ≡ []
    → (ts : List Token) (u : Bytes) → mode_rest (Name size tie) seen names ts u → ⊥
name_outside size tie seen names e ts u h =
    (same_names (mode_rest (Name size tie) seen) names [] e).to ts u h

-- the bytes of a name were seen, and they are these
pub name_same : (names : List Bytes) (seen bytes : Bytes) (size : ℕ) → bytes ≡ seen
    → length seen ≡ size
    → IsSame (mode_rest (Name size Free) seen names)
    (mode_rest (Name (length bytes) Free) bytes names)
name_same names seen bytes size e long =
    subst (λ l. IsSame (mode_rest (Name size Free) seen names)
    (mode_rest (Name (length l) Free) l names)) (sym e)
    (subst (λ n. IsSame (mode_rest (Name size Free) seen names) (mode_rest (Name n Free) seen names))
    (sym long) (same (mode_rest (Name size Free) seen names)))

-- no name of a length may stand here
pub name_bar : (size : ℕ) (before : Bytes) (outer names : List Bytes) → IsBar before size
    → names ≡ before ∷ outer
    → (ts : List Token) (u : Bytes) → mode_rest (Name size Free) [] names ts u → ⊥
name_bar size before outer names bar e ts u h =
    let p = (same_names (mode_rest (Name size Free) []) names (before ∷ outer) e).to ts u h in
    bar p.bytes p.long p.are_bytes p.follows.follows.follows.1

pub more_outside : (seen : Bytes) (names : List Bytes) → names ≡ []
    → (ts : List Token) (u : Bytes) → mode_rest More seen names ts u → ⊥
more_outside seen names e ts u h = (same_names (mode_rest More seen) names [] e).to ts u h

module _ {S : Type 0} (heard : S → List Token → S → Type 0) where
  pub more_five : {s t : S} (zeros : ℕ) (seen now before : Bytes) (outer names other : List Bytes)
      → zeros ≡ 0 → heard s (ended before) t → names ≡ before ∷ outer → other ≡ before ∷ outer
      → now ≡ []
      → IsStep heard s t (mode_rest More seen names)
      (Next zeros (tail_of entry_text) (mode_rest (Size OfName) now other)) (5 ∷ [])
  unfolding str size_text padding
  more_five zeros seen now before outer names other none h e f is =
      let Q : List Token → Bytes → Type 0 = Counted (named before outer) in
      let to : IsSame Q (mode_rest (Size OfName) now other) =
      same_both (same_seen Q now is)
      (same_names (mode_rest (Size OfName) now) (before ∷ outer) other (sym f)) in
      step_from heard (same_names (mode_rest More seen) names (before ∷ outer) e)
      (step_from heard (same_more before outer)
      (turn_first_told heard zeros none 5 1 (tail_of entry_text) (tail_of close) (ended before) Q
      (mode_rest (Size OfName) now other) (Says (ended before ++ FolderEnded ∷ []) (Outer outer))
      (λ n. absurd (omega (arith, n))) h to))

  pub more_one : {s t : S} (zeros : ℕ) (seen before text : Bytes) (outer names : List Bytes)
      (M : List Token → Bytes → Type 0) → zeros ≡ 0 → heard s (ended before ++ FolderEnded ∷ []) t
      → names ≡ before ∷ outer → IsSame (After (tail_of close) (Outer outer)) (After text M)
      → IsStep heard s t (mode_rest More seen names) (Next zeros text M) (1 ∷ [])
  unfolding str size_text padding
  more_one zeros seen before text outer names M none h e f =
      step_from heard (same_names (mode_rest More seen) names (before ∷ outer) e)
      (step_from heard (same_more before outer)
      (step_to heard (same_both f (subst
      (λ z. IsSame (After text M) (After (replicate z 0) (After text M)))
      (sym none) (after_none (After text M))))
      (second_step heard 5 1 (tail_of entry_text) (tail_of close) (ended before ++ FolderEnded ∷ [])
      (Says (ended before) (Counted (named before outer))) (Outer outer)
      (λ n. absurd (omega (arith, n))) h)))

pub more_no : (seen before : Bytes) (outer names : List Bytes) (byte : ℕ) → names ≡ before ∷ outer
    → byte ≢ 5 → byte ≢ 1 → IsRefused (mode_rest More seen names) (byte ∷ [])
unfolding str size_text padding
more_no seen before outer names byte e a b ts u h =
    neither 5 1 byte (tail_of entry_text) (tail_of close)
    (Says (ended before) (Counted (named before outer)))
    (Says (ended before ++ FolderEnded ∷ []) (Outer outer)) a b ts u
    ((same_more before outer).to ts (byte ∷ u)
    ((same_names (mode_rest More seen) names (before ∷ outer) e).to ts (byte ∷ u) h))

pub more_other : (seen : Bytes) (names : List Bytes) (byte : ℕ) → byte ≢ 5 → byte ≢ 1
    → IsRefused (mode_rest More seen names) (byte ∷ [])
more_other seen [] byte a b ts u h = h
more_other seen (before ∷ outer) byte a b ts u h =
    more_no seen before outer (before ∷ outer) byte refl a b ts u h

pub same_left : (size left other : ℕ) (K : List Token → Bytes → Type 0) → left ≡ other
    → IsSame (Bytewise size left K) (Bytewise size other K)
same_left size left other K e =
    subst (λ l. IsSame (Bytewise size left K) (Bytewise size l K)) e (same (Bytewise size left K))

-- no fixed bytes come first
pub unfixed : (zeros : ℕ) (text : Bytes) (M : List Token → Bytes → Type 0) → zeros ≡ 0 → text ≡ []
    → IsSame M (Next zeros text M)
unfixed zeros text M none blank =
    subst (λ l. IsSame M (Next zeros l M)) (sym blank)
    (same_both (after_none M) (ready zeros [] none (same M)))

pub name_as : (b n p q : Bytes) → b ≡ p → n ≡ q → IsName n × IsAfter b n → IsName q × IsAfter p q
name_as b n p q e f h =
    (subst IsName f h.0, subst (λ l. IsAfter l q) e (subst (λ l. IsAfter b l) f h.1))

-- the bytes of a string were seen, and they are these
pub whole_as : (Q : Bytes → List Token → Bytes → Type 0) (seen bytes : Bytes) (size : ℕ)
    → AreBytes seen → length seen ≡ size → bytes ≡ seen
    → IsSame (λ ts u. Sized size Q ts (seen ++ u)) (After (padding (length bytes)) (Q bytes))
whole_as Q seen bytes size are long e =
    subst (λ l. IsSame (λ ts u. Sized size Q ts (seen ++ u)) (After (padding (length l)) (Q l)))
    (sym e)
    (subst (λ n. IsSame (λ ts u. Sized size Q ts (seen ++ u)) (After (padding n) (Q seen)))
    (sym long) (same_whole Q seen size are long))

-- a string of no bytes
pub no_string : (Q : Bytes → List Token → Bytes → Type 0) (size : ℕ) → size ≡ 0
    → IsSame (Sized size Q) (After (padding (length {A = ℕ} [])) (Q []))
no_string Q size e =
    subst (λ n. IsSame (Sized n Q) (After (padding 0) (Q []))) (sym e)
    (same_whole Q [] 0 no_bytes refl)

module _ {S : Type 0} (heard : S → List Token → S → Type 0) where
  pub no_string_read : (s t : S) (R : List Token → Bytes → Type 0)
      (Q : Bytes → List Token → Bytes → Type 0) (size : ℕ) (r : Result (Unit {0}) AllocError)
      → size ≡ 0 → OnOk r (IsStep heard s t (After (padding (length {A = ℕ} [])) (Q [])) R [])
      → OnOk r (IsStep heard s t (Sized size Q) R [])
  no_string_read s t R Q size r e h = on_ok_weaker r (λ k. step_from heard (no_string Q size e) k) h

  -- the length of a string was read
  pub begun_string : (s : S) (size zeros : ℕ) (text seen : Bytes)
      (Q : Bytes → List Token → Bytes → Type 0) → heard s [] s → zeros ≡ 0 → text ≡ [] → seen ≡ []
      → IsStep heard s s (Sized size Q) (Next zeros text (λ ts u. Sized size Q ts (seen ++ u))) []
  begun_string s size zeros text seen Q h none blank is =
      step_from heard (same_seen (Sized size Q) seen is)
      (idle heard s zeros text (λ ts u. Sized size Q ts (seen ++ u)) h none blank)

  pub begun_name : (s : S) (size zeros : ℕ) (text seen : Bytes) (tie : Tie) (names : List Bytes)
      → heard s [] s → zeros ≡ 0 → text ≡ [] → seen ≡ []
      → IsStep heard s s (mode_rest (Name size Free) [] names)
      (Next zeros text (mode_rest (Name size tie) seen names)) []
  begun_name s size zeros text seen tie [] h none blank is =
      silent heard [] s h (λ ts u q. q.follows.follows) (λ ts u p. absurd p)
  begun_name s size zeros text seen tie (before ∷ outer) h none blank is =
      begun_string s size zeros text seen (named before outer) h none blank is

  pub taken_of : {s t : S} (P Q : List Token → Bytes → Type 0) (piece : Bytes) (n : ℕ) → 0 < n
      → n ≤ length piece → IsStep heard s t P Q (take n piece) → IsTakenOf heard s t P Q piece n
  taken_of P Q piece zero lt le h = absurd (omega arith)
  taken_of P Q piece (suc n) lt le h = (omega arith, h)

  pub taken_all : {s t : S} (P Q : List Token → Bytes → Type 0) (piece : Bytes) → 0 < length piece
      → IsStep heard s t P Q piece → IsTakenOf heard s t P Q piece (length piece)
  taken_all {s} {t} P Q piece lt h =
      taken_of P Q piece (length piece) lt (omega arith)
      (subst (λ l. IsStep heard s t P Q l) (sym (take-length piece)) h)

  -- a byte of a piece
  pub taken_one : (s t : S) (P Q : List Token → Bytes → Type 0) (piece : Bytes) (byte : ℕ)
      (taken : Bool) → take 1 piece ≡ byte ∷ [] → 0 < length piece
      → IsTaken heard s t P Q (byte ∷ []) taken
      → IsTakenOf heard s t P Q piece (if taken then 1 else 0)
  taken_one s t P Q piece byte true e lt h =
      (lt, subst (λ l. IsStep heard s t P Q l) (sym e) h)
  taken_one s t P Q piece byte false e lt h = subst (IsRefused P) (sym e) h

  -- a step, and then nothing is read
  pub taken_after : ((s m t : S) (before after : List Token) → heard s before m → heard m after t
      → heard s (before ++ after) t) → (s m t : S) (P Q R : List Token → Bytes → Type 0) (byte : ℕ)
      (taken : Bool) → IsStep heard s m P Q (byte ∷ []) → IsTaken heard m t Q R [] taken
      → IsTaken heard s t P R (byte ∷ []) taken
  taken_after joins s m t P Q R byte true h k = steps heard joins (byte ∷ []) [] h k
  taken_after joins s m t P Q R byte false h k = λ ts u p.
      let q = h.complete ts u p in
      k q.0 u q.1

  -- one more byte of a length
  pub size_on : (s : S) (what : What) (seen more : Bytes) (byte : ℕ) (names : List Bytes) → heard s
      [] s
      → more ≡ seen ++ byte ∷ []
      → IsStep heard s s (mode_rest (Size what) seen names) (mode_rest (Size what) more names)
      (byte ∷ [])
  size_on s (OfFile x) seen more byte names h e =
      seen_step heard s (Counted (file x (Outer names))) seen more byte h e
  size_on s OfTarget seen more byte names h e =
      seen_step heard s (Counted (link (Outer names))) seen more byte h e
  size_on s OfName seen more byte [] h e = silent heard (byte ∷ []) s h (λ ts u q. q) (λ ts u p. p)
  size_on s OfName seen more byte (before ∷ outer) h e =
      seen_step heard s (Counted (named before outer)) seen more byte h e

  -- one more byte of a name
  pub name_on : (s : S) (size : ℕ) (tie next : Tie) (seen more : Bytes) (byte : ℕ)
      (names : List Bytes) → heard s [] s → more ≡ seen ++ byte ∷ []
      → IsStep heard s s (mode_rest (Name size tie) seen names)
      (mode_rest (Name size next) more names) (byte ∷ [])
  name_on s size tie next seen more byte [] h e =
      silent heard (byte ∷ []) s h (λ ts u q. q) (λ ts u p. p)
  name_on s size tie next seen more byte (before ∷ outer) h e =
      seen_step heard s (Sized size (named before outer)) seen more byte h e

-- the length of a name was seen
pub same_name : (seen now : Bytes) (size : ℕ) (names : List Bytes) → length seen ≡ 8
    → ((i : ℕ) → get_or seen i 0 < 256) → size < 2 ^ 64 → size ≡ from_le_bytes w64 seen → now ≡ []
    → IsSame (mode_rest (Size OfName) seen names) (mode_rest (Name size Free) now names)
same_name seen now size [] long fits lt is none = record { to = λ ts u h. h; from = λ ts u h. h }
same_name seen now size (before ∷ outer) long fits lt is none =
    same_both (same_size (named before outer) seen size long fits lt is)
    (same_seen (Sized size (named before outer)) now none)

pub same_target : (K : List Token → Bytes → Type 0) (seen now : Bytes) (size : ℕ) → length seen ≡ 8
    → ((i : ℕ) → get_or seen i 0 < 256) → size < 2 ^ 64 → size ≡ from_le_bytes w64 seen → now ≡ []
    → IsSame (λ ts u. Counted (link K) ts (seen ++ u)) (λ ts u. Sized size (link K) ts (now ++ u))
same_target K seen now size long fits lt is none =
    same_both (same_size (link K) seen size long fits lt is)
    (same_seen (Sized size (link K)) now none)
