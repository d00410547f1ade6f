-- Something may follow what a reader has read.
use Rattle.std.proofs.Common.{◌≡◌, ◌∙◌, ℕ, ◌+◌, ◌-◌, ◌^◌, ◌<◌, ◌≤◌, zero, suc, Bool, true, false, List, [], ◌∷◌, ◌++◌, length, map, drop, refl, ap, sym, subst, inr, append_assoc, arith, length-append}
use Rattle.std.specs.Prelude.{codes, slice_index, nat_eq, not, ◌&&◌}
use Rattle.std.specs.Cmp.Lexicographic.{pointwise, same_text}
use Rattle.std.specs.List.{list_all}
use Rattle.std.specs.Int.{w64, from_le_bytes}
use Rattle.std.proofs.Math.ListN.{replicate}
use Rattle.std.proofs.lemmas.List.{get_or-append-add, length-replicate}
use Rattle.std.proofs.lemmas.List.Folds.{list_all-append}
use Rattle.std.proofs.lemmas.Nat.{le_bytes_8}
use Rattle.nix_archive.specs.Trees.{AreBytes, Bytes, File, NoEntries, IsAfter, IsName, IsString, is_name_byte, may_be_name}
use Rattle.nix_archive.specs.Archive.{padding, size_text, str}
use Rattle.nix_archive.specs.Tokens.{Token, EntryBegun, FileByte, FileEnded, FolderEnded, file_tokens, tokens_of}
use Rattle.nix_archive.specs.Parts.{After, Says, Sized, Counted, Node, Nodes, Outer, close, ended, file, link, named, names_of, open_text}
use Rattle.nix_archive.specs.Rests.{mode_rest, reader_rest}
use Rattle.nix_archive.specs.declared.reader.ArchiveReader.{ArchiveReader}
use Rattle.nix_archive.specs.Reading.{IsBegun, IsStep}
use Rattle.nix_archive.specs.declared.mode.Mode.{Mode}
use Rattle.nix_archive.specs.declared.mode.Mode.TheVariants.{Kind, Letter, Mark, More, Size, Contents, Name, Target, End}
use Rattle.nix_archive.specs.declared.mode.Tie.{Tie}
use Rattle.nix_archive.specs.declared.mode.Tie.TheVariants.{Free, Tied}
use Rattle.nix_archive.specs.declared.mode.What.TheVariants.{File as OfFile, Target as OfTarget, Name as OfName}
use Rattle.nix_archive.specs.private.Ready.{IsReady, IsTied}
use Rattle.nix_archive.proofs.Bytes.{both_bytes, no_bytes, same_bytes, shared_after, short_passed}
use Rattle.nix_archive.proofs.Ends.{same_open}

-- something may follow
abbrev pub IsOpen : (P : List Token → Bytes → Type 0) → Type 0
IsOpen P = IsBegun P []

pub open_after : (text : Bytes) (P : List Token → Bytes → Type 0) → IsOpen P → IsOpen (After text P)
open_after text P o = record {
  tokens = o.tokens;
  rest = text ++ o.rest;
  follows = record { rest = o.rest; begins = refl; follows = o.follows };
}

open_says : (said : List Token) (P : List Token → Bytes → Type 0) → IsOpen P → IsOpen (Says said P)
open_says said P o = record {
  tokens = said ++ o.tokens;
  rest = o.rest;
  follows = record { later = o.tokens; begins = refl; follows = o.follows };
}

no_string : IsString []
no_string = record { sized = omega arith; are_bytes = no_bytes }

open_node : (K : List Token → Bytes → Type 0) → IsOpen K → IsOpen (Node K)
open_node K o =
    let f = open_says (tokens_of (File false [])) _ (open_after _ K o) in record {
      tokens = f.tokens;
      rest = f.rest;
      follows = record { tree = File false []; archivable = no_string; follows = f.follows };
    }

-- within a tree after how each begins
open_kind : (K : List Token → Bytes → Type 0) → IsOpen K
    → IsOpen (λ ts u. Node K ts (open_text ++ u))
open_kind K o =
    let n = open_node K o in
    let a = (same_open K).to n.tokens n.rest n.follows in
    record { tokens = n.tokens; rest = a.rest; follows = a.follows }

open_nodes : (before : Bytes) (K : List Token → Bytes → Type 0) → IsOpen K → IsOpen (Nodes before K)
open_nodes before K o =
    let f = open_says (ended before ++ ([] ++ FolderEnded ∷ [])) _
    (open_after [] _ (open_after close K o)) in record {
      tokens = f.tokens;
      rest = f.rest;
      follows = record { entries = NoEntries; are = tt; follows = f.follows };
    }

pub open_outer : (names : List Bytes) → IsOpen (Outer names)
open_outer [] = record { tokens = []; rest = []; follows = (refl, refl) }
open_outer (before ∷ outer) = open_after close _ (open_nodes before (Outer outer) (open_outer outer))

-- a string of which some bytes were seen
open_sized : (Q : Bytes → List Token → Bytes → Type 0) (seen more : Bytes) (size : ℕ)
    → length (seen ++ more) ≡ size → AreBytes (seen ++ more) → IsOpen (Q (seen ++ more))
    → IsOpen (λ ts u. Sized size Q ts (seen ++ u))
open_sized Q seen more size long are o =
    let a = open_after (padding size) (Q (seen ++ more)) o in record {
      tokens = a.tokens;
      rest = more ++ a.rest;
      follows = record {
        bytes = seen ++ more;
        long = long;
        are_bytes = are;
        follows = record {
          rest = a.rest;
          begins = sym (append_assoc seen more a.rest);
          follows = a.follows;
        };
      };
    }

-- any string, of whose length some bytes were seen
open_counted : (Q : Bytes → List Token → Bytes → Type 0) (seen more bytes : Bytes)
    → length (seen ++ more) ≡ 8 → AreBytes (seen ++ more)
    → length bytes ≡ from_le_bytes w64 (seen ++ more) → IsString bytes → IsOpen (Q bytes)
    → IsOpen (λ ts u. Counted Q ts (seen ++ u))
unfolding str size_text
open_counted Q seen more bytes long are is string o =
    let n : ℕ = length bytes in
    let told : size_text n ≡ seen ++ more = le_bytes_8 (seen ++ more) n long are is in
    let tail : Bytes = bytes ++ padding n in record {
      tokens = o.tokens;
      rest = more ++ (tail ++ o.rest);
      follows = record {
        bytes = bytes;
        is_string = string;
        follows = record {
          rest = o.rest;
          begins = sym (append_assoc seen more (tail ++ o.rest))
              ∙ ap (λ l. l ++ (tail ++ o.rest)) (sym told)
              ∙ sym (append_assoc (size_text n) tail o.rest);
          follows = o.follows;
        };
      };
    }

-- what eight bytes tell
eight : (b : Bytes) → AreBytes b → (from_le_bytes w64 b < 2 ^ 64)
    × (slice_index b 7 ≡ 255 → 2 ^ 63 ≤ from_le_bytes w64 b)
eight b are = (
  omega (arith, are 0, are 1, are 2, are 3, are 4, are 5, are 6, are 7),
  λ e. omega (arith, are 0, are 1, are 2, are 3, are 4, are 5, are 6, are 7, e),
)

all_high : (n i : ℕ) → i < n → slice_index (replicate n 255) i ≡ 255
all_high zero i lt = absurd (omega (arith, lt))
all_high (suc n) zero lt = refl
all_high (suc n) (suc i) lt = all_high n i (omega (arith, lt))

-- the byte at an offset after those seen
high_at : (seen : Bytes) (n i : ℕ) → i < n
    → slice_index (seen ++ replicate n 255) (length seen + i) ≡ 255
high_at seen n i lt = get_or-append-add seen (replicate n 255) i 0 ∙ all_high n i lt

-- the length is that of some string
open_size : (Q : Bytes → List Token → Bytes → Type 0) (seen : Bytes) → AreBytes seen
    → length seen < 8
    → ((n : ℕ) → n < 2 ^ 64 → 2 ^ 63 ≤ n → IsOpen (Q (replicate n 255)))
    → IsOpen (λ ts u. Counted Q ts (seen ++ u))
open_size Q seen are lt may =
    let k : ℕ = 8 - length seen in
    let more : Bytes = replicate k 255 in
    let whole : Bytes = seen ++ more in
    let n : ℕ = from_le_bytes w64 whole in
    let all : AreBytes whole = both_bytes seen more are (same_bytes k 255 (omega arith)) in
    let known = eight whole all in
    let seven : length seen + (7 - length seen) ≡ 7 = omega (arith, lt) in
    let last : slice_index whole 7 ≡ 255 =
    ap (slice_index whole) (sym seven) ∙ high_at seen k (7 - length seen) (omega (arith, lt)) in
    let long : length (replicate n 255) ≡ n = length-replicate {A = ℕ} n 255 in
    let total : length whole ≡ 8 =
    omega (arith, length-append seen more, length-replicate {A = ℕ} k 255, lt) in
    open_counted Q seen more (replicate n 255) total all long
    record { sized = subst (λ m. m < 2 ^ 64) (sym long) known.0; are_bytes = same_bytes n 255 (omega arith) }
    (may n known.0 (known.1 last))

open_file : (executable : Bool) (K : List Token → Bytes → Type 0) (bytes : Bytes) → IsOpen K
    → IsOpen (file executable K bytes)
open_file executable K bytes o = open_says (file_tokens executable bytes) _ (open_after close K o)

open_link : (K : List Token → Bytes → Type 0) (target : Bytes) → IsOpen K → IsOpen (link K target)
open_link K target o = open_says _ _ (open_after close K o)

open_named : (before name : Bytes) (outer : List Bytes) → IsName name → IsAfter before name
    → IsOpen (named before outer name)
open_named before name outer is after =
    let o = open_says (EntryBegun name ∷ []) _ (open_after (str (codes "node")) _
    (open_node (Outer (name ∷ outer)) (open_outer (name ∷ outer)))) in
    record { tokens = o.tokens; rest = o.rest; follows = (is, after, o.follows) }

not_low : (i : ℕ) → slice_index (codes "..") i < 255
not_low zero = omega arith
not_low (suc zero) = omega arith
not_low (suc (suc i)) = omega arith

not_lower : (i : ℕ) → slice_index (codes ".") i < 255
not_lower zero = omega arith
not_lower (suc i) = omega arith

is_false : (b : Bool) → (true ≡ b → ⊥) → not b ≡ true
is_false true h = absurd (h refl)
is_false false h = refl

all_names : (n : ℕ) → list_all is_name_byte (replicate n 255) ≡ true
unfolding is_name_byte
all_names zero = refl
all_names (suc n) = all_names n

both_true : (a b : Bool) → a ≡ true → b ≡ true → (a && b) ≡ true
both_true true b e f = f
both_true false b e f = absurd cc

-- some name begins with bytes that may stand in one
high_name : (seen : Bytes) (n : ℕ) → AreBytes seen → list_all is_name_byte seen ≡ true → 0 < n
    → length seen + n < 2 ^ 64 → IsName (seen ++ replicate n 255)
unfolding may_be_name
high_name seen n are all some lt =
    let name : Bytes = seen ++ replicate n 255 in
    let at : slice_index name (length seen + 0) ≡ 255 = high_at seen n 0 some in
    let long : length name ≡ length seen + n = length-append seen (replicate n 255)
    ∙ ap (λ m. length seen + m) (length-replicate {A = ℕ} n 255) in
    let dot : not (pointwise nat_eq name (codes ".")) ≡ true =
    is_false (pointwise nat_eq name (codes ".")) (λ e.
    let is : name ≡ codes "." = same_text name (codes ".") e in
    absurd (omega (
      arith,
      not_lower (length seen + 0),
      sym (ap (λ l. slice_index l (length seen + 0)) is) ∙ at,
    ))) in
    let dots : not (pointwise nat_eq name (codes "..")) ≡ true =
    is_false (pointwise nat_eq name (codes "..")) (λ e.
    let is : name ≡ codes ".." = same_text name (codes "..") e in
    absurd (omega (
      arith,
      not_low (length seen + 0),
      sym (ap (λ l. slice_index l (length seen + 0)) is) ∙ at,
    ))) in
    let bytes : list_all is_name_byte name ≡ true =
    list_all-append is_name_byte seen (replicate n 255)
    ∙ both_true (list_all is_name_byte seen) (list_all is_name_byte (replicate n 255)) all (all_names n)
    in record {
      is_string = record {
        sized = subst (λ m. m < 2 ^ 64) (sym long) lt;
        are_bytes = both_bytes seen (replicate n 255) are (same_bytes n 255 (omega arith));
      };
      not_empty = λ e. absurd (omega (arith, ap length e, long, some));
      allowed = both_true (list_all is_name_byte name && not (pointwise nat_eq name (codes ".")))
          (not (pointwise nat_eq name (codes "..")))
          (both_true (list_all is_name_byte name) (not (pointwise nat_eq name (codes "."))) bytes dot)
          dots;
    }

tied_after : (tie : Tie) (size : ℕ) (seen before : Bytes) → length seen ≤ size
    → IsTied tie size seen before
    → IsAfter before (seen ++ replicate (size - length seen) 255)
tied_after Free size seen before le h = h (replicate (size - length seen) 255)
tied_after (Tied most) size seen before le h =
    let rest : Bytes = drop (length seen) before in
    subst (λ l. IsAfter l (seen ++ replicate (size - length seen) 255)) (sym h.0)
    (shared_after seen rest (replicate (size - length seen) 255)
    ((h.2 seen rest h.0 le).0 h.1))

open_mode : (mode : Mode) (seen : Bytes) (names : List Bytes) → IsReady mode seen names
    → IsOpen (mode_rest mode seen names)
open_mode Kind seen names r = open_kind (Outer names) (open_outer names)
open_mode Letter seen names r =
    let a = open_after (codes "symlink" ++ 0 ∷ str (codes "target")) (Counted (link (Outer names)))
    (open_size (link (Outer names)) [] no_bytes (omega arith)
    (λ n lt le. open_link (Outer names) (replicate n 255) (open_outer names))) in
    record { tokens = a.tokens; rest = a.rest; follows = inr a.follows }
open_mode Mark seen names r =
    let a = open_after (str (codes "contents")) (Counted (file false (Outer names)))
    (open_size (file false (Outer names)) [] no_bytes (omega arith)
    (λ n lt le. open_file false (Outer names) (replicate n 255) (open_outer names))) in
    record { tokens = a.tokens; rest = a.rest; follows = inr a.follows }
open_mode More seen [] r = absurd (r.fit refl)
open_mode More seen (before ∷ outer) r = open_nodes before (Outer outer) (open_outer outer)
open_mode (Size (OfFile executable)) seen names r =
    open_size (file executable (Outer names)) seen r.are_bytes r.fit
    (λ n lt le. open_file executable (Outer names) (replicate n 255) (open_outer names))
open_mode (Size OfTarget) seen names r =
    open_size (link (Outer names)) seen r.are_bytes r.fit
    (λ n lt le. open_link (Outer names) (replicate n 255) (open_outer names))
open_mode (Size OfName) seen [] r = absurd (r.fit.1 refl)
open_mode (Size OfName) seen (before ∷ outer) r =
    open_size (named before outer) seen r.are_bytes r.fit.0
    (λ n lt le. open_named before (replicate n 255) outer
    (high_name [] n no_bytes refl (omega (arith, le)) (omega (arith, lt)))
    (short_passed before n r.held.0 (omega (arith, r.held.1, le))))
open_mode (Contents size more) seen names r =
    let K = Outer names in
    let bytes : Bytes = replicate (suc more) 0 in
    let f = open_says (map FileByte bytes ++ FileEnded size ∷ []) _
    (open_after bytes _ (open_after (padding size) _ (open_after close K (open_outer names)))) in
    record {
      tokens = f.tokens;
      rest = f.rest;
      follows = record {
        bytes = bytes;
        long = length-replicate (suc more) 0;
        are_bytes = same_bytes (suc more) 0 (omega arith);
        follows = f.follows;
      };
    }
open_mode (Target size) seen names r =
    let k : ℕ = size - length seen in
    open_sized (link (Outer names)) seen (replicate k 0) size
    (omega (arith, length-append seen (replicate k 0), length-replicate {A = ℕ} k 0, r.fit))
    (both_bytes seen (replicate k 0) r.are_bytes (same_bytes k 0 (omega arith)))
    (open_link (Outer names) (seen ++ replicate k 0) (open_outer names))
open_mode (Name size tie) seen [] r = absurd r.fit
open_mode (Name size tie) seen (before ∷ outer) r =
    let k : ℕ = size - length seen in
    let some : 0 < k = omega (arith, r.fit.0) in
    let total : length seen + k < 2 ^ 64 = omega (arith, r.fit.0, r.fit.1) in
    open_sized (named before outer) seen (replicate k 255) size
    (omega (arith, length-append seen (replicate k 255), length-replicate {A = ℕ} k 255, r.fit.0))
    (both_bytes seen (replicate k 255) r.are_bytes (same_bytes k 255 (omega arith)))
    (open_named before (seen ++ replicate k 255) outer
    (high_name seen k r.are_bytes r.fit.2 some total)
    (tied_after tie size seen before (omega (arith, r.fit.0)) r.fit.3))
open_mode End seen names r = record { tokens = []; rest = []; follows = (refl, refl) }

-- something may follow what any reader has read
pub open_reader : (r : ArchiveReader) → IsOpen (reader_rest r)
unfolding reader_rest
open_reader r =
    open_after (replicate r.zeros 0) _ (open_after r.text.now _
    (open_mode r.mode r.seen.items (names_of r.folders.items) r.ready))

-- what was read begins what may follow
pub begun_by : {S : Type 0} (heard : S → List Token → S → Type 0) (s t : S)
    (P Q : List Token → Bytes → Type 0) (read : Bytes) → IsStep heard s t P Q read → IsOpen Q
    → IsBegun P read
begun_by heard s t P Q read step o = record {
  tokens = step.said ++ o.tokens;
  rest = o.rest;
  follows = step.sound o.tokens o.rest o.follows;
}
