-- A reader from which no bytes are left has read a whole archive.
use Rattle.std.proofs.Common.{◌≡◌, ◌∙◌, ◌+◌, ◌<◌, ◌≤◌, ℕ, true, List, [], ◌∷◌, ◌++◌, ap, arith, codes, inl, inr, length, length-append, refl, subst, sym}
use Rattle.std.proofs.lemmas.List.{length-replicate}
use Rattle.std.proofs.Math.ListN.{replicate}
use Rattle.nix_archive.specs.Archive.{mark, node, nodes, padding, size_text, str, strs}
use Rattle.nix_archive.specs.Parts.{names_of, open_text}
use Rattle.nix_archive.specs.Rests.{mode_rest, reader_rest}
use Rattle.nix_archive.specs.Tokens.{Token}
use Rattle.nix_archive.specs.Trees.{Bytes, File, Folder, Link, Tree}
use Rattle.nix_archive.specs.private.Ready.{IsReady}
use Rattle.nix_archive.specs.private.Takes.{is_end}
use Rattle.nix_archive.specs.declared.mode.Mode.{Mode}
use Rattle.nix_archive.specs.declared.mode.Mode.TheVariants.{Kind, Letter, Mark, More, Size, Contents, Name, Target, End}
use Rattle.nix_archive.specs.declared.mode.What.TheVariants.{File as OfFile, Name as OfName, Target as OfTarget}
use Rattle.nix_archive.specs.declared.reader.ArchiveReader.{ArchiveReader}
use Rattle.nix_archive.proofs.Wholes.{at_end}

-- a string has at least eight bytes
string_long : (bytes : Bytes) → 8 ≤ length (str bytes)
unfolding str size_text
string_long bytes = let whole = length-append (size_text (length bytes)) (bytes ++ padding (length bytes)) in omega (arith, whole)

-- two texts that make no bytes are both empty
nil_both : (a r : Bytes) → [] ≡ a ++ r → (a ≡ []) × (r ≡ [])
nil_both [] r e = (refl, sym e)
nil_both (x ∷ xs) r e = absurd cc

no_string : (bytes rest : Bytes) → [] ≡ str bytes ++ rest → ⊥
no_string bytes rest e =
    let none : length (str bytes) ≡ 0 = ap length (nil_both (str bytes) rest e).0 in
    let long = string_long bytes in
    omega (arith, none, long)

-- some bytes are too short to begin with a longer text
too_short : (seen text rest : Bytes) → length seen < length text → seen ++ [] ≡ text ++ rest → ⊥
too_short seen text rest short e =
    let same : length (seen ++ []) ≡ length (text ++ rest) = ap length e in
    let one = length-append {A = ℕ} seen [] in
    let two = length-append text rest in
    omega (arith, same, one, two, short)

strs_long : (a b c : Bytes) (more : List Bytes)
    → length (strs (a ∷ b ∷ [])) + 8 ≤ length (strs (a ∷ b ∷ c ∷ more))
strs_long a b c more =
    let long = string_long c in
    let one = length-append (str a) (strs (b ∷ [])) in
    let two = length-append {A = ℕ} (str b) [] in
    let three = length-append (str a) (strs (b ∷ c ∷ more)) in
    let four = length-append (str b) (strs (c ∷ more)) in
    let five = length-append (str c) (strs more) in
    omega (arith, long, one, two, three, four, five)

-- a tree's text has at least eight bytes more than its begin
node_long : (tree : Tree) → length open_text + 8 ≤ length (node tree)
node_long (File executable bytes) =
    let head = strs_long (codes "(") (codes "type") (codes "regular") [] in
    let whole = length-append (strs (codes "(" ∷ codes "type" ∷ codes "regular" ∷ []))
    (mark executable ++ strs (codes "contents" ∷ bytes ∷ codes ")" ∷ [])) in
    omega (arith, head, whole)
node_long (Link target) =
    strs_long (codes "(") (codes "type") (codes "symlink")
    (codes "target" ∷ target ∷ codes ")" ∷ [])
node_long (Folder entries) =
    let head = strs_long (codes "(") (codes "type") (codes "directory") [] in
    let whole = length-append (strs (codes "(" ∷ codes "type" ∷ codes "directory" ∷ []))
    (nodes entries ++ str (codes ")")) in
    omega (arith, head, whole)

-- where no bytes are left, nothing comes next
ended_mode : (ts : List Token) (mode : Mode) (seen : Bytes) (names : List Bytes)
    → IsReady mode seen names → mode_rest mode seen names ts [] → is_end mode ≡ true
ended_mode ts Kind seen names ready h =
    let long = node_long h.tree in
    absurd (too_short open_text (node h.tree) h.follows.follows.rest (omega (arith, long))
    h.follows.follows.begins)
ended_mode ts Letter seen names ready h =
    elim h [
      | inl w ↦ let e = w.begins in absurd cc
      | inr w ↦ let e = w.begins in absurd cc
    ]
ended_mode ts Mark seen names ready h =
    elim h [
      | inl w ↦
          let none : length (mark true ++ str (codes "contents")) ≡ 0 =
          ap length (nil_both (mark true ++ str (codes "contents")) w.rest w.begins).0 in
          let whole = length-append (mark true) (str (codes "contents")) in
          let long = string_long (codes "contents") in
          absurd (omega (arith, none, whole, long))
      | inr w ↦ absurd (no_string (codes "contents") w.rest w.begins)
    ]
ended_mode ts More seen [] ready h = absurd h
ended_mode ts More seen (before ∷ outer) ready h =
    let after = h.follows.follows in
    let none = (nil_both (nodes h.entries) after.rest after.begins).1 in
    absurd (no_string (codes ")") after.follows.rest (sym none ∙ after.follows.begins))
ended_mode ts (Size (OfFile x)) seen names ready h =
    let long = string_long h.bytes in
    absurd (too_short seen (str h.bytes) h.follows.rest (omega (arith, long, ready.fit))
    h.follows.begins)
ended_mode ts (Size OfTarget) seen names ready h =
    let long = string_long h.bytes in
    absurd (too_short seen (str h.bytes) h.follows.rest (omega (arith, long, ready.fit))
    h.follows.begins)
ended_mode ts (Size OfName) seen [] ready h = absurd h
ended_mode ts (Size OfName) seen (before ∷ outer) ready h =
    let long = string_long h.bytes in
    absurd (too_short seen (str h.bytes) h.follows.rest (omega (arith, long, ready.fit.0))
    h.follows.begins)
ended_mode ts (Contents size more) seen names ready h =
    let after = h.follows.follows in
    let none : length h.bytes ≡ 0 = ap length (nil_both h.bytes after.rest after.begins).0 in
    absurd (omega (arith, none, h.long))
ended_mode ts (Name size tie) seen [] ready h = absurd h
ended_mode ts (Name size tie) seen (before ∷ outer) ready h =
    absurd (too_short seen h.bytes h.follows.rest (omega (arith, h.long, ready.fit.0))
    h.follows.begins)
ended_mode ts (Target size) seen names ready h =
    absurd (too_short seen h.bytes h.follows.rest (omega (arith, h.long, ready.fit))
    h.follows.begins)
ended_mode ts End seen names ready h = refl

-- where no bytes are left, no tokens are
pub ended_rest : (reader : ArchiveReader) (later : List Token) → reader_rest reader later []
    → reader_rest reader [] []
unfolding reader_rest
ended_rest reader later left =
    let zeros = nil_both (replicate reader.zeros 0) left.rest left.begins in
    let fixed = nil_both reader.text.now left.follows.rest (sym zeros.1 ∙ left.follows.begins) in
    let none : reader.zeros ≡ 0 = sym (length-replicate reader.zeros 0) ∙ ap length zeros.0 in
    at_end reader.zeros reader.text.now reader.mode reader.seen.items
    (names_of reader.folders.items) none fixed.0
    (ended_mode later reader.mode reader.seen.items (names_of reader.folders.items) reader.ready
    (subst (λ l. mode_rest reader.mode reader.seen.items (names_of reader.folders.items) later l)
    fixed.1 left.follows.follows))
