-- The bytes of a journal's lines: each ends in its only newline, and two lines are told apart by
-- their bytes.
use Rattle.std.proofs.Common.{◌≡◌, ◌≢◌, ◌==◌, ℕ, not, List, [], ◌∷◌, ◌++◌, length, get_or, drop, refl, ap, sym, ◌∙◌, arith, All, Option, rules}
use Rattle.std.specs.Prelude.{codes, map}
use Rattle.std.proofs.lemmas.List.{append_assoc, append_cancel_left}
use Rattle.std.proofs.lemmas.List.Elements.{All-append, All-cons, All-head, All-tail}
use Rattle.nix_names.specs.StorePaths.{IsDrvPath, IsPathOf}
use Rattle.nix_names.specs.declared.method.MethodDigest.{MethodDigest}
use Rattle.valid_table.specs.PathInfos.{NarInfo}
use Rattle.valid_table.specs.BadLines.{AreLines}
use Rattle.valid_table.specs.private.LineTexts.{fields_text, lines_text, references_text}
use Rattle.valid_table.specs.private.Readers.{IsFieldsLine, IsPathLine}
use Rattle.valid_table.specs.Texts.{IsKnownOf, Line, First, Added, Deriver, Output, Reference, known_text, line_text, version_line}
use Rattle.valid_table.specs.declared.path_table.version.Version.{Version}
use Rattle.valid_table.specs.declared.path_table.version.Version.TheVariants.{One, Two, Three}
use Rattle.valid_table.proofs.Separators.{Lacks, known_lacks, newline, passing, path_lacks, same_cut, same_path, space}
use Rattle.valid_table.proofs.KnownTexts.{same_known}

-- ---- fields

-- a path, a space, a digest and a newline, and what is after them
pub fields_apart : (version : Version) (path : List ℕ) (digest : Option MethodDigest)
    (nar : Option NarInfo) (rest : List ℕ)
    → fields_text version path digest nar ++ rest ≡ path ++
    (32 ∷ (known_text version digest nar ++ (10 ∷ rest)))
fields_apart version path digest nar rest = search (rules, append_assoc)

-- bytes have one path with a newline after it
pub two_path_lines : (dir bytes path rest other more : List ℕ) → IsPathLine dir bytes path rest
    → IsPathLine dir bytes other more → (path ≡ other) × (rest ≡ more)
two_path_lines dir bytes path rest other more one two =
    same_path _ newline _ _ _ _ _ one.of_dir two.of_dir (sym one.parts ∙ two.parts)

-- bytes have one path with what is known of it after it
pub two_fields : (version : Version) (dir bytes path : List ℕ) (digest : Option MethodDigest)
    (nar : Option NarInfo) (rest other : List ℕ) (sum : Option MethodDigest)
    (archive : Option NarInfo) (more : List ℕ)
    → IsFieldsLine version dir bytes path digest nar rest
    → IsFieldsLine version dir bytes other sum archive more
    → (path ≡ other) × (digest ≡ sum) × (nar ≡ archive) × (rest ≡ more)
two_fields version dir bytes path digest nar rest other sum archive more one two =
    let paths = same_path _ space _ _ _ _ _ one.of_dir two.of_dir
    (sym (one.parts ∙ fields_apart _ _ _ _ _) ∙ two.parts ∙ fields_apart _ _ _ _ _)
    in
    let both = same_cut _ _ _ _ _
    (known_lacks _ _ _ one.is_known) (known_lacks _ _ _ two.is_known) paths.1 in
    let known = same_known _ _ _ _ _ one.is_known two.is_known both.0 in
    (paths.0, known.0, known.1, both.1)

-- ---- lines

-- the fields of a line have their forms
abbrev pub IsLineOf : Version → List ℕ → Line → Type 0
IsLineOf version dir First = Unit {0}
IsLineOf version dir (Added path digest nar) = IsPathOf dir path × IsKnownOf version digest nar
IsLineOf version dir (Deriver path) = IsPathOf dir path × IsDrvPath path
IsLineOf version dir (Output path digest nar) = IsPathOf dir path × IsKnownOf version digest nar
IsLineOf version dir (Reference path) = IsPathOf dir path

-- the fields of two lines, told apart by their bytes
same_fields : (version : Version) (dir p q : List ℕ) (a b : Option MethodDigest)
    (m n : Option NarInfo) (x y : List ℕ) → IsPathOf dir p × IsKnownOf version a m
    → IsPathOf dir q × IsKnownOf version b n
    → fields_text version p a m ++ x ≡ fields_text version q b n ++ y
    → (p ≡ q) × (a ≡ b) × (m ≡ n) × (x ≡ y)
same_fields version dir p q a b m n x y one two e =
    two_fields _ _ _ p a m x q b n y
    (record { of_dir = one.0; is_known = one.1; parts = refl })
    (record { of_dir = two.0; is_known = two.1; parts = e })

same_lone_path : (dir p q x y : List ℕ) → IsPathOf dir p → IsPathOf dir q → (p ++ (10 ∷ [])) ++ x
    ≡ (q ++ (10 ∷ [])) ++ y → (p ≡ q) × (x ≡ y)
same_lone_path dir p q x y one two e =
    same_path _ newline _ p q x y one two (sym (append_assoc p (10 ∷ []) x) ∙ e
    ∙ append_assoc q (10 ∷ []) y)

-- the first byte
abbrev first : List ℕ → ℕ
first bytes = get_or bytes 0 0

-- a version's line begins with a letter of its own
version_letter : (version : Version) (rest : List ℕ) → first (version_line version ++ rest) ≡ 114
version_letter One rest = refl
version_letter Two rest = refl
version_letter Three rest = refl

-- two texts that begin with lines are split alike
pub same_lines : (version : Version) (dir : List ℕ) (a b : Line) (x y : List ℕ)
    → IsLineOf version dir a → IsLineOf version dir b
    → line_text version a ++ x ≡ line_text version b ++ y → (a ≡ b) × (x ≡ y)
same_lines version dir First First x y one two e = search (rules, append_cancel_left)
same_lines version dir (Added p a m) (Added q b n) x y one two e =
    let same = same_fields _ _ p q a b m n x y one two (ap (drop 2) e) in (
      ap (λ path. Added path a m) same.0 ∙ ap (λ digest. Added q digest m) same.1
          ∙ ap (Added q b) same.2,
      same.3,
    )
same_lines version dir (Deriver p) (Deriver q) x y one two e =
    let same = same_lone_path _ p q x y one.0 two.0 (ap (drop 2) e) in
    (ap Deriver same.0, same.1)
same_lines version dir (Output p a m) (Output q b n) x y one two e =
    let same = same_fields _ _ p q a b m n x y one two (ap (drop 2) e) in (
      ap (λ path. Output path a m) same.0 ∙ ap (λ digest. Output q digest m) same.1
          ∙ ap (Output q b) same.2,
      same.3,
    )
same_lines version dir (Reference p) (Reference q) x y one two e =
    let same = same_lone_path _ p q x y one two (ap (drop 2) e) in
    (ap Reference same.0, same.1)
same_lines version dir a b x y one two e = search (rules, first, version_letter)

-- the lines of references are the same in each version
pub references_are : (version : Version) (paths : List (List ℕ))
    → lines_text version (map Reference paths) ≡ references_text paths
references_are version [] = refl
references_are version (path ∷ paths) = search (rules, references_are version paths)

-- ---- lines and newlines

-- a version's line before its newline
abbrev pub version_body : Version → List ℕ
version_body One = codes "realiser-journal 1"
version_body Two = codes "realiser-journal 2"
version_body Three = codes "realiser-journal 3"

-- a line's bytes before its newline
abbrev pub body : Version → Line → List ℕ
body version First = version_body version
body version (Added path digest nar) = codes "A " ++ (path ++ (32 ∷ known_text version digest nar))
body version (Deriver path) = codes "D " ++ path
body version (Output path digest nar) = codes "O " ++ (path ++ (32 ∷ known_text version digest nar))
body version (Reference path) = codes "R " ++ path

-- a line and what follows it
pub line_and : (version : Version) (line : Line) (rest : List ℕ)
    → line_text version line ++ rest ≡ body version line ++ 10 ∷ rest
line_and One First rest = refl
line_and Two First rest = refl
line_and Three First rest = refl
line_and version (Added path digest nar) rest = search (rules, fields_apart, append_assoc)
line_and version (Deriver path) rest = search (rules, append_assoc)
line_and version (Output path digest nar) rest = search (rules, fields_apart, append_assoc)
line_and version (Reference path) rest = search (rules, append_assoc)

-- a letter and a space before bytes without newlines
lettered : (letter : ℕ) (bytes : List ℕ) → letter ≢ 10 → Lacks 10 bytes
    → Lacks 10 (letter ∷ 32 ∷ bytes)
lettered letter bytes other clear = search (rules, All-cons)

-- a path and what is known of it have no newline
record_lacks : (version : Version) (dir path : List ℕ) (digest : Option MethodDigest)
    (nar : Option NarInfo) → Lacks 10 dir
    → IsPathOf dir path
    × IsKnownOf version digest nar → Lacks 10 (path ++ (32 ∷ known_text version digest nar))
record_lacks version dir path digest nar clear is =
    All-append (λ b. b ≢ 10) _ _
    (path_lacks _ newline _ _ clear is.0)
    (All-cons (λ b. b ≢ 10) _ _ (λ e. absurd (omega arith))
    (known_lacks _ _ _ is.1))

-- a line has no newline before its last byte
pub body_lacks : (version : Version) (dir : List ℕ) (line : Line) → Lacks 10 dir
    → IsLineOf version dir line
    → Lacks 10 (body version line)
body_lacks One dir First clear is = passing (λ b. not (b == 10)) _ (version_body One) refl refl
body_lacks Two dir First clear is = passing (λ b. not (b == 10)) _ (version_body Two) refl refl
body_lacks Three dir First clear is =
    passing (λ b. not (b == 10)) _ (version_body Three) refl refl
body_lacks version dir (Added path digest nar) clear is =
    lettered _ _ (λ e. absurd (omega arith)) (record_lacks _ _ _ _ _ clear is)
body_lacks version dir (Deriver path) clear is = lettered _ _ (λ e. absurd (omega arith))
    (path_lacks _ newline _ _ clear is.0)
body_lacks version dir (Output path digest nar) clear is =
    lettered _ _ (λ e. absurd (omega arith)) (record_lacks _ _ _ _ _ clear is)
body_lacks version dir (Reference path) clear is = lettered _ _ (λ e. absurd (omega arith))
    (path_lacks _ newline _ _ clear is)

-- the texts of so many lines are so many lines
pub texts_are_lines : (version : Version) (dir : List ℕ) → Lacks 10 dir → (lines : List Line)
    → All (IsLineOf version dir) lines
    → AreLines (length lines) (lines_text version lines)
texts_are_lines version dir clear [] each = refl
texts_are_lines version dir clear (line ∷ lines) each = (
  body version line,
  lines_text version lines,
  body_lacks _ _ _ clear (All-head (IsLineOf version dir) _ _ each),
  line_and _ _ _,
  texts_are_lines version dir clear lines (All-tail (IsLineOf version dir) line lines each),
)
