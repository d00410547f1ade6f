-- What reading a journal answers.
use Rattle.std.proofs.Common.{◌≡◌, ◌≢◌, ◌+◌, ◌-◌, ◌≤◌, ℕ, suc, List, [], ◌∷◌, length, take, ap, subst, arith, rules, inl, inr, Result, Ok, Err}
use Rattle.std.proofs.lemmas.Bool.{cases_lt}
use Rattle.std.proofs.lemmas.List.{length-append}
use Rattle.memchr.specs.Find.{is_byte, places}
use Rattle.memchr.proofs.lemmas.CallerLemmas.{length-places-le}
use Rattle.nix_names.specs.Names.{IsStoreDir}
use Rattle.valid_table.specs.BadLines.{IsBadLine, IsOtherVersion}
use Rattle.valid_table.specs.private.LineTexts.{lines_text}
use Rattle.valid_table.specs.private.Readers.{StopsInText}
use Rattle.valid_table.specs.Reading.{BeginsVersion, IsEntriesChecking, IsJournalReading, IsTooLong, max_len}
use Rattle.valid_table.specs.Texts.{IsJournalText, Line, line_text, lines, text}
use Rattle.valid_table.specs.declared.entry.Entry.{Entry}
use Rattle.valid_table.specs.declared.fault.TableFault.{TableFault}
use Rattle.valid_table.specs.declared.fault.TableFault.TheVariants.{NoMemory, NotClosed, Twice}
use Rattle.valid_table.specs.declared.path_table.version.Version.{Version}
use Rattle.valid_table.specs.declared.path_table.version.Version.TheVariants.{Two}
use Rattle.valid_table.proofs.BadLineLaws.{bad_first, bad_line, stops_count}
use Rattle.valid_table.proofs.LineTexts.{body, line_and}
use Rattle.valid_table.proofs.Versions.{text_begins}

-- a line has a byte
line_some : (version : Version) (line : Line) → 1 ≤ length (line_text version line)
line_some version line = search (rules, line_and, length-append, body)

-- lines are at most as many as their bytes
lines_fit : (version : Version) (some : List Line) → length some ≤ length (lines_text version some)
lines_fit version [] = omega arith
lines_fit version (line ∷ some) = search (rules, line_some, length-append, lines_fit version some)

-- a text that isn't too long has few lines
pub few_lines : (dir bytes : List ℕ) (entries : List Entry) → (IsTooLong bytes → ⊥)
    → IsJournalText dir entries bytes → length (lines entries) ≤ 134217729
unfolding text
few_lines dir bytes entries within (inl (version, is)) =
    elim (cases_lt (max_len Two) (length bytes)) [
      | inl long ↦ absurd (within (inl long))
      | inr short ↦
          let whole : length bytes ≡ length (lines_text version (lines entries)) =
          ap length is.bytes_are in
          omega (arith, short, whole, lines_fit version (lines entries))
    ]
few_lines dir bytes entries within (inr none) = search rules

-- the line after the newlines before the position where lines stop is the first bad one
pub bad_line_number : (dir bytes : List ℕ) (left n : ℕ) → IsStoreDir dir
    → StopsInText dir bytes left → n ≡ 1 + length
    (places (is_byte 10) (take (length bytes - left) bytes)) → IsBadLine dir bytes n
bad_line_number dir bytes left n of_dir (inl (version, begins, h)) number =
    let same : suc (length h.lines) ≡ n =
    omega (arith, number, stops_count _ _ _ _ of_dir h) in
    subst (IsBadLine dir bytes) same (bad_line _ _ _ _ of_dir begins h)
bad_line_number dir bytes left n of_dir (inr (none, some, all)) number =
    let nothing : length bytes - left ≡ 0 = omega (arith, all) in
    let one : 1 ≡ n = omega (
      arith,
      number,
      ap (λ k. length (places (is_byte 10) (take k bytes))) nothing,
      length-places-le (is_byte 10) [],
    ) in
    subst (IsBadLine dir bytes) one (bad_first _ _ of_dir none some)

-- the text of some entries begins with the line of its version
some_begin : (dir bytes : List ℕ) (entries : List Entry) → IsJournalText dir entries bytes
    → entries ≢ [] → (version : Version) × BeginsVersion version bytes
some_begin dir bytes entries (inl (version, is)) some = search (rules, text_begins)
some_begin dir bytes entries (inr none) some = absurd (some none.0)

-- what is answered for the entries whose text the bytes are
pub read_as : (dir bytes : List ℕ) (entries : List Entry) (answer : Result (List Entry) TableFault)
    → (IsTooLong bytes → ⊥) → (IsOtherVersion bytes → ⊥) → IsJournalText dir entries bytes
    → IsEntriesChecking entries answer → IsJournalReading dir bytes answer
read_as dir bytes entries (Ok journal) within other is checked = search rules
read_as dir bytes entries (Err (NotClosed n)) within other is checked = search rules
read_as dir bytes entries (Err (Twice n)) within other is checked = search rules
read_as dir bytes entries (Err NoMemory) within other is checked =
    (within, other, some_begin _ _ _ is checked)
read_as dir bytes entries (Err fault) within other is checked = absurd checked
