-- Reading the same bytes gives one answer, want of memory apart.
use Rattle.std.proofs.Common.{◌≡◌, ◌⊎◌, ℕ, suc, List, ◌∷◌, ◌++◌, length, get_or, inl, inr, refl, ap, sym, subst, ◌∙◌, arith, Result, Ok, Err, rules}
use Rattle.std.specs.List.{flat_map}
use Rattle.std.proofs.lemmas.List.{append_assoc, get_or_at, length-append}
use Rattle.std.proofs.lemmas.List.Concat.{flat_map-append}
use Rattle.nix_names.specs.Names.{IsStoreDir}
use Rattle.valid_table.specs.BadLines.{IsBadLine, IsOtherVersion}
use Rattle.valid_table.specs.LineFaults.{IsLeastFault, IsNotClosedAt, IsTwiceAt, StandsAt}
use Rattle.valid_table.specs.Reading.{IsEntriesChecking, IsReadAs, IsJournalReading, IsTooLong}
use Rattle.valid_table.specs.ReadingLaws.{AnswerIsOne, JournalTextsAreRead}
use Rattle.valid_table.specs.Texts.{Line, First, entry_lines, lines}
use Rattle.valid_table.specs.declared.entry.Entry.{Entry}
use Rattle.valid_table.specs.declared.fault.TableFault.{TableFault}
use Rattle.valid_table.specs.declared.fault.TableFault.TheVariants.{NoMemory, BadLine, NotClosed, Twice, WrongVersion, TooLong}
use Rattle.valid_table.proofs.BadLineLaws.{bad_line_is_one, texts_have_no_bad_line}
use Rattle.valid_table.proofs.OneList.{text_has_one_list}
use Rattle.valid_table.proofs.TextsRead.{no_fault, not_other_version}

-- ---- a line has one fault

-- a line that stands in an entry stands in the journal
in_lines : (entries before : List Entry) (entry : Entry) (line : Line) (n : ℕ)
    → StandsAt entries before entry line n → (prefix : List Line) × (rest : List Line)
    × (lines entries ≡ prefix ++ line ∷ rest) × (n ≡ suc (length prefix))
in_lines entries before entry line n s =
    let later = flat_map entry_lines s.after in
    let parts : lines entries ≡ (lines before ++ s.first) ++ line ∷ (s.last ++ later) =
    ap lines s.parts
    ∙ ap (λ (ls : List Line). First ∷ ls) (flat_map-append entry_lines before (entry ∷ s.after))
    ∙ ap (λ (ls : List Line). lines before ++ (ls ++ later)) s.is_line
    ∙ ap (λ (ls : List Line). lines before ++ ls) (append_assoc s.first (line ∷ s.last) later)
    ∙ sym (append_assoc (lines before) s.first (line ∷ (s.last ++ later))) in (
      lines before ++ s.first,
      s.last ++ later,
      parts,
      omega (arith, s.number, length-append (lines before) s.first),
    )

-- one line stands at an index
one_line : (entries before other : List Entry) (entry another : Entry) (a b : Line) (n : ℕ)
    → StandsAt entries before entry a n → StandsAt entries other another b n → a ≡ b
one_line entries before other entry another a b n one two =
    let here = in_lines _ _ _ a n one in
    let there = in_lines _ _ _ b n two in
    let index : length here.0 ≡ length there.0 = omega (arith, here.3, there.3) in
    sym (get_or_at here.0 a here.1 First (length here.0) refl)
    ∙ ap (λ (ls : List Line). get_or ls (length here.0) First) (sym here.2 ∙ there.2)
    ∙ get_or_at there.0 b there.1 First (length here.0) (sym index)

-- so no line refers to a path and registers one
one_fault : (entries : List Entry) (n : ℕ) → IsNotClosedAt entries n → IsTwiceAt entries n → ⊥
one_fault entries n (before, entry, path, stands, open_there)
    (other, another, again, digest, nar, inl added, valid) =
    let same = one_line _ _ _ _ _ _ _ n stands added in cc
one_fault entries n (before, entry, path, stands, open_there)
    (other, another, again, digest, nar, inr output, valid) =
    let same = one_line _ _ _ _ _ _ _ n stands output in cc

-- two least lines with a fault are the same
one_least : (entries : List Entry) (m n : ℕ) → IsNotClosedAt entries m ⊎ IsTwiceAt entries m
    → IsLeastFault entries m → IsNotClosedAt entries n ⊎ IsTwiceAt entries n
    → IsLeastFault entries n → m ≡ n
one_least entries m n here least there also = omega (arith, least n there, also m here)

-- ---- answers

-- two answers are the same, or one is want of memory
abbrev AreOne : Result (List Entry) TableFault → Result (List Entry) TableFault → Type 0
AreOne a b = (a ≡ b) ⊎ (a ≡ Err NoMemory) ⊎ (b ≡ Err NoMemory)

-- want of memory apart, entries have one answer
one_check : (entries : List Entry) (a b : Result (List Entry) TableFault)
    → IsEntriesChecking entries a
    → IsEntriesChecking entries b → AreOne a b
one_check entries (Err NoMemory) b one two = inr (inl refl)
one_check entries a (Err NoMemory) one two = inr (inr refl)
one_check entries (Ok a) (Ok b) one two = inl (ap Ok (one.0 ∙ sym two.0))
one_check entries (Ok a) (Err (NotClosed n)) one two = absurd (no_fault _ n one.1 (inl two.0))
one_check entries (Ok a) (Err (Twice n)) one two = absurd (no_fault _ n one.1 (inr two.0))
one_check entries (Err (NotClosed m)) (Ok b) one two = absurd (no_fault _ m two.1 (inl one.0))
one_check entries (Err (Twice m)) (Ok b) one two = absurd (no_fault _ m two.1 (inr one.0))
one_check entries (Err (NotClosed m)) (Err (NotClosed n)) one two =
    inl (ap (λ (k : ℕ). Err (NotClosed k)) (one_least _ m n (inl one.0) one.1 (inl two.0) two.1))
one_check entries (Err (Twice m)) (Err (Twice n)) one two =
    inl (ap (λ (k : ℕ). Err (Twice k)) (one_least _ m n (inr one.0) one.1 (inr two.0) two.1))
one_check entries (Err (NotClosed m)) (Err (Twice n)) one two =
    let same = one_least _ m n (inl one.0) one.1 (inr two.0) two.1 in
    absurd (one_fault _ n (subst (IsNotClosedAt entries) same one.0) two.0)
one_check entries (Err (Twice m)) (Err (NotClosed n)) one two =
    let same = one_least _ m n (inr one.0) one.1 (inl two.0) two.1 in
    absurd (one_fault _ n two.0 (subst (IsTwiceAt entries) same one.0))
one_check entries (Ok a) (Err b) one two = absurd two
one_check entries (Err (NotClosed m)) (Err b) one two = absurd two
one_check entries (Err (Twice m)) (Err b) one two = absurd two
one_check entries a b one two = absurd one

-- bytes past the limit
too_long : (dir bytes : List ℕ) (b : Result (List Entry) TableFault) → IsTooLong bytes
    → IsJournalReading dir bytes b → Err TooLong ≡ b
too_long dir bytes (Err TooLong) long h = refl
too_long dir bytes (Err WrongVersion) long h = absurd (h.0 long)
too_long dir bytes (Err (BadLine n)) long h = absurd (h.0 long)
too_long dir bytes (Err NoMemory) long h = absurd (h.0 long)
too_long dir bytes b long h = absurd (h.within long)

-- bytes of another version
wrong_version : (dir bytes : List ℕ) (b : Result (List Entry) TableFault) → (IsTooLong bytes → ⊥)
    → IsOtherVersion bytes → IsJournalReading dir bytes b → Err WrongVersion ≡ b
wrong_version dir bytes (Err TooLong) within other h = absurd (within h)
wrong_version dir bytes (Err WrongVersion) within other h = refl
wrong_version dir bytes (Err (BadLine n)) within other h = absurd (h.1 other)
wrong_version dir bytes (Err NoMemory) within other h = absurd (h.1 other)
wrong_version dir bytes b within other h = absurd (not_other_version _ _ _ h.is_text other)

-- bytes with a bad line
wrong_line : (dir bytes : List ℕ) (n : ℕ) (b : Result (List Entry) TableFault) → IsStoreDir dir
    → (IsTooLong bytes → ⊥) → (IsOtherVersion bytes → ⊥) → IsBadLine dir bytes n
    → IsJournalReading dir bytes b → AreOne (Err (BadLine n)) b
wrong_line dir bytes n (Err TooLong) is_dir within one bad h = absurd (within h)
wrong_line dir bytes n (Err WrongVersion) is_dir within one bad h = absurd (one h.1)
wrong_line dir bytes n (Err (BadLine m)) is_dir within one bad h =
    inl (ap (λ (k : ℕ). Err (BadLine k)) (bad_line_is_one dir bytes n m is_dir bad h.2))
wrong_line dir bytes n (Err NoMemory) is_dir within one bad h = inr (inr refl)
wrong_line dir bytes n b is_dir within one bad h = search (rules, texts_have_no_bad_line)

-- the text of entries
read_as : (dir bytes : List ℕ) (a b : Result (List Entry) TableFault) → IsStoreDir dir
    → IsReadAs dir bytes a → IsJournalReading dir bytes b → AreOne a b
read_as dir bytes a (Err TooLong) is_dir is h = absurd (is.within h)
read_as dir bytes a (Err WrongVersion) is_dir is h = absurd (not_other_version _ _ _ is.is_text h.1)
read_as dir bytes a (Err (BadLine n)) is_dir is h = search (rules, texts_have_no_bad_line)
read_as dir bytes a (Err NoMemory) is_dir is h = inr (inr refl)
read_as dir bytes a b is_dir is h =
    let same = text_has_one_list dir bytes is.entries h.entries is.is_text h.is_text in
    one_check _ a b (subst (λ (es : List Entry). IsEntriesChecking es a) same is.checked)
    h.checked

-- two answers for the same bytes are the same, or one is want of memory
pub answer_is_one : AnswerIsOne
answer_is_one dir bytes (Err TooLong) b is_dir one two = inl (too_long _ _ b one two)
answer_is_one dir bytes (Err WrongVersion) b is_dir one two =
    inl (wrong_version _ _ b one.0 one.1 two)
answer_is_one dir bytes (Err (BadLine n)) b is_dir one two =
    wrong_line _ _ n b is_dir one.0 one.1 one.2 two
answer_is_one dir bytes (Err NoMemory) b is_dir one two = inr (inl refl)
answer_is_one dir bytes a b is_dir one two = read_as _ _ a b is_dir one two

-- the text of a journal is read as just that journal, want of memory apart
pub journal_texts_are_read : JournalTextsAreRead
journal_texts_are_read dir bytes entries answer is_dir within is journal h =
    elim (answer_is_one dir bytes (Ok entries) answer is_dir
    (record { within = within; entries = entries; is_text = is; checked = (refl, journal) }) h) [
      | inl same ↦ inl (sym same)
      | inr (inl other) ↦ cc other
      | inr (inr memory) ↦ inr memory
    ]
