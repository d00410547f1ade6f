-- The three versions of a journal's text: the same entries, and a later text is not much longer.
use Rattle.std.proofs.Common.{◌≡◌, ◌≤◌, ◌+◌, ◌*◌, ℕ, List, [], ◌∷◌, ◌++◌, All, Option, Some, None, inl, inr, length, refl, ap, sym, subst, arith}
use Rattle.std.proofs.lemmas.Bool.{cases_lt}
use Rattle.std.proofs.lemmas.List.{length-append}
use Rattle.std.proofs.lemmas.List.Elements.{All-head, All-tail, All-weaker}
use Rattle.hex.specs.Hex.{lower_digits}
use Rattle.hex.proofs.HexLemmas.{length-encode_with}
use Rattle.nix_names.specs.Digests.{IsDigest, algorithm_of, bytes_of, digits_of, name_of, size_of, text_of}
use Rattle.nix_names.specs.Methods.{mark_of}
use Rattle.nix_names.specs.declared.digest.Algorithm.TheVariants.{Sha256}
use Rattle.nix_names.specs.declared.digest.Digest.{Digest}
use Rattle.nix_names.specs.declared.method.MethodDigest.{MethodDigest}
use Rattle.valid_table.specs.PathInfos.{NarInfo}
use Rattle.valid_table.specs.private.LineTexts.{lines_text}
use Rattle.valid_table.specs.Reading.{IsTooLong, max_len}
use Rattle.valid_table.specs.ReadingLaws.{IsEarlier, VersionsHaveTheSameEntries, WrittenJournalsAreReadAgain}
use Rattle.valid_table.specs.private.Steps.{Start}
use Rattle.valid_table.specs.Texts.{IsDigestOf, IsEntryIn, IsKnownOf, IsNarOf, IsOf, IsTextIn, Line, First, Added, Deriver, Output, Reference, digest_text, known_text, line_text, lines, nar_text, text}
use Rattle.valid_table.specs.Valid.{IsJournal}
use Rattle.valid_table.specs.declared.entry.Entry.{Entry}
use Rattle.valid_table.specs.declared.entry.Entry.TheVariants.{Add, Done}
use Rattle.valid_table.specs.declared.entry.Registration.{Registration}
use Rattle.valid_table.specs.declared.path_table.version.Version.{Version}
use Rattle.valid_table.specs.declared.path_table.version.Version.TheVariants.{One, Two, Three}
use Rattle.valid_table.proofs.Leading.{lines_of}
use Rattle.valid_table.proofs.LineLists.{MayEnd, lines_end}
use Rattle.valid_table.proofs.LineTexts.{IsLineOf}
use Rattle.valid_table.proofs.OneAnswer.{journal_texts_are_read}
use Rattle.valid_table.proofs.Versions.{text_begins, too_long_in}

-- ---- entries of a version are entries of a later one

digest_later : (old new : Version) (digest : Option MethodDigest) → IsEarlier old new
    → IsDigestOf old digest → IsDigestOf new digest
digest_later One Two None earlier is = tt
digest_later One Three None earlier is = tt
digest_later Two Three None earlier is = tt
digest_later One Two (Some found) earlier is = (is.0, is.2)
digest_later One Three (Some found) earlier is = is.2
digest_later Two Three (Some found) earlier is = is.1
digest_later old new digest earlier is = absurd earlier

nar_later : (old new : Version) (nar : Option NarInfo) → IsEarlier old new → IsNarOf old nar
    → IsNarOf new nar
nar_later One new None earlier is = tt
nar_later Two new None earlier is = tt
nar_later Three new nar earlier is = absurd earlier
nar_later One new (Some nar) earlier is = absurd is
nar_later Two new (Some nar) earlier is = absurd is

registration_later : (old new : Version) (dir : List ℕ) (r : Registration) → IsEarlier old new
    → IsOf old dir r → IsOf new dir r
registration_later old new dir r earlier is = record {
  path = is.path;
  digest = digest_later old new _ earlier is.digest;
  nar = nar_later old new _ earlier is.nar;
  references = is.references;
  rising = is.rising;
}

entry_later : (old new : Version) (dir : List ℕ) (entry : Entry) → IsEarlier old new
    → IsEntryIn old dir entry → IsEntryIn new dir entry
entry_later old new dir (Add r) earlier is = registration_later old new dir r earlier is
entry_later old new dir (Done deriver outputs) earlier is = (
  is.0,
  is.1,
  is.2,
  is.3,
  All-weaker (IsOf old dir) (IsOf new dir) (λ r of. registration_later old new dir r earlier of) _
      is.4,
)

-- ---- lengths

-- the text of a SHA-256 is seven bytes longer than its 64 digits
sha256_lengths : (digest : Digest) → algorithm_of digest ≡ Sha256 → IsDigest digest
    → (length (digits_of digest) ≡ 64) × (length (text_of digest) ≡ 71)
sha256_lengths digest sha256 is =
    let digits : length (digits_of digest) ≡ 64 = omega (
      arith,
      length-encode_with lower_digits (bytes_of digest),
      ap size_of sha256,
      is.0,
    ) in (
      digits,
      omega (
        arith,
        length-append (name_of (algorithm_of digest)) (58 ∷ digits_of digest),
        ap (λ a. length (name_of a)) sha256,
        digits,
      ),
    )

-- a digest's text in a later version is at most seven bytes longer, if it is of 64 digits, and else
-- it is the same
digest_grows : (old new : Version) (digest : Option MethodDigest) → IsEarlier old new
    → IsDigestOf old digest
    → length (digest_text new digest) + 2 ≤ 2 * length (digest_text old digest) + 1
digest_grows One Two None earlier is = omega arith
digest_grows One Three None earlier is = omega arith
digest_grows Two Three None earlier is = omega arith
digest_grows One Two (Some found) earlier is =
    omega (arith, sha256_lengths found.digest is.1 is.2)
digest_grows One Three (Some found) earlier is = omega (
  arith,
  sha256_lengths found.digest is.1 is.2,
  length-append (mark_of found.method) (text_of found.digest),
  ap (λ m. length (mark_of m)) is.0,
)
digest_grows Two Three (Some found) earlier is = omega (
  arith,
  length-append (mark_of found.method) (text_of found.digest),
  ap (λ m. length (mark_of m)) is.0,
  length-append (name_of (algorithm_of found.digest)) (58 ∷ digits_of found.digest),
)
digest_grows old new digest earlier is = absurd earlier

-- so what is known of a path takes at most one byte more than twice as many
known_grows : (old new : Version) (digest : Option MethodDigest) (nar : Option NarInfo)
    → IsEarlier old new → IsKnownOf old digest nar
    → length (known_text new digest nar) ≤ 2 * length (known_text old digest nar) + 1
known_grows One Two digest nar earlier is = omega (arith, digest_grows One Two digest earlier is.0)
known_grows One Three digest None earlier is = omega (
  arith,
  digest_grows One Three digest earlier is.0,
  length-append (digest_text Three digest) (32 ∷ nar_text None),
)
known_grows One Three digest (Some nar) earlier is = absurd is.1
known_grows Two Three digest None earlier is = omega (
  arith,
  digest_grows Two Three digest earlier is.0,
  length-append (digest_text Three digest) (32 ∷ nar_text None),
)
known_grows Two Three digest (Some nar) earlier is = absurd is.1
known_grows old new digest nar earlier is = absurd earlier

-- a line with a path and what is known of it is at most twice as long
fields_grow : (old new : Version) (path : List ℕ) (digest : Option MethodDigest)
    (nar : Option NarInfo) → IsEarlier old new → IsKnownOf old digest nar
    → length (path ++ (32 ∷ (known_text new digest nar ++ (10 ∷ []))))
    ≤ 2 * length (path ++ (32 ∷ (known_text old digest nar ++ (10 ∷ []))))
fields_grow old new path digest nar earlier is = omega (
  arith,
  length-append path (32 ∷ (known_text new digest nar ++ (10 ∷ []))),
  length-append path (32 ∷ (known_text old digest nar ++ (10 ∷ []))),
  length-append (known_text new digest nar) (10 ∷ []),
  length-append (known_text old digest nar) (10 ∷ []),
  known_grows old new digest nar earlier is,
)

-- the first lines are of one length
first_grows : (old new : Version) → IsEarlier old new
    → length (line_text new First) ≤ 2 * length (line_text old First)
first_grows One Two earlier = omega arith
first_grows One Three earlier = omega arith
first_grows Two Three earlier = omega arith
first_grows old new earlier = absurd earlier

-- so is a line
line_grows : (old new : Version) (dir : List ℕ) (line : Line) → IsEarlier old new
    → IsLineOf old dir line → length (line_text new line) ≤ 2 * length (line_text old line)
line_grows old new dir First earlier is = first_grows old new earlier
line_grows old new dir (Added path digest nar) earlier is =
    omega (arith, fields_grow old new path digest nar earlier is.1)
line_grows old new dir (Deriver path) earlier is = omega arith
line_grows old new dir (Output path digest nar) earlier is =
    omega (arith, fields_grow old new path digest nar earlier is.1)
line_grows old new dir (Reference path) earlier is = omega arith

-- so are lines
lines_grow : (old new : Version) (dir : List ℕ) (some : List Line) → IsEarlier old new
    → All (IsLineOf old dir) some
    → length (lines_text new some) ≤ 2 * length (lines_text old some)
lines_grow old new dir [] earlier each = omega arith
lines_grow old new dir (line ∷ some) earlier each = omega (
  arith,
  line_grows old new dir line earlier (All-head (IsLineOf old dir) line some each),
  lines_grow old new dir some earlier (All-tail (IsLineOf old dir) line some each),
  length-append (line_text old line) (lines_text old some),
  length-append (line_text new line) (lines_text new some),
)

-- ---- the laws

-- a text of a version and the text of its entries in a later one have the same entries
pub versions_have_the_same_entries : VersionsHaveTheSameEntries
unfolding text
versions_have_the_same_entries old new dir bytes entries earlier is = (
  record {
    of_dir = All-weaker (IsEntryIn old dir) (IsEntryIn new dir)
        (λ entry of. entry_later old new dir entry earlier of) _ is.of_dir;
    bytes_are = refl;
  },
  subst (λ (t : List ℕ). length (lines_text new (lines entries)) ≤ 2 * length t) (sym is.bytes_are)
      (lines_grow old new dir (lines entries) earlier
      (lines_of old dir MayEnd Start (lines entries) (lines_end _ _ _ is.of_dir))),
)

-- twice the limit of version 1 is that of a later version
limits_double : (new : Version) → IsEarlier One new → 2 * max_len One ≤ max_len new
limits_double One earlier = absurd earlier
limits_double Two earlier = omega arith
limits_double Three earlier = omega arith

-- a later text isn't too long where one of version 1 isn't
within_later : (new : Version) (dir bytes : List ℕ) (entries : List Entry) → IsEarlier One new
    → IsTextIn One dir entries bytes → (IsTooLong bytes → ⊥) → IsTooLong (text new entries) → ⊥
within_later new dir bytes entries earlier is within long =
    let both = versions_have_the_same_entries One new dir bytes entries earlier is in
    let past = (too_long_in new (text new entries)
    (text_begins new dir (text new entries) entries both.0)).1 long in
    elim (cases_lt (max_len One) (length bytes)) [
      | inl more ↦ within ((too_long_in One bytes (text_begins One dir bytes entries is)).0 more)
      | inr short ↦ absurd (omega (arith, past, short, both.1, limits_double new earlier))
    ]

-- nor is one of version 2, where that was told
within : (old new : Version) (dir bytes : List ℕ) (entries : List Entry) → IsEarlier old new
    → IsTextIn old dir entries bytes → (IsTooLong bytes → ⊥)
    → (old ≡ Two → IsTooLong (text new entries) → ⊥) → IsTooLong (text new entries) → ⊥
within One new dir bytes entries earlier is short told =
    within_later new dir bytes entries earlier is short
within Two new dir bytes entries earlier is short told = told refl
within Three new dir bytes entries earlier is short told = absurd earlier

-- what is read of a text is read of the text of it in a later version, want of memory apart
pub written_journals_are_read_again : WrittenJournalsAreReadAgain
written_journals_are_read_again old new dir bytes entries answer earlier is_dir is read told again =
    journal_texts_are_read dir (text new entries) entries answer is_dir
    (within old new dir bytes entries earlier is read.within told)
    (inl (new, (versions_have_the_same_entries old new dir bytes entries earlier is).0))
    (subst IsJournal (sym read.checked.0) read.checked.1) again
