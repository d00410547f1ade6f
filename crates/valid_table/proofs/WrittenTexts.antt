-- How a journal's text goes on, and that what is written is a text of its version.
use Rattle.std.proofs.Common.{◌≡◌, ◌||◌, ℕ, Bool, true, false, List, [], ◌∷◌, All, Option, Some, None, refl, true≢false, rules}
use Rattle.std.specs.List.{list_any}
use Rattle.std.proofs.lemmas.List.Concat.{flat_map-append}
use Rattle.std.proofs.lemmas.List.Elements.{All-cons, All-head, All-nil, All-tail, All-weaker}
use Rattle.nix_names.specs.declared.method.Method.{Method}
use Rattle.nix_names.specs.declared.method.Method.TheVariants.{Flat, Recursive}
use Rattle.nix_names.specs.declared.method.MethodDigest.{MethodDigest}
use Rattle.valid_table.specs.PathInfos.{NarInfo}
use Rattle.valid_table.specs.Texts.{IsDigestOf, IsEntryIn, IsNarOf, IsOf, text}
use Rattle.valid_table.specs.Written.{TextGoesOn, WrittenTextsAreTexts, entry_needs_three, hashes_archive, is_known, is_recursive, least_version, needs_three}
use Rattle.valid_table.specs.declared.entry.Entry.{Entry}
use Rattle.valid_table.specs.declared.entry.Entry.TheVariants.{Add, Done}
use Rattle.valid_table.specs.declared.entry.Registration.{Registration}
use Rattle.valid_table.specs.declared.path_table.version.Version.{Version}
use Rattle.valid_table.specs.declared.path_table.version.Version.TheVariants.{One, Two, Three}

pub text_goes_on : TextGoesOn
unfolding text
text_goes_on version entries more = search (rules, flat_map-append)

-- ---- entries of any version are entries of version 3

digest_in_three : (version : Version) (digest : Option MethodDigest) → IsDigestOf version digest
    → IsDigestOf Three digest
digest_in_three version None is = tt
digest_in_three One (Some found) is = is.2
digest_in_three Two (Some found) is = is.1
digest_in_three Three (Some found) is = is

nar_in_three : (version : Version) (nar : Option NarInfo) → IsNarOf version nar
    → IsNarOf Three nar
nar_in_three version None is = tt
nar_in_three One (Some nar) is = absurd is
nar_in_three Two (Some nar) is = absurd is
nar_in_three Three (Some nar) is = is

in_three : (version : Version) (dir : List ℕ) (r : Registration) → IsOf version dir r
    → IsOf Three dir r
in_three version dir r is = record {
  path = is.path;
  digest = digest_in_three version _ is.digest;
  nar = nar_in_three version _ is.nar;
  references = is.references;
  rising = is.rising;
}

entry_in_three : (version : Version) (dir : List ℕ) (entry : Entry) → IsEntryIn version dir entry
    → IsEntryIn Three dir entry
entry_in_three version dir (Add r) is = in_three version dir r is
entry_in_three version dir (Done deriver outputs) is = (
  is.0,
  is.1,
  is.2,
  is.3,
  All-weaker (IsOf version dir) (IsOf Three dir) (in_three version dir) _ is.4,
)

-- ---- entries that don't need version 3 are entries of version 2

-- neither of two tests passes
neither : (a b : Bool) → (a || b) ≡ false → (a ≡ false) × (b ≡ false)
neither true b e = absurd (true≢false e)
neither false b e = (refl, e)

flat_method : (method : Method) → hashes_archive method ≡ false → method ≡ Flat
flat_method Flat e = refl
flat_method Recursive e = absurd (true≢false e)

digest_in_two : (version : Version) (digest : Option MethodDigest) → is_recursive digest ≡ false
    → IsDigestOf version digest → IsDigestOf Two digest
digest_in_two version None flat is = tt
digest_in_two One (Some found) flat is = (is.0, is.2)
digest_in_two Two (Some found) flat is = is
digest_in_two Three (Some found) flat is = (flat_method found.method flat, is)

nar_in_two : (nar : Option NarInfo) → is_known nar ≡ false → IsNarOf Two nar
nar_in_two None none = tt
nar_in_two (Some nar) none = absurd (true≢false none)

in_two : (version : Version) (dir : List ℕ) (r : Registration) → needs_three r.info ≡ false
    → IsOf version dir r → IsOf Two dir r
in_two version dir r needless is =
    let both = neither (is_known r.info.nar) (is_recursive r.info.digest) needless in
    record {
      path = is.path;
      digest = digest_in_two version r.info.digest both.1 is.digest;
      nar = nar_in_two r.info.nar both.0;
      references = is.references;
      rising = is.rising;
    }

-- whether a registration needs version 3
abbrev needs : Registration → Bool
needs r = needs_three r.info

all_in_two : (version : Version) (dir : List ℕ) (rs : List Registration)
    → list_any needs rs ≡ false → All (IsOf version dir) rs → All (IsOf Two dir) rs
all_in_two version dir [] needless each = All-nil (IsOf Two dir)
all_in_two version dir (r ∷ rs) needless each =
    let both = neither (needs r) (list_any needs rs) needless in
    All-cons (IsOf Two dir) r rs
    (in_two version dir r both.0 (All-head (IsOf version dir) r rs each))
    (all_in_two version dir rs both.1 (All-tail (IsOf version dir) r rs each))

entry_in_two : (version : Version) (dir : List ℕ) (entry : Entry)
    → entry_needs_three entry ≡ false → IsEntryIn version dir entry → IsEntryIn Two dir entry
entry_in_two version dir (Add r) needless is =
    in_two version dir r (neither (needs r) false needless).0 is
entry_in_two version dir (Done deriver outputs) needless is =
    (is.0, is.1, is.2, is.3, all_in_two version dir outputs needless is.4)

entries_in_two : (version : Version) (dir : List ℕ) (entries : List Entry)
    → list_any entry_needs_three entries ≡ false → All (IsEntryIn version dir) entries
    → All (IsEntryIn Two dir) entries
entries_in_two version dir [] needless each = All-nil (IsEntryIn Two dir)
entries_in_two version dir (entry ∷ entries) needless each =
    let both = neither (entry_needs_three entry) (list_any entry_needs_three entries) needless in
    All-cons (IsEntryIn Two dir) entry entries
    (entry_in_two version dir entry both.0 (All-head (IsEntryIn version dir) entry entries each))
    (entries_in_two version dir entries both.1
    (All-tail (IsEntryIn version dir) entry entries each))

-- ---- the law

in_written : (version : Version) (dir : List ℕ) (entries : List Entry) (needed : Bool)
    → list_any entry_needs_three entries ≡ needed → All (IsEntryIn version dir) entries
    → All (IsEntryIn (least_version needed) dir) entries
in_written version dir entries true e each =
    All-weaker (IsEntryIn version dir) (IsEntryIn Three dir) (entry_in_three version dir) entries
    each
in_written version dir entries false e each = entries_in_two version dir entries e each

pub written_texts_are_texts : WrittenTextsAreTexts
written_texts_are_texts version dir bytes entries is = record {
  of_dir = in_written version dir entries (list_any entry_needs_three entries) refl is.of_dir;
  bytes_are = refl;
}
