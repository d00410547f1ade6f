-- A list of files gives what a source may give, and counts its failures.
use Rattle.std.proofs.Common.{◌≡◌, ◌⊎◌, ℕ, ◌<◌, ◌≤◌, Bool, true, false, cond, eqb, List, [], ◌∷◌, ◌++◌, Option, Some, None, Result, Ok, Err, refl, sym, ap, ◌∙◌, arith, rules}
use Rattle.std.specs.Option.{option_map}
use Rattle.std.specs.Global.{Vec}
use Rattle.std.proofs.lemmas.Bool.{cases_Bool, eqb-true}
use Rattle.std.specs.Map.{lookup}
use Rattle.std.proofs.lemmas.List.{map-append}
use Rattle.std.proofs.lemmas.Slice.Eq.{bytes_eq-Decides}
use Rattle.indexmap.specs.IndexMap.{insert_entry}
use Rattle.nix_names.specs.Names.{same_bytes}
use Rattle.nix_drv.specs.ListedFiles.{entries_of, pairs_of}
use Rattle.nix_drv.specs.declared.listing.ListedFile.{ListedFile}
use Rattle.nix_drv.specs.Sources.{IsFetched, GivesSame, IsCounted, IsGiven, Listing, after_fetch, bytes_at, counted, found_answer, listing_gives, most_failures, next_answer}
use Rattle.nix_drv.specs.declared.source.SourceFault.{SourceFault}
use Rattle.nix_drv.specs.declared.source.SourceFault.TheVariants.{Missing, Device, NoMemory}

same_after : (old : Listing) → GivesSame (listing_gives old) (listing_gives (after_fetch old))
same_after old path (Ok bytes) = (λ h. h, λ h. h)
same_after old path (Err Missing) = (λ h. h, λ h. h)
same_after old path (Err Device) = (λ h. h, λ h. h)
same_after old path (Err NoMemory) = (λ h. h, λ h. h)

-- a fetch changes nothing of what is given
pub keeps_gives : (old new : Listing) → new ≡ after_fetch old
    → GivesSame (listing_gives old) (listing_gives new)
keeps_gives old new is_after = search (rules, same_after)

given_for : (old : Listing) (path : List ℕ) (failing : Bool) (found : Option (List ℕ))
    → bytes_at old.files path ≡ found → (result : Result (Vec ℕ) SourceFault)
    → IsFetched (cond failing (Err Device) (found_answer found)) result
    → IsGiven (listing_gives old path) result
given_for old path true found at (Ok fetched) answer = absurd answer
given_for old path true found at (Err fault) answer = search rules
given_for old path false (Some bytes) at (Ok fetched) answer = search rules
given_for old path false (Some bytes) at (Err fault) answer = search rules
given_for old path false None at (Ok fetched) answer = absurd answer
given_for old path false None at (Err fault) answer = search rules

-- what the next fetch answers is given
pub answer_is_given : (old : Listing) (path : List ℕ) (result : Result (Vec ℕ) SourceFault)
    → IsFetched (next_answer old path) result → IsGiven (listing_gives old path) result
answer_is_given old path result answer = search (rules, given_for)

counted_above : (n : ℕ) → (n < counted n) ⊎ (counted n ≡ most_failures)
counted_above n = search (rules, cases_Bool, eqb, eqb-true)

counted_for : (failing : Bool) (found : Option (List ℕ)) (before : ℕ)
    (result : Result (Vec ℕ) SourceFault) → IsFetched
    (cond failing (Err Device) (found_answer found))
    result → IsCounted before (cond failing (counted before) before) result
counted_for true found before (Ok fetched) answer = absurd answer
counted_for true found before (Err fault) answer = search (rules, counted_above)
counted_for false (Some bytes) before (Ok fetched) answer = tt
counted_for false (Some bytes) before (Err fault) answer = search rules
counted_for false None before (Ok fetched) answer = absurd answer
counted_for false None before (Err fault) answer = search rules

-- a failed fetch is counted
pub device_is_counted : (old new : Listing) (path : List ℕ) (result : Result (Vec ℕ) SourceFault)
    → new ≡ after_fetch old → IsFetched (next_answer old path) result
    → IsCounted old.failures new.failures result
device_is_counted old new path result is_after answer = search (rules, counted_for)

rises : (failing : Bool) (before : ℕ) → before ≤ cond failing (counted before) before
rises true before = search (rules, cases_Bool, eqb)
rises false before = omega arith

-- the count of failures never falls
pub failures_rise : (old new : Listing) → new ≡ after_fetch old → old.failures ≤ new.failures
failures_rise old new is_after = search (rules, rises)

-- ---- files by their paths

-- the first of two, where it is there
abbrev pub or_else : {A : Type 0} → Option A → Option A → Option A
or_else (Some x) other = Some x
or_else None other = other

-- what is found by a view of the keys and values
lookup_mapped : (test : List ℕ → Bool) (entries : List (Vec ℕ × Vec ℕ))
    → lookup test (entries_of entries) ≡ option_map (λ v. v.items)
    (lookup (λ k. test k.items) entries)
lookup_mapped test [] = refl
lookup_mapped test (e ∷ entries) = search (rules, lookup_mapped test entries)

-- the bytes of the entry that is found
pub bytes_found : (test : List ℕ → Bool) (entries : List (Vec ℕ × Vec ℕ)) (found : Option (Vec ℕ))
    → found ≡ lookup (λ k. test k.items) entries → option_map (λ v. v.items) found
    ≡ lookup test (entries_of entries)
bytes_found test entries found e = search (rules, lookup_mapped)

-- files in front decide before the one after them
lookup_push : (test : List ℕ → Bool) (files : List (List ℕ × List ℕ)) (path bytes : List ℕ)
    (other : Option (List ℕ))
    → or_else (lookup test (files ++ (path, bytes) ∷ [])) other
    ≡ or_else (lookup test files) (cond (test path) (Some bytes) other)
lookup_push test [] path bytes other = search (rules, or_else)
lookup_push test (e ∷ files) path bytes other =
    search (rules, or_else, lookup_push test files path bytes other)

-- an entry that takes the place of one with the same key
same_twice : (b : Bool) (x y z : Option (List ℕ)) → cond b x z ≡ cond b x (cond b y z)
same_twice true x y z = refl
same_twice false x y z = refl

-- two tests that can't both pass
either_first : (a b : Bool) (x y z : Option (List ℕ)) → (a ≡ true → b ≡ true → ⊥)
    → cond a x (cond b y z) ≡ cond b y (cond a x z)
either_first true true x y z apart = absurd (apart refl refl)
either_first true false x y z apart = refl
either_first false b x y z apart = refl

-- a new entry is found by its key, and hides no other
pub lookup_inserted : (wanted : List ℕ) (entries : List (Vec ℕ × Vec ℕ)) (k v : Vec ℕ)
    → lookup (same_bytes wanted)
    (entries_of (insert_entry (λ x y. same_bytes x.items y.items) entries k v))
    ≡ cond (same_bytes wanted k.items) (Some v.items)
    (lookup (same_bytes wanted) (entries_of entries))
lookup_inserted wanted [] k v = refl
lookup_inserted wanted (e ∷ entries) k v =
    search (
      rules,
      cases_Bool,
      bytes_eq-Decides,
      same_twice,
      either_first,
      lookup_inserted wanted entries k v,
    )

-- the files that are left decide before those by path
abbrev pub AreByPath : List ListedFile → List (Vec ℕ × Vec ℕ) → List ListedFile → Type 0
AreByPath left entries files = (wanted : List ℕ)
    → or_else (bytes_at (pairs_of left) wanted) (bytes_at (entries_of entries) wanted)
    ≡ bytes_at (pairs_of files) wanted

-- the last of the files that are left goes to those by path
pub one_by_path : (left rest : List ListedFile) (entries more : List (Vec ℕ × Vec ℕ))
    (files : List ListedFile) (file : ListedFile) → AreByPath left entries files → left ≡ rest
    ++ file ∷ []
    → more ≡ insert_entry (λ x y. same_bytes x.items y.items) entries file.path file.bytes
    → AreByPath rest more files
one_by_path left rest entries more files file are split inserted wanted =
    let pairs : pairs_of left ≡ pairs_of rest ++ (file.path.items, file.bytes.items)
    ∷ [] = ap pairs_of split ∙ map-append (λ (f : ListedFile). (f.path.items, f.bytes.items))
    rest (file ∷ []) in
    let here : bytes_at (entries_of more) wanted
    ≡ cond (same_bytes wanted file.path.items) (Some file.bytes.items)
    (bytes_at (entries_of entries) wanted) =
    ap (λ (es : List (Vec ℕ × Vec ℕ)). bytes_at (entries_of es) wanted) inserted
    ∙ lookup_inserted wanted entries file.path file.bytes in
    ap (or_else (bytes_at (pairs_of rest) wanted)) here
    ∙ sym (lookup_push (same_bytes wanted) _ _ _
    _)
    ∙ ap (λ (fs : List (List ℕ × List ℕ)). or_else (bytes_at fs wanted)
    (bytes_at (entries_of entries) wanted)) (sym pairs) ∙ are wanted
