-- Where the bytes of derivations come from, and what such a source may answer.
use Rattle.std.specs.Prelude.{◌≡◌, ◌↔◌, ◌⊎◌, ◌+◌, ◌-◌, ◌^◌, ◌<◌, ◌==◌, ℕ, List, Bool, Option, Some, None, Result, Ok, Err, if◌then◌else◌}
use Rattle.std.specs.List.{list_any}
use Rattle.std.specs.Map.{lookup}
use Rattle.std.specs.Global.{Vec}
use Rattle.nix_names.specs.Bytes.{Bytes, Path}
use Rattle.nix_names.specs.Names.{same_bytes}
use Rattle.nix_drv.specs.declared.source.SourceFault.{SourceFault}
use Rattle.nix_drv.specs.declared.source.SourceFault.TheVariants.{Missing, Device, NoMemory}

-- the number of a source's fault in the table of faults
abbrev pub source_number_of : SourceFault → ℕ
source_number_of NoMemory = 9
source_number_of Missing = 17
source_number_of Device = 18

-- what a source answers for a path: the bytes there, or why there are none
abbrev pub Answer : Type 0
Answer = Result Bytes SourceFault

-- which answers may be given is the same for each path before and after
abbrev pub GivesSame : (before after : Path → Answer → Type 0) → Type 0
GivesSame before after = (path : Path) (answer : Answer)
    → (before path answer ↔ after path answer)

-- what was fetched is an answer that may be given, or memory was refused
abbrev pub IsGiven : (Answer → Type 0) → Result (Vec ℕ) SourceFault → Type 0
IsGiven gives (Ok bytes) = gives (Ok bytes.items)
IsGiven gives (Err Missing) = gives (Err Missing)
IsGiven gives (Err Device) = gives (Err Device)
IsGiven gives (Err NoMemory) = Unit {0}

-- the greatest count of failures
abbrev pub most_failures : ℕ
most_failures = 2 ^ 64 - 1

-- the failure of a device is counted: the count rose in this call, or is the greatest
abbrev pub IsCounted : (before after : ℕ) → Result (Vec ℕ) SourceFault → Type 0
IsCounted before after (Err Device) = (before < after) ⊎ (after ≡ most_failures)
IsCounted before after result = Unit {0}

-- A list of files, by path and bytes, whose fetches with the numbers `failing` fail. Fetches are
-- numbered from 0. `fetches` counts them and `failures` those that failed, up to 2^64 - 1.
pub record Listing : Type 0 where
  pub files : List (Path × Bytes)
  pub failing : List ℕ
  pub fetches : ℕ
  pub failures : ℕ

-- the bytes of the first file at the path
abbrev pub bytes_at : List (Path × Bytes) → Path → Option Bytes
bytes_at files path = lookup (λ own. same_bytes path own) files

-- The list of files in its first state: it has the same bytes at each path as these files, and the
-- fetches with these numbers fail.
pub record IsListingOf (files : List (Path × Bytes)) (failing : List ℕ) (listing : Listing)
    : Type 0 where
  pub same : (path : Path) → bytes_at listing.files path ≡ bytes_at files path
  pub fails : listing.failing ≡ failing
  pub no_fetches : listing.fetches ≡ 0
  pub no_failures : listing.failures ≡ 0

-- what a list of files may answer for a path: the bytes of the first file there, or that there is
-- no file; a failure of the device may always come
abbrev pub listing_gives : Listing → Path → Answer → Type 0
listing_gives listing path (Ok bytes) = bytes_at listing.files path ≡ Some bytes
listing_gives listing path (Err Missing) = bytes_at listing.files path ≡ None
listing_gives listing path (Err Device) = Unit {0}
listing_gives listing path (Err NoMemory) = ⊥

-- a count with one added, unless it is the greatest
abbrev pub counted : ℕ → ℕ
counted n = if n == most_failures then n else n + 1

-- whether the next fetch is one of those that fail
abbrev pub is_failing : Listing → Bool
is_failing listing = list_any (λ number. number == listing.fetches) listing.failing

-- the list of files after a fetch
abbrev pub after_fetch : Listing → Listing
after_fetch listing = record {
  files = listing.files;
  failing = listing.failing;
  fetches = counted listing.fetches;
  failures = if is_failing listing then counted listing.failures else listing.failures;
}

-- the bytes that were found as an answer, or that there are none
abbrev pub found_answer : Option Bytes → Answer
found_answer (Some bytes) = Ok bytes
found_answer None = Err Missing

-- what the next fetch of the path answers, want of memory aside
abbrev pub next_answer : Listing → Path → Answer
next_answer listing path = if is_failing listing then Err Device
    else found_answer (bytes_at listing.files path)

-- what was fetched is the answer; where the answer has bytes, memory may be refused instead
abbrev pub IsFetched : Answer → Result (Vec ℕ) SourceFault → Type 0
IsFetched (Ok bytes) (Ok fetched) = fetched.items ≡ bytes
IsFetched (Ok bytes) (Err fault) = fault ≡ NoMemory
IsFetched (Err wanted) (Ok fetched) = ⊥
IsFetched (Err wanted) (Err fault) = fault ≡ wanted
