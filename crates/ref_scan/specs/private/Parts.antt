-- The hash parts that are sought, their keys, and the sieve that tells most other windows apart.
use Rattle.std.specs.Prelude.{◌≡◌, ℕ, ◌+◌, ◌-◌, ◌*◌, ◌/◌, ◌%◌, ◌^◌, ◌<◌, ◌≤◌, ◌⊎◌, ◌≢◌, max, min, Bool, true, false, List, [], length, map, take, drop, bit_and, slice_index, Option, Some, None, All, Contains, IsTrue, if◌then◌else◌}
use Rattle.std.specs.Int.{from_be_bytes, from_le_bytes, to_be_bytes, w32, w64}
use Rattle.std.specs.Int.{IsPowerOfTwo}
use Rattle.std.specs.List.{slice_index_or}
use Rattle.nix_names.specs.Base32.{is_digit}
use Rattle.nix_names.specs.Bytes.{Bytes, Path}
use Rattle.nix_names.specs.Rising.{IsRising}
use Rattle.nix_names.specs.StorePaths.{hash_part_of, is_hash_part}

-- the part with a number
abbrev pub part_at : (parts : List Bytes) → (k : ℕ) → Bytes
part_at parts k = slice_index_or parts k []

-- the number of a window among the parts, if it is one of them
abbrev pub IsPartNumber : (parts : List Bytes) → (window : Bytes) → Option ℕ → Type 0
IsPartNumber parts window None = Contains parts window → ⊥
IsPartNumber parts window (Some k) = (k < length parts) × (part_at parts k ≡ window)

-- the key of a part: its first eight characters as one big-endian number
abbrev pub key_of_part : Bytes → ℕ
key_of_part part = from_be_bytes w64 (take 8 part)

-- the word of a part's first eight characters: the last four as one little-endian number
unfoldable pub word_of : (first : Bytes) → ℕ
word_of first = from_le_bytes w32 (drop 4 first)

-- a word times a constant, modulo 2^64: each bit of the word counts in the high bits
abbrev pub mix_bits : ℕ → ℕ
mix_bits word = word * 11400714819323198485 % 2 ^ 64

-- the slot of a part that begins with these characters in a sieve of `slots` slots, by the twenty
-- high bits of the mixed word
abbrev pub slot_of : (slots : ℕ) → (first : Bytes) → ℕ
slot_of slots first = bit_and (mix_bits (word_of first) / 2 ^ 44) (slots - 1)

-- the tag of a part that begins with these characters: the character before its word
abbrev pub tag_of : (first : Bytes) → ℕ
tag_of first = slice_index first 3

-- the slots that a sieve for this many parts wants: 16 for each, at least 16 and at most 2^20
abbrev pub slots_wanted : (parts : ℕ) → ℕ
slots_wanted parts = max 16 (min (parts * 16) (2 ^ 20))

-- A sieve for this many parts has the least power of two that is no less than what it wants.
pub record IsSlotCount (parts slots : ℕ) : Type 0 where
  pub power : IsPowerOfTwo slots
  pub enough : slots_wanted parts ≤ slots
  pub least : slots / 2 < slots_wanted parts

-- a slot lets parts with this tag through: it holds the tag, or 255, which lets every part through;
-- 0 lets none through
abbrev pub LetsThrough : (held tag : ℕ) → Type 0
LetsThrough held tag = ((held ≡ tag) × (held ≢ 0)) ⊎ (held ≡ 255)

-- the bytes from one offset to another are base-32 digits
abbrev pub AreDigits : (bytes : Bytes) → (from to : ℕ) → Type 0
AreDigits bytes from to =
    (k : ℕ) → from ≤ k → k < to → is_digit (slice_index bytes k) ≡ true

-- Hash parts that rise strictly.
pub record AreHashParts (parts : List Bytes) : Type 0 where
  pub rising : IsRising parts
  pub each : All (λ part. IsTrue (is_hash_part part)) parts

-- A sieve has at least one slot, and lets each of the keys through.
pub record IsSieve (keys sieve : List ℕ) : Type 0 where
  pub some : 0 < length sieve
  pub each : All (λ key. LetsThrough
      (slice_index_or sieve (slot_of (length sieve) (to_be_bytes w64 key)) 0)
      (tag_of (to_be_bytes w64 key))) keys

-- The hash part of each path is one of the parts. Parts that are in order are those of the paths,
-- in the order of the paths.
pub record ArePartsOf (paths : List Path) (parts : List Bytes) (in_order : Bool) : Type 0 where
  pub are_parts : AreHashParts parts
  pub known : (path : Path) → Contains paths path → Contains parts (hash_part_of path)
  pub as_paths : IsTrue in_order → parts ≡ map hash_part_of paths

-- The permitted paths, the hash parts that are sought, and whether these are in the order of the
-- paths.
pub record Indexed : Type 0 where
  pub permitted : List Path
  pub parts : List Bytes
  pub in_order : Bool

-- the parts that are sought: those of the paths, in the order of the paths, or a list apart
abbrev pub parts_told : (in_order : Bool) → (paths : List Path) → (apart : List Bytes) → List Bytes
parts_told in_order paths apart = if in_order then map hash_part_of paths else apart

-- numbers rise strictly
abbrev pub NumbersRise : List ℕ → Type 0
NumbersRise numbers = (k : ℕ) → k + 1 < length numbers
    → slice_index_or numbers k 0 < slice_index_or numbers (k + 1) 0

-- An index has the keys of the parts that are sought, and a sieve of these keys. The keys rise
-- strictly where the parts are in the order of the paths; else the list apart rises strictly.
pub record IsIndex (in_order : Bool) (paths : List Path) (keys : List ℕ)
    (apart : List Bytes) (sieve : List ℕ) : Type 0 where
  pub of_parts : keys ≡ map key_of_part (parts_told in_order paths apart)
  pub rising : IsTrue in_order → NumbersRise keys
  pub sorted : (in_order ≡ false) → IsRising apart
  pub sieved : IsSieve keys sieve
