-- A search over windows, up to one of them.
use Rattle.std.proofs.Common.{◌≡◌, ◌∙◌, ℕ, ◌+◌, ◌-◌, ◌<◌, Bool, false, List, [], ◌⊎◌, inl, inr, ⊎_elim, length, take, drop, get_or, sym, ap, subst}
use Rattle.std.specs.Prelude.{All, IsTrue}
use Rattle.std.proofs.lemmas.List.{drop-drop, take_rest, get_or-take}
use Rattle.nix_names.specs.Base32.{is_digit}
use Rattle.nix_names.specs.StorePaths.{is_hash_part}
use Rattle.ref_scan.specs.private.Marks.{IsPartMet, Marked, Searched}
use Rattle.ref_scan.specs.private.Parts.{part_at}
use Rattle.ref_scan.specs.Scan.{Within}
use Rattle.ref_scan.proofs.Windows.{within_past, within_next, within_window, within_few, within_of_drop}

-- The marks are those of before and of parts within the bytes; a part within them is marked or
-- stands after the start.
pub record Searching (parts : List (List ℕ)) (old met : List Bool) (bytes : List ℕ) (start : ℕ)
    : Type 0 where
  pub count : length met ≡ length old
  pub stays : (k : ℕ) → k < length parts → IsPartMet old k → IsPartMet met k
  pub sound : (k : ℕ) → k < length parts → IsPartMet met k → IsPartMet old k
      ⊎ Within (part_at parts k) bytes
  pub rest : (k : ℕ) → k < length parts → Within (part_at parts k) bytes
      → IsPartMet met k ⊎ Within (part_at parts k) (drop start bytes)

abbrev AreParts : List (List ℕ) → Type 0
AreParts parts = All (λ part. IsTrue (is_hash_part part)) parts

pub searching_past :
    (parts : List (List ℕ)) (old met : List Bool) (bytes : List ℕ) (start offset : ℕ) →
    AreParts parts →
    Searching parts old met bytes start →
    offset < 32 →
    is_digit (get_or (drop start bytes) offset 0) ≡ false →
    Searching parts old met bytes (start + (offset + 1))
searching_past parts old met bytes start offset are before lt foreign =
    record {
      count = before.count;
      stays = before.stays;
      sound = before.sound;
      rest = λ k at h.
          let part = part_at parts k in
          ⊎_elim
          inl
          (λ after. inr
          (subst (Within part) (drop-drop (offset + 1) start bytes)
          (within_past part (drop start bytes) offset (are k [] at) lt foreign after)))
          (before.rest k at h);
    }

pub searching_next :
    (parts : List (List ℕ)) (old met new : List Bool) (bytes : List ℕ) (start : ℕ) →
    AreParts parts →
    Searching parts old met bytes start →
    Marked parts met new (take 32 (drop start bytes)) →
    Searching parts old new bytes (start + 1)
searching_next parts old met new bytes start are before marked =
    record {
      count = marked.count ∙ before.count;
      stays = λ k at h. (marked.each k at).1 (inl (before.stays k at h));
      sound = λ k at h.
          let part = part_at parts k in
          ⊎_elim
          (before.sound k at)
          (λ window. inr
          (within_of_drop part bytes start (within_window part (drop start bytes) window)))
          ((marked.each k at).0 h);
      rest = λ k at h.
          let part = part_at parts k in
          ⊎_elim
          (λ m. inl ((marked.each k at).1 (inl m)))
          (λ after.
          ⊎_elim
          (λ window. inl ((marked.each k at).1 (inr window)))
          (λ later. inr (subst (Within part) (drop-drop 1 start bytes) later))
          (within_next part (drop start bytes) (are k [] at) after))
          (before.rest k at h);
    }

pub searching_end :
    (parts : List (List ℕ)) (old met : List Bool) (bytes : List ℕ) (start : ℕ) →
    AreParts parts →
    Searching parts old met bytes start →
    length (drop start bytes) < 32 →
    Searched parts old met bytes
searching_end parts old met bytes start are before few =
    record {
      count = before.count;
      each = λ k at. (
        before.sound k at,
        λ h. ⊎_elim
            (before.stays k at)
            (λ within. ⊎_elim (λ m. m)
            (λ after. absurd (within_few (part_at parts k) (drop start bytes) (are k [] at) few
            after))
            (before.rest k at within))
            h,
      );
    }

-- The window at the start, as the code lends it.
pub window_is :
    (bytes window : List ℕ) (start : ℕ) → window
    ≡ take 32 (take (length bytes - start) (drop start bytes)) → window
    ≡ take 32 (drop start bytes)
window_is bytes window start is = is ∙ ap (take 32) (take_rest bytes start)

pub foreign_at :
    (bytes window : List ℕ) (start offset : ℕ) →
    window ≡ take 32 (take (length bytes - start) (drop start bytes)) →
    offset < 32 →
    is_digit (get_or window offset 0) ≡ false →
    is_digit (get_or (drop start bytes) offset 0) ≡ false
foreign_at bytes window start offset is lt foreign =
    ap is_digit (sym (ap (λ w. get_or w offset 0) (window_is bytes window start is)
    ∙ get_or-take 32 (drop start bytes) offset 0 lt)) ∙ foreign
