-- The bytes that are kept of a list of bytes, as pieces come.
use Rattle.std.proofs.Common.{◌≡◌, ◌∙◌, ℕ, ◌+◌, ◌-◌, ◌<◌, ◌≤◌, List, ◌++◌, ◌⊎◌, inl, inr, ⊎_elim, length, take, drop, sym, ap, subst, arith, append_assoc, length-append, length-take, length-drop, rules}
use Rattle.std.specs.Prelude.{min, IsTrue}
use Rattle.std.proofs.Math.Nat.{min_comm}
use Rattle.std.proofs.lemmas.Bool.{cases_lt}
use Rattle.std.proofs.lemmas.List.{take-append-drop, take_min, take_all}
use Rattle.std.proofs.Math.Seq.{drop-append-add}
use Rattle.nix_names.specs.StorePaths.{is_hash_part}
use Rattle.ref_scan.specs.private.Kept.{last_bytes}
use Rattle.ref_scan.specs.Scan.{Within}
use Rattle.ref_scan.proofs.HashParts.{hash_part_long}
use Rattle.ref_scan.proofs.Windows.{cover, within_left, within_right}

pub joined :
    (tail piece one two : List ℕ) (n : ℕ) →
    one ≡ tail → two ≡ one ++ take n piece → n ≡ min (length piece) 31 →
    two ≡ tail ++ take 31 piece
joined tail piece one two n head whole least = search (rules, least, min_comm, take_min)

-- all but the last 31 bytes
before_last : List ℕ → List ℕ
before_last now = take (length now - 31) now

parts_of : (now : List ℕ) → before_last now ++ last_bytes now ≡ now
unfolding before_last
parts_of now = take-append-drop (length now - 31) now

-- either all bytes are kept, or 31
kept_long : (now : List ℕ) → (last_bytes now ≡ now) ⊎ (length (last_bytes now) ≡ 31)
kept_long now = search (rules, length-drop, cases_lt)

-- what is kept of bytes with many more, and with few more
pub kept_of_long : (now piece : List ℕ) → 31 ≤ length piece → last_bytes (now ++ piece)
    ≡ last_bytes piece
kept_of_long now piece long = search (rules, length-append, drop-append-add)

least : (n : ℕ) → min (n - 31) n ≡ n - 31
least n = omega arith

counted : (n p t : ℕ) → t ≡ n - (n - 31) → (n + p) - 31 ≡ (n - 31) + ((t + p) - 31)
counted n p t is = omega arith

pub kept_of_short : (now piece : List ℕ) → length piece < 31 → last_bytes (now ++ piece)
    ≡ last_bytes (last_bytes now ++ take 31 piece)
unfolding before_last
kept_of_short now piece short =
    let whole : take 31 piece ≡ piece = take_all 31 piece (omega arith) in
    let front = before_last now in
    let same : now ++ piece ≡ front ++ (last_bytes now ++ piece) =
    ap (λ l. l ++ piece) (sym (parts_of now)) ∙ append_assoc front (last_bytes now) piece in
    let front_long : length front ≡ length now - 31 = length-take (length now - 31) now
    ∙ least (length now) in
    let count : length (now ++ piece) - 31 ≡ length front
    + (length (last_bytes now ++ piece) - 31) =
    ap (λ n. n - 31) (length-append now piece)
    ∙ counted (length now) (length piece) (length (last_bytes now))
    (length-drop (length now - 31) now) ∙ ap (λ n. (length now - 31) + (n - 31))
    (sym (length-append (last_bytes now) piece))
    ∙ ap (λ n. n + (length (last_bytes now ++ piece) - 31)) (sym front_long) in
    ap (λ n. drop n (now ++ piece)) count ∙ ap
    (drop (length front + (length (last_bytes now ++ piece) - 31))) same
    ∙ drop-append-add front (last_bytes now ++ piece) (length (last_bytes now ++ piece) - 31)
    ∙ ap (λ l. last_bytes (last_bytes now ++ l)) (sym whole)

-- A part that stands in some bytes with a piece stands in the bytes, in the seam or in the piece.
pub within_joined :
    (part now piece : List ℕ) →
    IsTrue (is_hash_part part) →
    Within part (now ++ piece) →
    Within part now ⊎ (Within part (last_bytes now ++ take 31 piece) ⊎ Within part piece)
within_joined part now piece is within =
    let long = hash_part_long part is in
    let tail = last_bytes now in
    ⊎_elim inl (λ h. inr (after h))
    (⊎_elim
    (λ (whole : tail ≡ now). inr (subst (λ l. Within part (l ++ piece)) (sym whole) within))
    (λ (full : length tail ≡ 31).
    ⊎_elim
    (λ h. inl (subst (Within part) (parts_of now) h))
    inr
    (cover part (before_last now) tail piece (omega arith)
    (subst (Within part) (ap (λ l. l ++ piece) (sym (parts_of now))
    ∙ append_assoc (before_last now) tail piece) within)))
    (kept_long now))
  where
    after : Within part (last_bytes now ++ piece) → Within part (last_bytes now ++ take 31 piece)
        ⊎ Within part piece
    after h =
        let long = hash_part_long part is in
        let head = take 31 piece in
        ⊎_elim
        (λ (few : length piece < 31).
        inl (subst (λ l. Within part (last_bytes now ++ l))
        (sym (take_all 31 piece (omega arith))) h))
        (λ (more : 31 ≤ length piece).
        ⊎_elim
        inl
        (λ w. inr (subst (Within part) (take-append-drop 31 piece) w))
        (cover part (last_bytes now) head (drop 31 piece) (omega (arith, length-take 31 piece))
        (subst (λ l. Within part (last_bytes now ++ l)) (sym (take-append-drop 31 piece)) h)))
        (cases_lt (length piece) 31)

pub joined_within :
    (part now piece : List ℕ) →
    Within part now ⊎ (Within part (last_bytes now ++ take 31 piece) ⊎ Within part piece) →
    Within part (now ++ piece)
joined_within part now piece h =
    ⊎_elim
    (within_left part now piece)
    (λ rest. ⊎_elim
    (λ seam.
    let whole : before_last now ++ ((last_bytes now ++ take 31 piece) ++ drop 31 piece) ≡ now
    ++ piece =
    ap (λ l. before_last now ++ l) (append_assoc (last_bytes now) (take 31 piece) (drop 31 piece)
    ∙ ap (λ l. last_bytes now ++ l) (take-append-drop 31 piece))
    ∙ sym (append_assoc (before_last now) (last_bytes now) piece)
    ∙ ap (λ l. l ++ piece) (parts_of now) in
    subst (Within part) whole
    (within_right part (before_last now) ((last_bytes now ++ take 31 piece) ++ drop 31 piece)
    (within_left part (last_bytes now ++ take 31 piece) (drop 31 piece) seam)))
    (within_right part now piece)
    rest)
    h
