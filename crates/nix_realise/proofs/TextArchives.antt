-- The archive of a text: what is written at its events, and how long it is.
use Rattle.std.proofs.Common.{◌≡◌, ◌∙◌, ◌≤◌, ◌<◌, ◌+◌, ◌-◌, ◌%◌, ◌^◌, ℕ, List, [], ◌∷◌, ◌++◌, ap, arith, codes, false, length, length-append, map, subst, sym}
use Rattle.std.proofs.Math.ListN.{replicate}
use Rattle.std.proofs.lemmas.List.{length-replicate}
use Rattle.std.proofs.lemmas.Grind.{flat_map-append}
use Rattle.nix_archive.proofs.Texts.{text_of_tree}
use Rattle.nix_archive.specs.Archive.{magic, padding, size_text, str}
use Rattle.nix_archive.specs.Sums.{IsSum, IsSummed}
use Rattle.nix_archive.specs.Texts.{text_of, token_text}
use Rattle.nix_archive.specs.Tokens.{FileBegun, FileByte, FileEnded, Token}
use Rattle.nix_archive.specs.Trees.{File}
use Rattle.nix_realise.specs.AddedText.{max_text_len}
use Rattle.nix_realise.specs.Registering.{text_archive}

-- what is written at the three events of a text
at_events : (text : List ℕ)
    → text_of (FileBegun false (length text) ∷ [])
    ++ (text_of (map FileByte text) ++ text_of (FileEnded (length text) ∷ []))
    ≡ text_of (FileBegun false (length text)
    ∷ (map FileByte text ++ FileEnded (length text) ∷ []))
at_events text =
    let begun : List Token = FileBegun false (length text) ∷ [] in
    let ended : List Token = FileEnded (length text) ∷ [] in
    ap (λ l. text_of begun ++ l) (sym (flat_map-append token_text (map FileByte text) ended))
    ∙ sym (flat_map-append token_text begun (map FileByte text ++ ended))

-- a sink that takes what is written at them takes the archive
pub written : {S : Type 0} (took : S → List ℕ → S → Type 0)
    (joins : (s m t : S) (before after : List ℕ) → took s before m → took m after t
    → took s (before ++ after) t)
    (s0 s1 s2 s3 s4 : S) (text : List ℕ)
    → took s0 magic s1 → took s1 (text_of (FileBegun false (length text) ∷ [])) s2
    → took s2 (text_of (map FileByte text)) s3
    → took s3 (text_of (FileEnded (length text) ∷ [])) s4
    → took s0 (text_archive text) s4
unfolding text_archive
written took joins s0 s1 s2 s3 s4 text a b c d =
    subst (λ l. took s0 l s4)
    (ap (λ l. magic ++ l) (at_events text ∙ text_of_tree (File false text)))
    (joins s0 s1 s4 _ _ a (joins s1 s2 s4 _ _ b (joins s2 s3 s4 _ _ c d)))

-- a string of an archive has at most 15 bytes beside those that it holds
str_short : (bytes : List ℕ) → length (str bytes) ≤ length bytes + 15
unfolding str size_text padding
str_short bytes =
    let pad : ℕ = (8 - length bytes % 8) % 8 in
    let whole = length-append (size_text (length bytes)) (bytes ++ padding (length bytes)) in
    let rest = length-append bytes (padding (length bytes)) in
    let zeros : length {A = ℕ} (replicate pad 0) ≡ pad = length-replicate pad 0 in
    omega (arith, whole, rest, zeros)

both_short : (a b : List ℕ) (m n most : ℕ) → length a ≤ m → length b ≤ n → m + n ≤ most
    → length (a ++ b) ≤ most
both_short a b m n most x y fits = let both = length-append a b in omega (arith, both, x, y, fits)

-- the archive of a text has at most 139 bytes beside the text
archive_short : (text : List ℕ) → length (text_archive text) ≤ length text + 139
unfolding text_archive
archive_short text =
    let s : (l : List ℕ) → length (str l) ≤ length l + 15 = str_short in
    let end = both_short (str (codes ")")) [] 16 0 16 (s _) (omega arith) (omega arith) in
    let bytes =
    both_short (str text) _ (length text + 15) 16 (length text + 31) (s text) end (omega arith) in
    let contents =
    both_short (str (codes "contents")) _ 23 (length text + 31) (length text + 54) (s _) bytes
    (omega arith) in
    let regular = both_short (str (codes "regular")) [] 22 0 22 (s _) (omega arith) (omega arith) in
    let type = both_short (str (codes "type")) _ 19 22 41 (s _) regular (omega arith) in
    let head = both_short (str (codes "(")) _ 16 41 57 (s _) type (omega arith) in
    let node = both_short _ _ 57 (length text + 54) (length text + 111) head contents (omega arith) in
    both_short magic _ 28 (length text + 111) (length text + 139) (s _) node (omega arith)

-- What is known of a sink of the archive of a text that is not too long.
pub record IsTextSum {D : Type 0} (holds : D → List ℕ → Type 0) (text : List ℕ) (count : ℕ)
    (hasher : D) : Type 0 where
  pub counted : count ≡ length (text_archive text)
  pub short : count < 2 ^ 63
  pub held : holds hasher (text_archive text)

pub text_sum : {D : Type 0} (holds : D → List ℕ → Type 0) (text : List ℕ) (first last : ℕ)
    (hasher hashes : D)
    → length text ≤ max_text_len → IsSum holds [] first hasher
    → IsSummed holds (text_archive text) first hasher last hashes
    → IsTextSum holds text last hashes
text_sum holds text first last hasher hashes fits begun summed =
    let none : first ≡ 0 = begun.counted in
    let short = archive_short text in
    let count = summed.counted (omega (arith, none)) in record {
      counted = omega (arith, none, short, fits, count);
      short = omega (arith, none, short, fits, count);
      held = summed.held [] begun.held;
    }
