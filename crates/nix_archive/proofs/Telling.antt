-- An archive tells its tree: its bytes tell its strings, and these tell the tree.
use Rattle.std.proofs.Common.{◌≡◌, ◌∙◌, ℕ, ◌<◌, ◌^◌, ◌⊎◌, Bool, true, false, List, [], ◌∷◌, ◌++◌, length, refl, ap, sym, inl, inr, append_assoc, append-nil, arith}
use Rattle.std.specs.Prelude.{codes}
use Rattle.std.specs.Int.{w64, from_le_bytes}
use Rattle.std.proofs.lemmas.Nat.{from_le_bytes-to_le_bytes_8}
use Rattle.nix_archive.specs.Trees.{Tree, Entries, Entry, File, Link, Folder, NoEntries, IsArchivable}
use Rattle.nix_archive.specs.Archive.{nar, padding, size_text, str, strs}
use Rattle.nix_archive.specs.Laws.{ArchivesTellTrees, NoArchiveBeginsAnother}
use Rattle.nix_archive.proofs.Words.{AreSized, close, nar_words, sized_words, words, words_among}

-- lists that begin with as many elements
pub cut : (a b r q : List ℕ) → length a ≡ length b → a ++ r ≡ b ++ q → (a ≡ b) × (r ≡ q)
cut [] [] r q n e = (refl, e)
cut [] (y ∷ ys) r q n e = absurd (omega arith)
cut (x ∷ xs) [] r q n e = absurd (omega arith)
cut (x ∷ xs) (y ∷ ys) r q n e =
    let tails : xs ++ r ≡ ys ++ q = cc in
    let heads : x ≡ y = cc in
    let more : (xs ≡ ys) × (r ≡ q) = cut xs ys r q (omega arith) tails in
    (let e₁ = more.0 in (cc), more.1)

pub size_long : (n : ℕ) → length (size_text n) ≡ 8
unfolding size_text
size_long n = refl

size_tells : (m n : ℕ) → m < 2 ^ 64 → n < 2 ^ 64 → size_text m ≡ size_text n → m ≡ n
unfolding size_text
size_tells m n a b e =
    sym (from_le_bytes-to_le_bytes_8 m a) ∙ ap (from_le_bytes w64) e ∙ from_le_bytes-to_le_bytes_8 n
    b

-- one string, whatever follows it
str_tells : (a b r q : List ℕ) → length a < 2 ^ 64 → length b < 2 ^ 64 → str a ++ r ≡ str b ++ q
    → (a ≡ b) × (r ≡ q)
unfolding str
str_tells a b r q la lb e =
    let grouped : (x s : List ℕ) → (size_text (length x) ++ (x ++ padding (length x))) ++ s
    ≡ size_text (length x) ++ (x ++ (padding (length x) ++ s)) = λ x s.
    append_assoc (size_text (length x)) (x ++ padding (length x)) s
    ∙ ap (λ l. size_text (length x) ++ l) (append_assoc x (padding (length x)) s) in
    let first : (size_text (length a) ≡ size_text (length b))
    × (a ++ (padding (length a) ++ r) ≡ b ++ (padding (length b) ++ q)) =
    cut (size_text (length a)) (size_text (length b)) _ _
    (size_long (length a) ∙ sym (size_long (length b))) (sym (grouped a r) ∙ e ∙ grouped b q) in
    let long : length a ≡ length b = size_tells (length a) (length b) la lb first.0 in
    let second : (a ≡ b) × (padding (length a) ++ r ≡ padding (length b) ++ q) =
    cut a b _ _ long first.1 in (
      second.0,
      (cut (padding (length a)) (padding (length b)) r q
          (ap (λ n. length (padding n)) long) second.1).1,
    )

-- One row of strings with what follows it is another one with what follows that. Then one of the
-- rows begins the other.
abbrev IsRowWithin : (xs ys : List (List ℕ)) (r q : List ℕ) → Type 0
IsRowWithin xs ys r q = (more : List (List ℕ)) × (ys ≡ xs ++ more) × (r ≡ strs more ++ q)

within_more : (x : List ℕ) (xs : List (List ℕ)) (y : List ℕ) (ys : List (List ℕ)) (r q : List ℕ)
    → x ≡ y → IsRowWithin xs ys r q → IsRowWithin (x ∷ xs) (y ∷ ys) r q
within_more x xs y ys r q e w =
    let f : ys ≡ xs ++ w.0 = w.1 in
    (w.0, (cc), w.2)

strs_part : (xs ys : List (List ℕ)) (r q : List ℕ) → AreSized xs → AreSized ys
    → strs xs ++ r ≡ strs ys ++ q → IsRowWithin xs ys r q ⊎ IsRowWithin ys xs q r
strs_part [] ys r q a b e = inl (ys, refl, e)
strs_part (x ∷ xs) [] r q a b e = inr (x ∷ xs, refl, sym e)
strs_part (x ∷ xs) (y ∷ ys) r q a b e =
    let split : (x ≡ y) × (strs xs ++ r ≡ strs ys ++ q) =
    str_tells x y (strs xs ++ r) (strs ys ++ q) a.0 b.0
    (sym (append_assoc (str x) (strs xs) r) ∙ e ∙ append_assoc (str y) (strs ys) q) in
    elim (strs_part xs ys r q a.1 b.1 split.1) [
      | inl w ↦ inl (within_more x xs y ys r q split.0 w)
      | inr w ↦ inr (within_more y ys x xs q r (sym split.0) w)
    ]

-- the first letter of the first string, the third and the fourth
abbrev letter : List (List ℕ) → ℕ
letter ((x ∷ w) ∷ l) = x
letter _ = 0

abbrev third : List (List ℕ) → ℕ
third (a ∷ b ∷ l) = letter l
third _ = 0

abbrev fourth : List (List ℕ) → ℕ
fourth (a ∷ b ∷ c ∷ l) = letter l
fourth _ = 0

words_file : (x y : Bool) (b c : List ℕ) (r q : List (List ℕ))
    → words (File x b) ++ r ≡ words (File y c) ++ q
    → (File x b ≡ File y c) × (r ≡ q)
words_file true true b c r q e = let f : b ≡ c = cc in let g : r ≡ q = cc in (ap (File true) f, g)
words_file true false b c r q e = absurd (omega (arith, ap fourth e))
words_file false true b c r q e = absurd (omega (arith, ap fourth e))
words_file false false b c r q e = let f : b ≡ c = cc in let g : r ≡ q = cc in
    (ap (File false) f, g)

mutual
  words_tell : (s t : Tree) (r q : List (List ℕ)) → words s ++ r ≡ words t ++ q → (s ≡ t) × (r ≡ q)
  words_tell (File x b) (File y c) r q e = words_file x y b c r q e
  words_tell (File x b) (Link u) r q e = absurd (omega (arith, ap third e))
  words_tell (File x b) (Folder ns) r q e = absurd (omega (arith, ap third e))
  words_tell (Link u) (File y c) r q e = absurd (omega (arith, ap third e))
  words_tell (Link u) (Link v) r q e =
      let f : u ≡ v = cc in let g : r ≡ q = cc in (ap Link f, g)
  words_tell (Link u) (Folder ns) r q e = absurd (omega (arith, ap third e))
  words_tell (Folder ms) (File y c) r q e = absurd (omega (arith, ap third e))
  words_tell (Folder ms) (Link v) r q e = absurd (omega (arith, ap third e))
  words_tell (Folder ms) (Folder ns) r q e =
      let tails : (words_among ms ++ close ∷ []) ++ r ≡ (words_among ns ++ close ∷ []) ++ q = cc in
      let more : (ms ≡ ns) × (r ≡ q) = entries_tell ms ns r q
      (sym (append_assoc (words_among ms) (close ∷ []) r) ∙ tails
      ∙ append_assoc (words_among ns) (close ∷ []) q) in
      (ap Folder more.0, more.1)

  entries_tell : (ms ns : Entries) (r q : List (List ℕ))
      → words_among ms ++ close ∷ r ≡ words_among ns ++ close ∷ q → (ms ≡ ns) × (r ≡ q)
  entries_tell NoEntries NoEntries r q e = let g : r ≡ q = cc in (refl, g)
  entries_tell NoEntries (Entry m t ns) r q e = absurd (omega (arith, ap letter e))
  entries_tell (Entry n s ms) NoEntries r q e = absurd (omega (arith, ap letter e))
  entries_tell (Entry n s ms) (Entry m t ns) r q e =
      let names : n ≡ m = cc in
      let tails : (words s ++ close ∷ words_among ms) ++ close ∷ r
      ≡ (words t ++ close ∷ words_among ns) ++ close ∷ q = cc in
      let first : (s ≡ t)
      × (close ∷ (words_among ms ++ close ∷ r) ≡ close ∷ (words_among ns ++ close ∷ q)) =
      words_tell s t (close ∷ (words_among ms ++ close ∷ r)) (close ∷ (words_among ns ++ close ∷ q))
      (sym (append_assoc (words s) (close ∷ words_among ms) (close ∷ r)) ∙ tails
      ∙ append_assoc (words t) (close ∷ words_among ns) (close ∷ q)) in
      let after : close ∷ (words_among ms ++ close ∷ r) ≡ close ∷ (words_among ns ++ close ∷ q) =
      first.1 in
      let rests : words_among ms ++ close ∷ r ≡ words_among ns ++ close ∷ q = cc in
      let more : (ms ≡ ns) × (r ≡ q) = entries_tell ms ns r q rests in
      let trees : s ≡ t = first.0 in
      let entries : ms ≡ ns = more.0 in (
        ap (λ l. Entry l s ms) names ∙ ap (λ l. Entry m l ms) trees ∙ ap (λ l. Entry m t l) entries,
        more.1,
      )

-- trees whose archives begin alike are one tree, and the same follows both
archives_tell : (s t : Tree) (r q : List ℕ) → IsArchivable s → IsArchivable t
    → nar s ++ r ≡ nar t ++ q → (s ≡ t) × (r ≡ q)
archives_tell s t r q a b e =
    let short : length (codes "nix-archive-1") < 2 ^ 64 = omega arith in
    elim (strs_part (codes "nix-archive-1" ∷ words s) (codes "nix-archive-1" ∷ words t) r q
    (short, sized_words s a) (short, sized_words t b)
    (sym (ap (λ l. l ++ r) (nar_words s)) ∙ e ∙ ap (λ l. l ++ q) (nar_words t))) [
      | inl w ↦
          let same : words t ≡ words s ++ w.0 = let f = w.1 in cc in
          let told : (t ≡ s) × ([] ≡ w.0) = words_tell t s [] w.0 (append-nil (words t) ∙ same) in
          (sym told.0, w.2 ∙ ap (λ l. strs l ++ q) (sym told.1))
      | inr w ↦
          let same : words s ≡ words t ++ w.0 = let f = w.1 in cc in
          let told : (s ≡ t) × ([] ≡ w.0) = words_tell s t [] w.0 (append-nil (words s) ∙ same) in
          (told.0, sym (w.2 ∙ ap (λ l. strs l ++ r) (sym told.1)))
    ]

pub one_tree : ArchivesTellTrees
one_tree s t a b e = (archives_tell s t [] [] a b (ap (λ l. l ++ []) e)).0

pub none_within : NoArchiveBeginsAnother
none_within s t rest a b e = sym (archives_tell t s [] rest b a (append-nil (nar t) ∙ e)).1
