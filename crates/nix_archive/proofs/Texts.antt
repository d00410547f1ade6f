-- The text of a tree's tokens is the tree's.
use Rattle.std.proofs.Common.{◌≡◌, ◌∙◌, ℕ, ◌-◌, ◌%◌, List, [], ◌∷◌, ◌++◌, length, map, take, refl, ap, subst, append_assoc, append-nil, arith}
use Rattle.std.proofs.lemmas.Grind.{flat_map-append}
use Rattle.std.proofs.lemmas.List.{take-replicate}
use Rattle.std.specs.Prelude.{codes}
use Rattle.nix_archive.specs.Tokens.{FolderBegun, EntryBegun, EntryEnded, FolderEnded, FileByte, FileEnded, tokens_of, tokens_among}
use Rattle.nix_archive.specs.Archive.{node, nodes, str, strs, mark, padding, size_text}
use Rattle.nix_archive.specs.Texts.{token_text, text_of}
use Rattle.nix_archive.specs.Trees.{Tree, Entries, Entry, File, Link, Folder, NoEntries}

pub text_of_bytes : (bytes : List ℕ) → text_of (map FileByte bytes) ≡ bytes
text_of_bytes [] = refl
text_of_bytes (b ∷ bs) = ap (λ l. b ∷ l) (text_of_bytes bs)

-- the closing parenthesis
abbrev close : List ℕ
close = str (codes ")")

text_of_body : (bytes : List ℕ) (n : ℕ) → text_of (map FileByte bytes ++ FileEnded n ∷ [])
    ≡ bytes ++ (padding n ++ (close ++ []))
text_of_body bytes n =
    flat_map-append token_text (map FileByte bytes) (FileEnded n ∷ [])
    ∙ ap (λ l. l ++ ((padding n ++ close) ++ [])) (text_of_bytes bytes)
    ∙ ap (λ l. bytes ++ l) (append_assoc (padding n) close [])

regrouped : (a m c s b p q : List ℕ) → (a ++ (m ++ (c ++ s))) ++ (b ++ (p ++ q))
    ≡ a ++ (m ++ (c ++ ((s ++ (b ++ p)) ++ q)))
regrouped a m c s b p q = simp append_assoc

mutual
  unfolding str

  pub text_of_tree : (tree : Tree) → text_of (tokens_of tree) ≡ node tree
  text_of_tree (File executable bytes) =
      ap (λ l. (strs (codes "(" ∷ codes "type" ∷ codes "regular" ∷ []) ++ (mark executable
      ++ (str (codes "contents") ++ size_text (length bytes)))) ++ l)
      (text_of_body bytes (length bytes))
      ∙ regrouped (strs (codes "(" ∷ codes "type" ∷ codes "regular" ∷ [])) (mark executable)
      (str (codes "contents")) (size_text (length bytes)) bytes
      (padding (length bytes)) (close ++ [])
  text_of_tree (Link target) = append-nil _
  text_of_tree (Folder entries) =
      ap (λ l. token_text FolderBegun ++ l)
      (flat_map-append token_text (tokens_among entries) (FolderEnded ∷ [])
      ∙ ap (λ l. l ++ (close ++ [])) (text_of_entries entries)
      ∙ ap (λ l. nodes entries ++ l) (append-nil close))

  text_of_entries : (row : Entries) → text_of (tokens_among row) ≡ nodes row
  text_of_entries NoEntries = refl
  text_of_entries (Entry name tree rest) =
      ap (λ l. token_text (EntryBegun name) ++ l)
      (flat_map-append token_text (tokens_of tree) (EntryEnded ∷ tokens_among rest)
      ∙ ap (λ l. l ++ (close ++ text_of (tokens_among rest))) (text_of_tree tree)
      ∙ ap (λ l. node tree ++ (close ++ l)) (text_of_entries rest))

pub padding_is : (n : ℕ) → take {A = ℕ} ((8 - n % 8) % 8) (0 ∷ 0 ∷ 0 ∷ 0 ∷ 0 ∷ 0 ∷ 0 ∷ 0 ∷ [])
    ≡ padding n
unfolding padding
padding_is n = take-replicate ((8 - n % 8) % 8) 8 0 (omega arith)

module _ {S : Type 0} (took : S → List ℕ → S → Type 0) where
  -- bytes join
  abbrev pub Joins : Type 0
  Joins = (s m t : S) (before after : List ℕ) → took s before m → took m after t
      → took s (before ++ after) t

  -- a byte string in its three parts
  pub str_took : Joins → {s m n t : S} (bytes : List ℕ) → took s (size_text (length bytes)) m
      → took m bytes n → took n (padding (length bytes)) t → took s (str bytes) t
  unfolding str
  str_took joins bytes a b c = joins _ _ _ _ _ a (joins _ _ _ _ _ b c)

  pub took_as : {s t : S} {bytes other : List ℕ} → bytes ≡ other → took s bytes t → took s other t
  took_as {s} {t} e h = subst (λ l. took s l t) e h
