-- What symbolic links add to a tree, of each tree and of the entries of each folder.
use Rattle.std.proofs.Common.{◌≡◌, ◌∙◌, ℕ, ◌+◌, List, [], ◌∷◌, ◌++◌, ◌⊎◌, inl, inr, ⊎_elim, length, refl, ap, arith}
use Rattle.std.specs.Prelude.{◌↔◌, Any, sum_by}
use Rattle.std.proofs.lemmas.List.Sums.{sum_by-append}
use Rattle.ref_scan.specs.Links.{LinksAdd, plain_bytes, plain_bytes_among, plain_pieces, plain_pieces_among, targets, targets_among}
use Rattle.ref_scan.specs.Scan.{Within}
use Rattle.ref_scan.specs.Trees.{file_bytes, file_bytes_among, pieces, pieces_among}
use Rattle.ref_scan.specs.declared.tree.Tree.{Tree, File, Pieces, Executable, Link, Dir', Row_of-Member, end_of-Member, more_of-Member}
use Rattle.ref_scan.proofs.Pieces.{Any-either, Any-left, Any-none, Any-right}

-- some of a list is some of either of two others
abbrev pub IsParted : {X : Type 0} (P : X → Type 0) (all some others : List X) → Type 0
IsParted P all some others = Any P all ↔ (Any P some ⊎ Any P others)

-- a list that is one of the two, where the other is empty
parted_left : {X : Type 0} (P : X → Type 0) (xs : List X) → IsParted P xs xs []
parted_left P xs = (inl, ⊎_elim (λ a. a) (λ none. absurd (Any-none P none)))

parted_right : {X : Type 0} (P : X → Type 0) (xs : List X) → IsParted P xs [] xs
parted_right P xs = (inr, ⊎_elim (λ none. absurd (Any-none P none)) (λ a. a))

-- two lists after each other, each of which is parted
parted_both : {X : Type 0} (P : X → Type 0) (xs xs' xs'' ys ys' ys'' : List X)
    → IsParted P xs xs' xs'' → IsParted P ys ys' ys''
    → IsParted P (xs ++ ys) (xs' ++ ys') (xs'' ++ ys'')
parted_both P xs xs' xs'' ys ys' ys'' of_xs of_ys = (
  λ any. ⊎_elim
      (λ x. ⊎_elim (λ h. inl (Any-left P xs' ys' h)) (λ h. inr (Any-left P xs'' ys'' h)) (of_xs.0 x))
      (λ y. ⊎_elim (λ h. inl (Any-right P xs' ys' h)) (λ h. inr (Any-right P xs'' ys'' h))
      (of_ys.0 y))
      (Any-either P xs ys any),
  ⊎_elim
      (λ some. ⊎_elim
      (λ h. Any-left P xs ys (of_xs.1 (inl h))) (λ h. Any-right P xs ys (of_ys.1 (inl h)))
      (Any-either P xs' ys' some))
      (λ others. ⊎_elim
      (λ h. Any-left P xs ys (of_xs.1 (inr h))) (λ h. Any-right P xs ys (of_ys.1 (inr h)))
      (Any-either P xs'' ys'' others)),
)

mutual
  occurs_in : (part : List ℕ) (tree : Tree)
      → IsParted (Within part) (pieces tree) (plain_pieces tree) (targets tree)
  occurs_in part (File bytes) = parted_left (Within part) (bytes.items ∷ [])
  occurs_in part (Pieces parts) = parted_left (Within part) (pieces (Pieces parts))
  occurs_in part (Executable parts) = parted_left (Within part) (pieces (Executable parts))
  occurs_in part (Link target) = parted_right (Within part) (target.items ∷ [])
  occurs_in part (Dir' shape entries) = occurs_among part entries

  occurs_among : {m : _} (part : List ℕ) (row : Row_of-Member m)
      → IsParted (Within part) (pieces_among row) (plain_pieces_among row) (targets_among row)
  occurs_among part end_of-Member = parted_left (Within part) []
  occurs_among part (more_of-Member name tree rest) =
      parted_both (Within part) (name.items ∷ []) (name.items ∷ []) []
      (pieces tree ++ pieces_among rest) (plain_pieces tree ++ plain_pieces_among rest)
      (targets tree ++ targets_among rest)
      (parted_left (Within part) (name.items ∷ []))
      (parted_both (Within part) (pieces tree) (plain_pieces tree) (targets tree)
      (pieces_among rest) (plain_pieces_among rest) (targets_among rest)
      (occurs_in part tree) (occurs_among part rest))

mutual
  bytes_in : (tree : Tree) → file_bytes tree
      ≡ plain_bytes tree + sum_by length (targets tree)
  bytes_in (File bytes) = omega arith
  bytes_in (Pieces parts) = omega arith
  bytes_in (Executable parts) = omega arith
  bytes_in (Link target) = omega arith
  bytes_in (Dir' shape entries) = bytes_among entries

  bytes_among : {m : _} (row : Row_of-Member m) → file_bytes_among row
      ≡ plain_bytes_among row + sum_by length (targets_among row)
  bytes_among end_of-Member = refl
  bytes_among (more_of-Member name tree rest) = omega (
    arith,
    bytes_in tree,
    bytes_among rest,
    sum_by-append length (targets tree) (targets_among rest),
  )

none_left : {X : Type 0} (xs ys : List X) → xs ++ ys ≡ [] → xs ≡ []
none_left [] ys none = refl
none_left (x ∷ xs) ys none = absurd cc

none_right : {X : Type 0} (xs ys : List X) → xs ++ ys ≡ [] → ys ≡ []
none_right [] ys none = none
none_right (x ∷ xs) ys none = absurd cc

mutual
  plain_in : (tree : Tree) → targets tree ≡ [] → pieces tree ≡ plain_pieces tree
  plain_in (File bytes) none = refl
  plain_in (Pieces parts) none = refl
  plain_in (Executable parts) none = refl
  plain_in (Link target) none = absurd cc
  plain_in (Dir' shape entries) none = plain_among entries none

  plain_among : {m : _} (row : Row_of-Member m) → targets_among row ≡ []
      → pieces_among row ≡ plain_pieces_among row
  plain_among end_of-Member none = refl
  plain_among (more_of-Member name tree rest) none =
      ap (λ l. name.items ∷ (l ++ pieces_among rest))
      (plain_in tree (none_left (targets tree) (targets_among rest) none))
      ∙ ap (λ l. name.items ∷ (plain_pieces tree ++ l))
      (plain_among rest (none_right (targets tree) (targets_among rest) none))

pub links_add : (tree : Tree) → LinksAdd tree
links_add tree = record {
  occurs = λ part. occurs_in part tree;
  bytes = bytes_in tree;
  plain = plain_in tree;
}
