-- Names that are sorted, each once, and told from the first one on.
use Rattle.std.proofs.Common.{◌≡◌, ◌∙◌, ◌↔◌, ℕ, Bool, List, Option, [], ◌∷◌, ◌++◌, map, take, refl, ap, ap₂, append_assoc, append-nil, sym, subst, All}
use Rattle.std.specs.Prelude.{Contains, nat_eq, reverse}
use Rattle.std.specs.Cmp.Lexicographic.{pointwise, slice_cmp}
use Rattle.std.specs.List.{concat, dedup}
use Rattle.std.specs.Io.KnownBytes.{Consumes}
use Rattle.std.specs.List.Sorted.{IsPermutation, IsSorted}
use Rattle.std.specs.Ordering.{nat_cmp}
use Rattle.std.proofs.KnownBytes.{Consumes-nil, Consumes-trans}
use Rattle.std.proofs.lemmas.List.{flat_map_more, map-append, reverse-reverse}
use Rattle.std.proofs.lemmas.List.Concat.{concat_is}
use Rattle.std.proofs.lemmas.List.Elements.{All-head, All-map, All-push, All-tail}
use Rattle.std.proofs.lemmas.List.Filters.{All-dedup}
use Rattle.std.proofs.lemmas.List.Sorted.{All-permutation, Contains-permutation, IsPermutation-map, IsPermutation-reverse, IsPermutation-sym}
use Rattle.std.specs.declared.alloc.Global.{Global}
use Rattle.std.specs.declared.vec.Vec.{Vec}
use Rattle.nix_drv.specs.Parts.{bytes_of}
use Rattle.nix_names.specs.Rising.{IsRising}
use Rattle.drv_graph.proofs.Gathering.{names_sorted}
use Rattle.nix_archive.specs.Trees.{Bytes, IsAfter, IsName}
use Rattle.process_build.specs.Contents.{AreMembersRead, members_in}
use Rattle.process_build.specs.private.Walking.{AreAhead, AreNames, HaveSameNames, first_first}

abbrev bytes_in : Vec ℕ Global → Bytes
bytes_in name = name.items

abbrev same_bytes : Vec ℕ Global → Vec ℕ Global → Bool
same_bytes x y = pointwise nat_eq x.items y.items

after_none : (name : Bytes) → IsName name → IsAfter [] name
after_none [] is = absurd (is.not_empty refl)
after_none (byte ∷ bytes) is = refl

later_ahead : (name : Bytes) (names : List Bytes) → IsRising (name ∷ names) → All IsName names
    → AreAhead name names
later_ahead name [] rises are = tt
later_ahead name (x ∷ xs) rises are = (
  All-head IsName x xs are,
  rises.0,
  later_ahead x xs rises.1 (All-tail IsName x xs are),
)

-- names that rise come one after another
ahead : (names : List Bytes) → IsRising names → All IsName names → AreAhead [] names
ahead [] rises are = tt
ahead (x ∷ xs) rises are =
    let is = All-head IsName x xs are in
    (is, after_none x is, later_ahead x xs rises (All-tail IsName x xs are))

-- a sort, each name once, and the last first
pub sorted_ahead : (names sorted kept last_first : List (Vec ℕ Global)) → AreNames names
    → IsPermutation names sorted
    → IsSorted (λ (x y : Vec ℕ Global). slice_cmp nat_cmp x.items y.items) sorted
    → kept ≡ dedup same_bytes sorted → last_first ≡ reverse kept
    → AreAhead [] (first_first last_first)
sorted_ahead names sorted kept last_first are moved ordered is turned =
    let same : first_first last_first ≡ map bytes_in kept =
    ap first_first turned ∙ ap (map bytes_in) (reverse-reverse kept) in
    let each : AreNames kept = subst AreNames (sym is)
    (All-dedup same_bytes (λ (n : Vec ℕ Global). IsName n.items) sorted
    (All-permutation (λ (n : Vec ℕ Global). IsName n.items) names sorted moved are)) in
    subst (AreAhead []) (sym same)
    (ahead (map bytes_in kept) (names_sorted names sorted kept moved ordered is).0
    (All-map IsName bytes_in kept each))

-- sorting keeps the names
pub sorted_same : (names sorted kept last_first : List (Vec ℕ Global))
    → IsPermutation names sorted
    → IsSorted (λ (x y : Vec ℕ Global). slice_cmp nat_cmp x.items y.items) sorted
    → kept ≡ dedup same_bytes sorted → last_first ≡ reverse kept
    → HaveSameNames last_first names
sorted_same names sorted kept last_first moved ordered is turned name =
    let turns : IsPermutation (map bytes_in kept) (map bytes_in (reverse kept)) =
    IsPermutation-map bytes_in kept (reverse kept) (IsPermutation-reverse kept) in
    let both = (names_sorted names sorted kept moved ordered is).1 name in
    subst (λ (l : List (Vec ℕ Global)). Contains (map bytes_in l) name
    ↔ Contains (map bytes_in names) name) (sym turned) (
      λ c. both.0 (Contains-permutation (map bytes_in (reverse kept)) (map bytes_in kept) name
          (IsPermutation-sym _ _ turns) c),
      λ c. Contains-permutation (map bytes_in kept) (map bytes_in (reverse kept)) name turns
          (both.1 c),
    )

-- ---- the names in a listing

-- one name more, which is one
pub named_more : (names more : List (Vec ℕ Global)) (name : Vec ℕ Global)
    → more ≡ names ++ name ∷ [] → IsName name.items → AreNames names → AreNames more
named_more names more name grown is are =
    subst AreNames (sym grown) (All-push (λ (n : Vec ℕ Global). IsName n.items) names name are is)

-- one name more, which is the next one of some items
pub names_more : {A : Type 0} (g : A → Bytes) (before : List Bytes)
    (names more : List (Vec ℕ Global)) (items : List A) (name : Vec ℕ Global) (item : A)
    → more ≡ names ++ name ∷ [] → name.items ≡ g item
    → map bytes_of names ≡ before ++ map g items
    → map bytes_of more ≡ before ++ map g (items ++ item ∷ [])
names_more g before names more items name item grown same so_far =
    ap (map bytes_of) grown ∙ map-append bytes_of names (name ∷ [])
    ∙ ap₂ (λ a b. a ++ b ∷ []) so_far same ∙ append_assoc before (map g items) (g item ∷ [])
    ∙ ap (λ l. before ++ l) (sym (map-append g items (item ∷ [])))

-- nothing is read yet
pub no_members : (left : Option Bytes) (names : List Bytes) → names ≡ []
    → AreMembersRead left left names
no_members left names none = record { pieces = []; is_read = Consumes-nil left; are_all = none }

-- one piece more was read
pub more_members : (old mid new : Option Bytes) (names more : List Bytes) (piece : Bytes)
    → AreMembersRead old mid names → Consumes mid new piece → more ≡ names ++ members_in piece
    → AreMembersRead old new more
more_members old mid new names more piece read taken grown = record {
  pieces = read.pieces ++ piece ∷ [];
  is_read = subst (Consumes old new)
      (ap (λ l. l ++ piece) (concat_is read.pieces)
      ∙ flat_map_more (λ (x : Bytes). x) [] read.pieces piece
      ∙ sym (concat_is (read.pieces ++ piece ∷ [])))
      (Consumes-trans old mid new (concat read.pieces) piece read.is_read taken);
  are_all = grown ∙ ap (λ l. l ++ members_in piece) read.are_all
      ∙ flat_map_more members_in [] read.pieces piece;
}

-- a last reading gave nothing
pub last_members : (old mid new : Option Bytes) (names : List Bytes) (count : ℕ) (buffer : Bytes)
    → AreMembersRead old mid names → count ≡ 0 → Consumes mid new (take count buffer)
    → AreMembersRead old new names
last_members old mid new names count buffer read zero taken = record {
  pieces = read.pieces;
  is_read = subst (Consumes old new)
      (ap (λ n. concat read.pieces ++ take n buffer) zero ∙ append-nil (concat read.pieces))
      (Consumes-trans old mid new (concat read.pieces) (take count buffer) read.is_read taken);
  are_all = read.are_all;
}
