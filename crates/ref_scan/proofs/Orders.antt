-- A folder's members in the order of their names.
use Rattle.std.proofs.Common.{◌≡◌, ◌∙◌, ◌<◌, ◌+◌, ℕ, suc, false, inl, inr, refl, ap, sym, subst, arith, List, [], ◌∷◌, length, get_or, map, reverse, ◌++◌}
use Rattle.std.specs.Prelude.{sum_by, Bool}
use Rattle.std.specs.Borrow.{Bor}
use Rattle.std.specs.declared.alloc.Global.{Global}
use Rattle.std.specs.declared.vec.Vec.{Vec}
use Rattle.std.specs.Cmp.Lexicographic.{slice_cmp}
use Rattle.std.specs.List.Sorted.{IsPermutation, IsSortedBy}
use Rattle.std.specs.Ordering.{is_lt, nat_cmp}
use Rattle.std.proofs.lemmas.Bool.{false≢true}
use Rattle.std.proofs.lemmas.Cmp.{nat_list_cmp_total}
use Rattle.std.proofs.lemmas.List.{get_or-map, length-map, map-append, reverse-append, reverse-reverse}
use Rattle.std.proofs.lemmas.List.Sorted.{IsPermutation-sym, ranks_by, sorted_far, sum_by-IsPermutation}
use Rattle.std.proofs.lemmas.List.Sums.{sum_by-cons}
use Rattle.nix_archive.specs.Trees.{Bytes, Tree as Archived, Entries, NoEntries, Entry, AreEntries, IsAfter, IsName}
use Rattle.ref_scan.specs.Archives.{IsArchiveOf}
use Rattle.ref_scan.specs.Trees.{entry_count}
use Rattle.ref_scan.specs.private.Telling.{AreBelow, AreInOrder, AreNames, HasNoEntries, IsOrderOf, folders_of, order_of}
use Rattle.ref_scan.specs.private.Walk.{count_below}
use Rattle.ref_scan.specs.declared.tree.Member.{Member}
use Rattle.ref_scan.proofs.Belows.{below_moved}
use Rattle.ref_scan.proofs.Besides.{beside_after}

-- whether a member's name comes before another's
abbrev pub by_name : Member → Member → Bool
by_name a b = is_lt (slice_cmp nat_cmp a.name.items b.name.items)

-- no member's name comes before a name
abbrev AreNoLess : Bytes → List Member → Type 0
AreNoLess name [] = Unit {0}
AreNoLess name (m ∷ ms) =
    (is_lt (slice_cmp nat_cmp m.name.items name) ≡ false) × AreNoLess name ms

no_less : (name : Bytes) (ms : List Member)
    → ((k : ℕ) (d : Member) → k < length ms
    → is_lt (slice_cmp nat_cmp (get_or ms k d).name.items name) ≡ false) → AreNoLess name ms
no_less name [] h = tt
no_less name (m ∷ ms) h =
    (h 0 m (omega arith), no_less name ms (λ k d lt. h (suc k) d (omega (arith, lt))))

sorted_tail : (m : Member) (ms : List Member) → IsSortedBy by_name (m ∷ ms) → IsSortedBy by_name ms
sorted_tail m ms up k d low lt =
    let is : suc k + 1 ≡ suc (k + 1) = omega arith in
    subst (λ j. by_name (get_or (m ∷ ms) j d) (get_or ms k d) ≡ false) is
    (up (suc k) d (omega arith) (omega (arith, lt)))

sorted_head : (m : Member) (ms : List Member) → IsSortedBy by_name (m ∷ ms)
    → AreNoLess m.name.items ms
sorted_head m ms up =
    no_less m.name.items ms
    (λ k d lt. sorted_far by_name (ranks_by nat_list_cmp_total (λ (l : Member). l.name.items)) (m ∷ ms)
    up 0 (suc k) d (omega arith) (omega (arith, lt)))

head_no_less : (name : Bytes) (ms : List Member) (f : Bytes) (t : Archived) (fewer : Entries)
    → AreNoLess name ms → AreBelow ms (Entry f t fewer)
    → is_lt (slice_cmp nat_cmp f name) ≡ false
head_no_less name [] f t fewer all h = absurd cc
head_no_less name (m ∷ ms) f t fewer all (node, others, of, inl e, more) =
    subst (λ l. is_lt (slice_cmp nat_cmp l name) ≡ false) (sym e.0) all.0
head_no_less name (m ∷ ms) f t fewer all (node, others, of, inr (less, is, h), more) =
    head_no_less name ms f t less all.1 (subst (AreBelow ms) is more)

-- entries whose names rise have the order of members that are sorted
pub in_order : (ms : List Member) (before : Bytes) (es : Entries) → IsSortedBy by_name ms
    → AreBelow ms es → AreEntries before es → AreInOrder ms es
in_order [] before es up h are = subst (AreInOrder []) (sym h) tt
in_order (m ∷ ms) before NoEntries up (node, others, of, beside, more) are = absurd beside
in_order (m ∷ ms) before (Entry f t rest) up (node, others, of, inl e, more) are = (
  e.0,
  subst (IsArchiveOf m.tree) (sym e.1) of,
  are.2,
  in_order ms f rest (sorted_tail m ms up) (subst (AreBelow ms) (sym e.2) more) are.3,
)
in_order (m ∷ ms) before (Entry f t rest) up (node, others, of, inr (less, is, h), more) are =
    let lower : IsAfter f m.name.items = beside_after f m.name.items node less rest are.3 h in
    let no : is_lt (slice_cmp nat_cmp f m.name.items) ≡ false =
    head_no_less m.name.items ms f t less (sorted_head m ms up) (subst (AreBelow ms) is more)
    in
    absurd (false≢true (sym no ∙ ap is_lt lower))

pub order_names : (ms : List Member) (before : Bytes) (es : Entries) → AreInOrder ms es
    → AreEntries before es → AreNames before ms
order_names [] before es h are = tt
order_names (m ∷ ms) before NoEntries h are = absurd h
order_names (m ∷ ms) before (Entry f t rest) h are = (
  subst IsName h.0 are.0,
  subst (IsAfter before) h.0 are.1,
  subst (λ n. AreNames n ms) h.0 (order_names ms f rest h.3 are.3),
)

pub order_entries : (ms : List Member) (before : Bytes) (es : Entries) → AreInOrder ms es
    → AreNames before ms → AreEntries before es
order_entries [] before NoEntries h names = tt
order_entries [] before (Entry f t rest) h names = absurd h
order_entries (m ∷ ms) before NoEntries h names = absurd h
order_entries (m ∷ ms) before (Entry f t rest) h names = (
  subst IsName (sym h.0) names.0,
  subst (IsAfter before) (sym h.0) names.1,
  h.2,
  order_entries ms f rest h.3 (subst (λ n. AreNames n ms) (sym h.0) names.2),
)

pub order_below : (ms : List Member) (es : Entries) → AreInOrder ms es → AreBelow ms es
order_below [] NoEntries h = refl
order_below [] (Entry f t rest) h = absurd h
order_below (m ∷ ms) NoEntries h = absurd h
order_below (m ∷ ms) (Entry f t rest) h =
    (t, rest, h.1, inl (h.0, refl, refl), order_below ms rest h.3)

abbrev weight : Member → ℕ
weight m = 1 + entry_count m.tree

count_sum : (ms : List Member) → count_below ms ≡ sum_by weight ms
count_sum [] = refl
count_sum (m ∷ ms) = omega (arith, count_sum ms, sum_by-cons weight m ms)

pub is_order : (members ms : List Member) → IsPermutation members ms → IsSortedBy by_name ms
    → AreNames [] ms → IsOrderOf members ms
is_order members ms moves up names = record {
  sound = λ es h. (
    below_moved ms members (IsPermutation-sym members ms moves) es (order_below ms es h),
    order_entries ms [] es h names,
  );
  complete = λ es h are. in_order ms [] es up (below_moved members ms moves es h) are;
  count = omega (
    arith,
    count_sum ms,
    count_sum members,
    sum_by-IsPermutation weight members ms moves,
  );
}

pub no_order : (members ms : List Member) → IsPermutation members ms → IsSortedBy by_name ms
    → (AreNames [] ms → ⊥) → HasNoEntries members
no_order members ms moves up unnamed es h are =
    unnamed (order_names ms [] es (in_order ms [] es up (below_moved members ms moves es h) are) are)

-- what references refer to
abbrev pub of_ref : Bor Member → Member
of_ref ref = ref.now

abbrev pub by_ref : Bor Member → Bor Member → Bool
by_ref a b = by_name a.now b.now

first_of : {X : Type 0} (xs : List X) → 0 < length xs → X
first_of [] some = absurd (omega (arith, some))
first_of (x ∷ xs) some = x

pub sorted_refs : (refs : List (Bor Member)) → IsSortedBy by_ref refs
    → IsSortedBy by_name (map of_ref refs)
sorted_refs refs up k d low next =
    let here : k + 1 < length refs = omega (arith, next, length-map refs of_ref) in
    let e : Bor Member = first_of refs (omega (arith, here)) in
    let first : get_or (map of_ref refs) k d ≡ of_ref (get_or refs k e) =
    get_or-map of_ref refs k e d (omega (arith, here))
    in
    let second : get_or (map of_ref refs) (k + 1) d ≡ of_ref (get_or refs (k + 1) e) =
    get_or-map of_ref refs (k + 1) e d here
    in
    rw (first, second) (up k e low here)

map_reverse : {X Y : Type 0} (f : X → Y) (xs : List X) → map f (reverse xs) ≡ reverse (map f xs)
map_reverse f [] = refl
map_reverse f (x ∷ xs) =
    ap (map f) (reverse-append (x ∷ []) xs) ∙ map-append f (reverse xs) (x ∷ [])
    ∙ ap (λ l. l ++ f x ∷ []) (map_reverse f xs) ∙ sym (reverse-append (f x ∷ []) (map f xs))

pub order_of_reverse : (refs : List (Bor Member)) → order_of (reverse refs) ≡ map of_ref refs
order_of_reverse refs =
    ap reverse (map_reverse of_ref refs) ∙ reverse-reverse (map of_ref refs)

-- the one that was put off last comes first
pub order_last : (refs : List (Bor Member)) (ref : Bor Member)
    → order_of (refs ++ ref ∷ []) ≡ ref.now ∷ order_of refs
order_last refs ref =
    ap reverse (map-append of_ref refs (ref ∷ [])) ∙ reverse-append (map of_ref refs) (ref.now ∷ [])

abbrev of_folder : Vec (Bor Member) Global → List Member
of_folder order = order_of order.items

pub folders_last : (folders : List (Vec (Bor Member) Global)) (order : Vec (Bor Member) Global)
    → folders_of (folders ++ order ∷ []) ≡ order_of order.items ∷ folders_of folders
folders_last folders order =
    ap reverse (map-append of_folder folders (order ∷ []))
    ∙ reverse-append (map of_folder folders) (order_of order.items ∷ [])

pub no_folders : (folders : List (Vec (Bor Member) Global)) → length folders ≡ 0
    → folders_of folders ≡ []
no_folders [] none = refl
no_folders (x ∷ xs) none = absurd (omega (arith, none))
