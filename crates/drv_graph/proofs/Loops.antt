-- Lists as loops build and change them.
use Rattle.std.proofs.Common.{◌≡◌, ℕ, zero, suc, ◌+◌, ◌-◌, ◌<◌, ◌≤◌, List, [], ◌∷◌, ◌++◌, length, take, drop, map, get_or, set, Some, refl, sym, ap, subst, ◌∙◌, add-one, append-nil, arith, rules}
use Rattle.std.specs.Prelude.{All}
use Rattle.std.specs.List.{AllZip, slice_get}
use Rattle.std.proofs.Math.Seq.{split_at}
use Rattle.std.proofs.lemmas.List.{drop-set-lt, drop_all, drop_more, get_or-map, length-map, map-append, map-set, set_split, take_all, take_more, take_more_set}
use Rattle.std.proofs.lemmas.List.Elements.{All-more}
use Rattle.std.proofs.lemmas.Slice.Zip.{all_zipped_more}
use Rattle.std.proofs.lemmas.Option.{get_or_from_slice_get, slice_get-map, slice_get_read, slice_get_within}
use Rattle.nix_names.specs.Firsts.{IsFirstWhere}
use Rattle.nix_names.proofs.FirstElements.{first_at}

-- ---- a list that is built beside another

pub mapped_more : {A B C : Type 0} (view : A → C) (made : B → C) (items : List A) (i : ℕ) (d : A)
    (built pushed : List B) (x : B)
    → i < length items → d ≡ get_or items i d → map made built ≡ map view (take i items) → pushed
    ≡ built ++ x ∷ [] → made x ≡ view d
    → map made pushed ≡ map view (take (i + 1) items)
mapped_more {A} {B} {C} view made items i d built pushed x below at before is same =
    ap (map made) is ∙ map-append made built (x ∷ [])
    ∙ ap (λ (front : List C). front ++ made x ∷ []) before
    ∙ ap (λ (c : C). map view (take i items) ++ c ∷ []) (same ∙ ap view at)
    ∙ sym (ap (map view) (take_more _ i d below)
    ∙ map-append view (take i items) (get_or items i d ∷ []))

-- ---- a list that is changed in place

written_at : {C : Type 0} (f : C → C) (old : List C) (i : ℕ) (d : C) → i < length old
    → set (map f (take i old) ++ drop i old) i (f (get_or old i d)) ≡ map f (take (suc i) old)
    ++ drop (suc i) old
written_at f [] i d below = absurd (omega arith)
written_at f (x ∷ xs) zero d below = refl
written_at {C} f (x ∷ xs) (suc i) d below = ap (λ (zs : List C). f x ∷ zs)
    (written_at f _ i d (omega arith))

unwritten_at : {C : Type 0} (f : C → C) (old : List C) (i : ℕ) (d : C)
    → get_or (map f (take i old) ++ drop i old) i d ≡ get_or old i d
unwritten_at f [] zero d = refl
unwritten_at f [] (suc i) d = refl
unwritten_at f (x ∷ xs) zero d = refl
unwritten_at f (x ∷ xs) (suc i) d = unwritten_at f _ i d

-- one element more, seen by a view, is what a function makes of it
pub written_more : {A C : Type 0} (view : A → C) (f : C → C) (old now after : List A) (i : ℕ)
    (x d : A) → i < length now → length now ≡ length old
    → map view now ≡ map f (take i (map view old)) ++ drop i (map view old) → after ≡ set now i x
    → view x ≡ f (view (get_or now i d))
    → map view after ≡ map f (take (i + 1) (map view old)) ++ drop (i + 1) (map view old)
written_more {A} {C} view f old now after i x d below same before is made =
    let at : view (get_or now i d) ≡ get_or (map view old) i (view d) =
    sym (get_or-map view _ i d _ below) ∙ ap (λ (cs : List C). get_or cs i (view d)) before
    ∙ unwritten_at f _ i _ in
    let within : i < length (map view old) = omega (arith, length-map old view) in
    ap (map view) is ∙ map-set view now i x
    ∙ ap (λ (c : C). set (map view now) i c) (made ∙ ap f at)
    ∙ ap (λ (cs : List C). set cs i (f (get_or (map view old) i (view d)))) before
    ∙ written_at f _ i _ within
    ∙ ap (λ (n : ℕ). map f (take n (map view old)) ++ drop n (map view old)) (sym (add-one i))

-- at the end all are
pub written_all : {A C : Type 0} (view : A → C) (f : C → C) (old now : List A) (i : ℕ) → length old
    ≤ i
    → map view now ≡ map f (take i (map view old)) ++ drop i (map view old) → map view now
    ≡ map f (map view old)
written_all {A} {C} view f old now i past is =
    search (rules, length-map, take_all, drop_all, append-nil)

-- ---- elements and their indices

pub slice_get-take : {A : Type 0} (xs : List A) (n k : ℕ) (x : A) → slice_get (take n xs) k ≡ Some x
    → (k < n) × (slice_get xs k ≡ Some x)
slice_get-take [] zero k x e = absurd cc
slice_get-take [] (suc n) k x e = absurd cc
slice_get-take (y ∷ ys) zero k x e = absurd cc
slice_get-take (y ∷ ys) (suc n) zero x e = (omega arith, e)
slice_get-take (y ∷ ys) (suc n) (suc k) x e = search (rules, slice_get-take _ n k x e)

-- beside each element stands another
pub beside : {A B : Type 0} (R : A → B → Type 0) (xs : List A) (ys : List B) (k : ℕ) (x : A)
    → AllZip R xs ys → slice_get xs k ≡ Some x
    → (y : B) × (slice_get ys k ≡ Some y) × R x y
beside R [] ys k x zipped e = absurd cc
beside R (a ∷ xs) [] k x zipped e = absurd zipped
beside {A} {B} R (a ∷ xs) (b ∷ ys) zero x zipped e = search rules
beside R (a ∷ xs) (b ∷ ys) (suc k) x zipped e = beside R xs ys k x zipped.1 e

-- two lists in step
pub zipped_from_map : {A B : Type 0} (R : A → B → Type 0) (f : A → B) (xs : List A) (ys : List B)
    → ys ≡ map f xs → ((x : A) → R x (f x)) → AllZip R xs ys
zipped_from_map {A} {B} R f xs ys is each = subst (λ (zs : List B). AllZip R xs zs) (sym is)
    (step xs)
  where
    step : (zs : List A) → AllZip R zs (map f zs)
    step [] = tt
    step (z ∷ zs) = (each z, step zs)

-- ---- a list that is gone over

-- the view of the element at an index
pub seen_at : {A B : Type 0} (view : A → B) (items : List A) (i : ℕ) (d : A) → i < length items → d
    ≡ get_or items i d → slice_get (map view items) i ≡ Some (view d)
seen_at view items i d below at = search (rules, slice_get-map, slice_get_read)

pub seen_twice : {A B C : Type 0} (outer : B → C) (view : A → B) (items : List A) (i : ℕ) (d : A)
    → i < length items → d ≡ get_or items i d
    → slice_get (map outer (map view items)) i ≡ Some (outer (view d))
seen_twice outer view items i d below at = search (rules, slice_get-map, seen_at)

-- a list that is built is the front of another, up to an index
pub took_more : {B : Type 0} (xs : List B) (i : ℕ) (x : B) (built pushed : List B) → slice_get xs i
    ≡ Some x → built ≡ take i xs → pushed ≡ built ++ x ∷ [] → pushed ≡ take (i + 1) xs
took_more {B} xs i x built pushed at before is =
    let below : i < length xs = slice_get_within xs i x at in
    is ∙ ap (λ (front : List B). front ++ x ∷ []) before
    ∙ ap (λ (y : B). take i xs ++ y ∷ []) (sym (get_or_from_slice_get _ i x x at))
    ∙ sym (take_more _ i x below)

pub took_all : {B : Type 0} (xs built : List B) (i : ℕ) → length xs ≤ i → built ≡ take i xs → built
    ≡ xs
took_all xs built i past is = is ∙ take_all i xs past

-- what holds of each element up to an index
pub all_took_more : {B : Type 0} (P : B → Type 0) (xs : List B) (i : ℕ) (x : B) → slice_get xs i
    ≡ Some x → All P (take i xs) → P x → All P (take (i + 1) xs)
all_took_more {B} P xs i x at before here =
    All-more P _ i x (slice_get_within xs i x at) before
    (subst (λ (y : B). P y) (sym (get_or_from_slice_get _ i x x at)) here)

pub all_took_all : {B : Type 0} (P : B → Type 0) (xs : List B) (i : ℕ) → length xs ≤ i
    → All P (take i xs) → All P xs
all_took_all {B} P xs i past all = search (rules, take_all)

-- the first element of which something doesn't hold
pub first_without : {B : Type 0} (Good : B → Type 0) (xs : List B) (i : ℕ) (x : B) → slice_get xs i
    ≡ Some x → All Good (take i xs) → (Good x → ⊥) → IsFirstWhere (λ (b : B). Good b → ⊥) xs x
first_without Good xs i x at good bad = search (rules, first_at)

-- a list of one element
pub one_element : {A B : Type 0} (view : A → B) (xs : List A) (x : A) → length xs ≡ 1 → x
    ≡ get_or xs 0 x → map view xs ≡ view x ∷ []
one_element view [] x long at = absurd (omega arith)
one_element {A} {B} view (y ∷ []) x long at = search rules
one_element view (y ∷ z ∷ zs) x long at = absurd (omega arith)

-- an element is changed in place, by a relation
pub zipped_in_place : {A C : Type 0} (R : C → C → Type 0) (view : A → C) (old now after : List A)
    (i : ℕ) (x d : A) → i < length now → length now ≡ length old
    → AllZip R (take i (map view old)) (take i (map view now)) → drop i (map view now)
    ≡ drop i (map view old) → after ≡ set now i x → R (view (get_or now i d)) (view x)
    → AllZip R (take (i + 1) (map view old)) (take (i + 1) (map view after))
    × (drop (i + 1) (map view after) ≡ drop (i + 1) (map view old))
zipped_in_place {A} {C} R view old now after i x d below same zipped rest is made =
    let e : C = view d in
    let in_now : i < length (map view now) = omega (arith, length-map now view) in
    let in_old : i < length (map view old) = omega (arith, length-map old view) in
    let changed : map view after ≡ set (map view now) i (view x) = ap (map view) is
    ∙ map-set view now i x in
    let parts : get_or (map view now) i e ∷ drop (i + 1) (map view now) ≡ get_or (map view old) i e
    ∷ drop (i + 1) (map view old) =
    sym (drop_more (map view now) i e in_now) ∙ rest ∙ drop_more (map view old) i e in_old in
    let head : get_or (map view now) i e ≡ get_or (map view old) i e = cc in
    let tail : drop (i + 1) (map view now) ≡ drop (i + 1) (map view old) = cc in
    let was : view (get_or now i d) ≡ get_or (map view old) i e =
    sym (get_or-map view _ i d e below) ∙ head in
    let one_more = all_zipped_more R (take i (map view old)) (take i (map view now))
    (get_or (map view old) i e) (view x) zipped (subst (λ (c : C). R c (view x)) was made) in (
      subst (λ (front : List C). AllZip R front (take (i + 1) (map view after)))
          (sym (take_more _ i e in_old))
          (subst (λ (back : List C). AllZip R
          (take i (map view old) ++ get_or (map view old) i e ∷ []) back)
          (sym (ap (take (i + 1)) changed ∙ take_more_set _ i _ in_now))
          one_more),
      ap (drop (i + 1)) changed ∙ drop-set-lt (i + 1) (map view now) i (view x) (omega arith)
          ∙ tail,
    )

pub zipped_all : {C : Type 0} (R : C → C → Type 0) (old now : List C) (i : ℕ) → length old ≤ i
    → length now ≤ i → AllZip R (take i old) (take i now) → AllZip R old now
zipped_all {C} R old now i past past' zipped = search (rules, take_all)

-- the last element of a list
pub split_last : {A : Type 0} (xs : List A) (n : ℕ) (x : A) → n ≡ length xs → 0 < n → x
    ≡ get_or xs (n - 1) x → xs ≡ take (n - 1) xs ++ x ∷ []
split_last {A} xs n x long some at =
    split_at xs (n - 1) x (omega arith)
    ∙ ap (λ (y : A). take (n - 1) xs ++ y ∷ drop (suc (n - 1)) xs) (sym at)
    ∙ ap (λ (ys : List A). take (n - 1) xs ++ x ∷ ys) (drop_all (suc (n - 1)) xs (omega arith))

pub set_last : {A : Type 0} (xs : List A) (n : ℕ) (x : A) → n ≡ length xs → 0 < n → set xs (n - 1) x
    ≡ take (n - 1) xs ++ x ∷ []
set_last {A} xs n x long some = search (rules, set_split, drop_all)
