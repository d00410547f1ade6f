-- The paths that specifiers name.
use Rattle.std.proofs.Common.{◌≡◌, ◌∙◌, ◌↔◌, ◌⊎◌, ◌==◌, inl, inr, ⊎_elim, ℕ, ◌+◌, ◌-◌, ◌<◌, ◌≤◌, Bool, true, false, List, [], ◌∷◌, ◌++◌, length, map, take, drop, get_or, Some, None, refl, sym, ap, subst, length-append, length-drop, arith}
use Rattle.std.specs.Prelude.{Contains, IfOk, Result, Ok, Err}
use Rattle.std.proofs.lemmas.Bool.{false≢true}
use Rattle.std.proofs.lemmas.List.{append_cancel_right, get_or_at, map-append, take_all, take_at, take_more}
use Rattle.std.proofs.lemmas.List.Elements.{All-contains, Contains-append_left, Contains-push, Contains-push_cases}
use Rattle.nix_names.specs.Names.{IsStoreDir}
use Rattle.nix_names.specs.Rising.{IsRising}
use Rattle.nix_names.specs.StorePaths.{IsPathOf, IsStorePath, base_of, hash_part_of, name_of, path_fault, path_text}
use Rattle.nix_names.specs.declared.fault.NameFault.{NameFault}
use Rattle.std.proofs.lemmas.Option.{slice_get-get_or}
use Rattle.nix_names.proofs.Lists.{All-from_contains, Contains-from_get, Contains-map, Contains-nothing}
use Rattle.nix_names.proofs.PathFaults.{no_fault_of_path}
use Rattle.nix_names.proofs.PathTexts.{base_of_path, after_last_slash, hash_part_is, name_is, parts_from_text}
use Rattle.build_outcome.specs.Checks.{AreSpecifiers, IsPathBeside, Specifies}
use Rattle.build_outcome.specs.declared.job.Job.{Job}
use Rattle.build_outcome.specs.declared.job.JobOutput.{JobOutput}
use Rattle.build_outcome.specs.private.Listing.{AddsNamed, AddsSpecified, AreListed, AreListedSoFar, IsNamed, IsWithoutSlash, TellsPath}

-- ---- a slash at the end

-- the base name of a text that ends in a slash is empty
base_after : (front : List ℕ) → base_of (front ++ 47 ∷ []) ≡ []
base_after front =
    let long : length (front ++ 47 ∷ []) ≡ length front + 1 = length-append front (47 ∷ []) in
    let at : get_or (front ++ 47 ∷ []) (length front) 0
    ≡ 47 = get_or_at front 47 [] 0 (length front) refl in
    sym (after_last_slash (front ++ 47 ∷ []) (length front) (
      record {
        low = omega arith;
        high = omega (arith, long);
        after = λ k low high. absurd (omega (arith, low, high, long));
      },
      at_slash _ at,
    ))
    ∙ nothing_left (drop (length front + 1) (front ++ 47 ∷ []))
    (omega (arith, length-drop (length front + 1) (front ++ 47 ∷ []), long))
  where
    at_slash : (b : ℕ) → b ≡ 47 → (b == 47) ≡ true
    at_slash b e = rw e refl

    nothing_left : (xs : List ℕ) → length xs ≡ 0 → xs ≡ []
    nothing_left [] e = refl
    nothing_left (x ∷ xs) e = absurd (omega arith)

-- a path doesn't end in a slash
no_slash_after : (dir path front : List ℕ) → IsPathOf dir path → path ≡ front ++ 47 ∷ [] → ⊥
no_slash_after dir path front is ends =
    let base : is.hash ++ 45 ∷ is.name ≡ [] =
    sym (base_of_path dir is.hash is.name is.is_hash is.named) ∙ ap base_of (sym is.parts)
    ∙ ap base_of ends ∙ base_after front in
    let none : length (is.hash ++ 45 ∷ is.name) ≡ 0 = ap (λ (l : List ℕ). length l) base in
    omega (arith, none, length-append is.hash (45 ∷ is.name))

-- a text without the slash at its end is the only path that the text may be
told_front : (dir text front path : List ℕ) → IsWithoutSlash text front → IsPathOf dir path
    → (text ≡ path) ⊎ (text ≡ path ++ 47 ∷ []) → path ≡ front
told_front dir text front path told is text_is = ⊎_elim
    (λ cut. ⊎_elim
    (λ same. absurd (no_slash_after dir path front is (sym same ∙ cut)))
    (λ slashed. append_cancel_right path front (47 ∷ []) (sym slashed ∙ cut))
    text_is)
    (λ whole. ⊎_elim
    (λ same. sym same ∙ whole.0)
    (λ slashed. absurd (whole.1 path slashed))
    text_is)
    told

pub no_path_told : (dir text front : List ℕ) (fault : NameFault) → IsWithoutSlash text front
    → path_fault dir front ≡ Some fault → TellsPath dir text None
no_path_told dir text front fault told wrong path is text_is =
    let same = told_front dir text front path told is text_is in
    let none : path_fault dir front ≡ None = no_fault_of_path dir front (subst (IsPathOf dir) same is)
    in
    let clash : None ≡ Some fault = sym none ∙ wrong in absurd cc

-- ---- the folder of a path

-- one path stands in one folder
one_folder : (dir other path : List ℕ) → IsPathOf dir path → IsPathOf other path → dir ≡ other
one_folder dir other path is is' =
    (parts_from_text dir is.hash is.name other is'.hash is'.name is.is_hash is.named is'.is_hash
    is'.named (sym is.parts ∙ is'.parts)).0

-- what stands before the base name of a path is its folder
pub folder_front : (path : List ℕ) (is : IsStorePath path) (hash name : List ℕ)
    → hash ≡ hash_part_of path → name ≡ name_of path
    → (length hash + 1 + length name + 1 ≤ length path)
    × (take (length path - (length hash + 1 + length name) - 1) path ≡ is.dir)
folder_front path is hash name hash_is name_is' =
    let p = is.is_path in
    let hashes : hash ≡ p.hash = hash_is ∙ hash_part_is is.dir path p in
    let names : name ≡ p.name = name_is' ∙ name_is is.dir path p in
    let hash_long : length hash ≡ length p.hash = ap (λ (l : List ℕ). length l) hashes in
    let name_long : length name ≡ length p.name = ap (λ (l : List ℕ). length l) names in
    let long : length path ≡ length (path_text is.dir p.hash p.name) =
    ap (λ (l : List ℕ). length l) p.parts in
    let dir_long = length-append is.dir (47 ∷ p.hash ++ (45 ∷ p.name)) in
    let base_long = length-append p.hash (45 ∷ p.name) in
    let index : length path - (length hash + 1 + length name) - 1 ≡ length is.dir =
    omega (arith, hash_long, name_long, long, dir_long, base_long) in (
      omega (arith, hash_long, name_long, long, dir_long, base_long),
      ap (λ n. take n path) index ∙ ap (take (length is.dir)) p.parts
          ∙ take_at is.dir (47 ∷ p.hash ++ (45 ∷ p.name)) (length is.dir) refl,
    )

pub folder_is : (path text lent hash name : List ℕ) → IsStorePath path → text ≡ path
    → hash ≡ hash_part_of path → name ≡ name_of path
    → lent ≡ take (length text - (length hash + 1 + length name) - 1) text
    → IsStoreDir lent × IsPathOf lent path
folder_is path text lent hash name is same hash_is name_is' cut =
    let dir : lent ≡ is.dir =
    cut ∙ ap (λ (l : List ℕ). take (length l - (length hash + 1 + length name) - 1) l) same
    ∙ (folder_front path is hash name hash_is name_is').1 in (
      subst IsStoreDir (sym dir) is.is_dir,
      subst (λ (d : List ℕ). IsPathOf d path) (sym dir) is.is_path,
    )

-- ---- what a specifier names

-- a path that is told is the one beside an output
beside_told : (dir own text path : List ℕ) → IsPathOf dir own → TellsPath dir text (Some path)
    → IsPathBeside own path text
beside_told dir own text path is told = (dir, is, told.0, told.1)

told_beside : (dir own text path : List ℕ) → IsPathOf dir own → IsPathBeside own path text
    → IsPathOf dir path × ((text ≡ path) ⊎ (text ≡ path ++ 47 ∷ []))
told_beside dir own text path is (other, is', at, text_is) =
    (subst (λ (d : List ℕ). IsPathOf d path) (one_folder other dir own is' is) at, text_is)

-- two paths that a text may be are one
one_told : (dir text a b : List ℕ) → IsPathOf dir a → IsPathOf dir b
    → (text ≡ a) ⊎ (text ≡ a ++ 47 ∷ []) → (text ≡ b) ⊎ (text ≡ b ++ 47 ∷ []) → a ≡ b
one_told dir text a b is is' told told' = ⊎_elim
    (λ same. ⊎_elim
    (λ same'. sym same ∙ same')
    (λ slashed'. absurd (no_slash_after dir a b is (sym same ∙ slashed')))
    told')
    (λ slashed. ⊎_elim
    (λ same'. absurd (no_slash_after dir b a is' (sym same' ∙ slashed)))
    (λ slashed'. append_cancel_right a b (47 ∷ []) (sym slashed ∙ slashed'))
    told')
    told

pub adds_path : (job : Job) (dir own text path : List ℕ) (old new : List (List ℕ))
    → TellsPath dir text (Some path) → new ≡ old ++ path ∷ [] → IsPathOf dir own
    → AddsSpecified job own text old new true
adds_path job dir own text path old new told is home =
    subst (λ (l : List (List ℕ)). AddsSpecified job own text old l true) (sym is) (record {
      each = λ other. (
        λ has. ⊎_elim inl
            (λ e. inr (subst (Specifies job own text) e specifies))
            (Contains-push_cases _ _ _ has),
        λ h. ⊎_elim
            (λ has. Contains-append_left _ _ _ has)
            (λ names. subst (Contains (old ++ path ∷ [])) (only other names) (Contains-push _ _))
            h,
      );
      any = (λ _. (path, specifies), λ _. refl);
    })
  where
    beside : IsPathBeside own path text
    beside = beside_told dir own text path home told

    specifies : Specifies job own text path
    specifies = inl beside

    only : (other : List ℕ) → Specifies job own text other → path ≡ other
    only other names = ⊎_elim
        (λ by_path. let h = told_beside dir own text other home by_path in
        one_told dir text path other told.0 h.0 told.1 h.1)
        (λ by_name. absurd (by_name.0 path beside))
        names

pub adds_named : (job : Job) (dir own text : List ℕ) (old new : List (List ℕ)) (some : Bool)
    → TellsPath dir text None → AddsNamed job.outputs.items text old new some → IsPathOf dir own
    → AddsSpecified job own text old new some
adds_named job dir own text old new some none adds home = record {
  each = λ path. (
    λ has. ⊎_elim inl (λ names. inr (inr (not_beside, names))) ((adds.each path).0 has),
    λ h. ⊎_elim (λ has. (adds.each path).1 (inl has))
        (λ names. (adds.each path).1 (inr (by_name path names))) h,
  );
  any = (
    λ is. let h = adds.any.0 is in (h.0, inr (not_beside, h.1)),
    λ h. adds.any.1 (h.0, by_name h.0 h.1),
  );
}
  where
    not_beside : (other : List ℕ) → IsPathBeside own other text → ⊥
    not_beside other beside = let h = told_beside dir own text other home beside in
        none other h.0 h.1

    by_name : (path : List ℕ) → Specifies job own text path → IsNamed job.outputs.items text path
    by_name path names = ⊎_elim (λ by_path. absurd (not_beside path by_path)) (λ h. h.1) names

-- ---- outputs with a name

pub named_none : (name : List ℕ) (old : List (List ℕ)) → AddsNamed [] name old old false
named_none name old = record {
  each = λ path. (
    inl,
    λ h. ⊎_elim (λ has. has) (λ names. absurd (Contains-nothing names.0 names.1)) h,
  );
  any = (
    λ is. absurd (false≢true is),
    λ h. absurd (Contains-nothing h.1.0 h.1.1),
  );
}

more_named : (outputs : List JobOutput) (output : JobOutput) (name path : List ℕ)
    → IsNamed outputs name path → IsNamed (outputs ++ output ∷ []) name path
more_named outputs output name path (other, has, named, at) =
    (other, Contains-append_left _ _ _ has, named, at)

named_cases : (outputs : List JobOutput) (output : JobOutput) (name path : List ℕ)
    → IsNamed (outputs ++ output ∷ []) name path
    → IsNamed outputs name path ⊎ ((output.name.items ≡ name) × (output.path ≡ path))
named_cases outputs output name path (other, has, named, at) = ⊎_elim
    (λ earlier. inl (other, earlier, named, at))
    (λ e. inr (
      ap (λ (o : JobOutput). o.name.items) e ∙ named,
      ap (λ (o : JobOutput). o.path) e ∙ at,
    ))
    (Contains-push_cases _ _ _ has)

pub named_more : (outputs : List JobOutput) (output : JobOutput) (name : List ℕ)
    (old now new : List (List ℕ)) (some : Bool) → AddsNamed outputs name old now some
    → output.name.items ≡ name → new ≡ now ++ output.path ∷ []
    → AddsNamed (outputs ++ output ∷ []) name old new true
named_more outputs output name old now new some was named is =
    let here : IsNamed (outputs ++ output ∷ []) name output.path =
    (output, Contains-push _ _, named, refl) in
    subst (λ (l : List (List ℕ)). AddsNamed (outputs ++ output ∷ []) name old l true) (sym is)
    (record {
      each = λ path. (
        λ has. ⊎_elim
            (λ earlier. ⊎_elim inl (λ names. inr (more_named outputs output name path names))
            ((was.each path).0 earlier))
            (λ e. inr (subst (IsNamed (outputs ++ output ∷ []) name) e here))
            (Contains-push_cases _ _ _ has),
        λ h. ⊎_elim
            (λ has. Contains-append_left _ _ _ ((was.each path).1 (inl has)))
            (λ names. ⊎_elim
            (λ earlier. Contains-append_left _ _ _ ((was.each path).1 (inr earlier)))
            (λ e. subst (Contains (now ++ output.path ∷ [])) e.1 (Contains-push _ _))
            (named_cases outputs output name path names))
            h,
      );
      any = (λ _. (output.path, here), λ _. refl);
    })

pub named_other : (outputs : List JobOutput) (output : JobOutput) (name : List ℕ)
    (old now : List (List ℕ)) (some : Bool) → AddsNamed outputs name old now some
    → (output.name.items ≡ name → ⊥) → AddsNamed (outputs ++ output ∷ []) name old now some
named_other outputs output name old now some was apart = record {
  each = λ path. (
    λ has. ⊎_elim inl (λ names. inr (more_named outputs output name path names))
        ((was.each path).0 has),
    λ h. ⊎_elim
        (λ has. (was.each path).1 (inl has))
        (λ names. ⊎_elim
        (λ earlier. (was.each path).1 (inr earlier))
        (λ e. absurd (apart e.0))
        (named_cases outputs output name path names))
        h,
  );
  any = (
    λ is. let h = was.any.0 is in (h.0, more_named outputs output name h.0 h.1),
    λ h. ⊎_elim
        (λ earlier. was.any.1 (h.0, earlier))
        (λ e. absurd (apart e.0))
        (named_cases outputs output name h.0 h.1),
  );
}

-- ---- a whole list

-- the images of the front of a list
pub taken_mapped : {X Y : Type 0} (f : X → Y) (xs : List X) (i : ℕ) (d : X) → i < length xs
    → map f (take (i + 1) xs) ≡ map f (take i xs) ++ f (get_or xs i d) ∷ []
taken_mapped f xs i d below =
    ap (map f) (take_more xs i d below) ∙ map-append f (take i xs) (get_or xs i d ∷ [])

pub all_mapped : {X Y : Type 0} (f : X → Y) (xs : List X) (i : ℕ) (ys : List Y) → length xs ≤ i
    → map f xs ≡ ys → map f (take i xs) ≡ ys
all_mapped f xs i ys all same = ap (map f) (take_all i xs all) ∙ same

pub one_mapped : {X Y : Type 0} (f : X → Y) (xs : List X) (i : ℕ) (d : X) (ys : List Y)
    → i < length xs → map f xs ≡ ys → Contains ys (f (get_or xs i d))
one_mapped {Y = Y} f xs i d ys below same =
    subst (λ (l : List Y). Contains l (f (get_or xs i d))) same
    (Contains-map f xs (get_or xs i d)
    (Contains-from_get xs i (get_or xs i d) (slice_get-get_or xs i d below)))

pub listed_none : (job : Job) (own : List ℕ) (named : List (List ℕ)) → named ≡ []
    → AreListedSoFar job own [] named
listed_none job own named none = record {
  specifiers = All-from_contains (λ specifier. (path : List ℕ) × Specifies job own specifier path) []
      (λ specifier has. absurd (Contains-nothing specifier has));
  each = λ path. (
    λ has. absurd (Contains-nothing path
        (subst (λ (l : List (List ℕ)). Contains l path) none has)),
    λ h. absurd (Contains-nothing h.0 h.1),
  );
}

pub listed_more : (job : Job) (own : List ℕ) (list : List (List ℕ)) (specifier : List ℕ)
    (named new : List (List ℕ)) (some : Bool) → AreListedSoFar job own list named
    → AddsSpecified job own specifier named new some → some ≡ true
    → AreListedSoFar job own (list ++ specifier ∷ []) new
listed_more job own list specifier named new some was adds is = record {
  specifiers = All-from_contains (λ s. (path : List ℕ) × Specifies job own s path)
      (list ++ specifier ∷ []) (λ s has. ⊎_elim
      (λ earlier. All-contains (λ t. (path : List ℕ) × Specifies job own t path) list s
      was.specifiers earlier)
      (λ e. subst (λ t. (path : List ℕ) × Specifies job own t path) e (adds.any.0 is))
      (Contains-push_cases _ _ _ has));
  each = λ path. (
    λ has. ⊎_elim
        (λ earlier. let h = (was.each path).0 earlier in
        (h.0, Contains-append_left _ _ _ h.1, h.2))
        (λ names. (specifier, Contains-push _ _, names))
        ((adds.each path).0 has),
    λ h. ⊎_elim
        (λ earlier. (adds.each path).1 (inl ((was.each path).1 (h.0, earlier, h.2))))
        (λ e. (adds.each path).1 (inr
        (subst (λ s. Specifies job own s path) (sym e) h.2)))
        (Contains-push_cases _ _ _ h.1),
  );
}

pub listed_all : (job : Job) (own : List ℕ) (list named rising : List (List ℕ))
    → AreListedSoFar job own list named → IsRising rising
    → ((path : List ℕ) → Contains rising path ↔ Contains named path)
    → AreListed job own list rising
listed_all job own list named rising was rises same = record {
  specifiers = was.specifiers;
  rising = rises;
  each = λ path. (
    λ has. (was.each path).0 ((same path).0 has),
    λ h. (same path).1 ((was.each path).1 h),
  );
}

-- a specifier that names nothing
pub unlisted : (job : Job) (own : List ℕ) (list : List (List ℕ)) (specifier : List ℕ)
    (named new : List (List ℕ)) (some : Bool) → Contains list specifier
    → AddsSpecified job own specifier named new some → some ≡ false → AreSpecifiers job own list → ⊥
unlisted job own list specifier named new some has adds is all =
    false≢true (sym is ∙ adds.any.1
    (All-contains (λ s. (path : List ℕ) × Specifies job own s path) list specifier all has))

-- what a call adds by a name is what the specifier adds
pub named_told : {E : Type 0} (job : Job) (dir text : List ℕ) (old new : List (List ℕ))
    (result : Result Bool E) → TellsPath dir text None
    → IfOk result (AddsNamed job.outputs.items text old new)
    → IfOk result (λ some. (own : List ℕ) → IsPathOf dir own
    → AddsSpecified job own text old new some)
named_told job dir text old new (Ok some) none adds =
    λ own home. adds_named job dir own text old new some none adds home
named_told job dir text old new (Err e) none adds = adds
