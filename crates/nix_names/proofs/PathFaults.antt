-- What is wrong first with a text as a path of a folder.
use Rattle.std.proofs.Common.{◌≡◌, ◌<◌, ◌≤◌, ◌+◌, ◌&&◌, ℕ, Bool, true, false, not, List, [], ◌∷◌, ◌++◌, length, take, drop, nat_eq, refl, ap, sym, ◌∙◌, Option, Some, None, if◌then◌else◌, rules}
use Rattle.std.specs.List.{starts_with}
use Rattle.std.proofs.lemmas.Bool.{and_from, and_left, and_right, and_parts, cases_lt, ne_eqb}
use Rattle.std.proofs.lemmas.Bool.Decides.{Decides-eqb}
use Rattle.std.proofs.lemmas.List.{append_assoc, drop-drop, drop_all, drop_at, length-append, length-take, take-append-drop, take_at}
use Rattle.std.proofs.lemmas.Slice.Eq.{starts_is}
use Rattle.nix_names.specs.Names.{is_name}
use Rattle.nix_names.specs.StorePaths.{IsPathOf, base_fault, is_hash_part, path_fault, path_text}
use Rattle.nix_names.specs.declared.fault.NameFault.{NameFault}
use Rattle.nix_names.specs.declared.fault.NameFault.TheVariants.{NotInStore, BadHashPart, BadName}
use Rattle.nix_names.proofs.PathTexts.{hash_part_len}

-- `and` of three tests
and_assoc : (a b c : Bool) → (a && (b && c)) ≡ ((a && b) && c)
and_assoc true b c = refl
and_assoc false b c = refl

-- a text begins with a folder and a slash where it begins with the folder, and what follows with a
-- slash
pub starts_with_slash : (text dir : List ℕ) → starts_with nat_eq text (dir ++ 47 ∷ [])
    ≡ (starts_with nat_eq text dir && starts_with nat_eq (drop (length dir) text) (47 ∷ []))
starts_with_slash text [] = refl
starts_with_slash [] (d ∷ dir) = refl
starts_with_slash (t ∷ text) (d ∷ dir) =
    search (rules, nat_eq, and_assoc, starts_with_slash text dir)

-- a text that begins with a folder begins with it and a slash exactly if what follows begins with a
-- slash
pub starts_with_slash_after : (text dir rest : List ℕ) → starts_with nat_eq text dir ≡ true → rest
    ≡ drop (length dir) text → starts_with nat_eq rest (47 ∷ [])
    ≡ starts_with nat_eq text (dir ++ 47 ∷ [])
starts_with_slash_after text dir rest begins after =
    rw (starts_with_slash text dir, begins, after) refl

-- whether a base name begins with a hash part and a dash
abbrev pub begins_with_hash : List ℕ → Bool
begins_with_hash base = is_hash_part (take 32 base) && starts_with nat_eq (drop 32 base) (45 ∷ [])

-- fewer than 32 bytes are no hash part
fewer_is_no_hash : (hash : List ℕ) → length hash < 32 → is_hash_part hash ≡ false
unfolding is_hash_part
fewer_is_no_hash hash few = search (rules, and_left, ne_eqb)

-- no 32 bytes or fewer begin with a hash part and a dash
pub short_is_no_hash : (base : List ℕ) → length base ≤ 32 → begins_with_hash base ≡ false
short_is_no_hash base short =
    search (rules, cases_lt, begins_with_hash, and_left, fewer_is_no_hash, length-take, and_right, nat_eq, drop_all)

-- a test that is passed, where nothing is wrong
passed : (t : Bool) (f : NameFault) (rest : Option NameFault) → (if not t then Some f else rest)
    ≡ None → (t ≡ true) × (rest ≡ None)
passed true f rest h = (refl, h)
passed false f rest h = cc

-- what a base name's fault is, where it begins with a hash part and a dash
pub fault_after_hash : (base name : List ℕ) → begins_with_hash base ≡ true → name ≡ drop 33 base
    → base_fault base ≡ (if not (is_name name) then Some BadName else None)
unfolding base_fault
fault_after_hash base name begins rest = rw (begins, rest) refl

-- a text that does not begin with the folder and a slash is not in the store
pub fault_outside : (dir text : List ℕ) → starts_with nat_eq text (dir ++ 47 ∷ []) ≡ false
    → path_fault dir text ≡ Some NotInStore
unfolding path_fault
fault_outside dir text outside = rw outside refl

-- the fault of a text that begins with the folder and a slash is that of what follows
pub fault_inside : (dir text base : List ℕ) → starts_with nat_eq text (dir ++ 47 ∷ []) ≡ true → base
    ≡ drop (length dir + 1) text → path_fault dir text ≡ base_fault base
unfolding path_fault
fault_inside dir text base inside rest = rw (inside, rest) refl

-- a base name that begins with a hash part and a dash, by its parts
base_parts : (base : List ℕ) → begins_with_hash base ≡ true → base ≡ take 32 base ++ 45
    ∷ drop 33 base
base_parts base begins =
    let dash : drop 32 base ≡ 45 ∷ drop 1 (drop 32 base) =
    (starts_is Decides-eqb (drop 32 base) (45 ∷ []) _ refl).0 (and_parts _ _ begins).1 in
    sym (take-append-drop 32 base) ∙ ap (λ rest. take 32 base ++ rest)
    (dash ∙ ap (λ rest. 45 ∷ rest) (drop-drop 1 32 base))

-- the text of the path of a folder, in front of its base name
path_text_parts : (dir hash name : List ℕ) → (dir ++ 47 ∷ []) ++ (hash ++ 45 ∷ name)
    ≡ path_text dir hash name
path_text_parts dir hash name = append_assoc dir (47 ∷ []) (hash ++ 45 ∷ name)

-- what a text that begins with a folder and a slash is
after_slash : (dir text : List ℕ) → starts_with nat_eq text (dir ++ 47 ∷ []) ≡ true → text
    ≡ (dir ++ 47 ∷ []) ++ drop (length dir + 1) text
after_slash dir text begins = search (rules, starts_is, Decides-eqb, length-append)

-- a text with nothing wrong is a path of the folder
pub path_of_no_fault : (dir text : List ℕ) → path_fault dir text ≡ None → IsPathOf dir text
unfolding path_fault base_fault
path_of_no_fault dir text none =
    let base : List ℕ = drop (length dir + 1) text in
    let in_dir = passed _ NotInStore _ none in
    let begins = passed _ BadHashPart _ in_dir.1 in
    let named = passed _ BadName _ begins.1 in
    record {
      hash = take 32 base;
      name = drop 33 base;
      is_hash = (and_parts _ _ begins.0).0;
      named = named.0;
      parts = after_slash dir text in_dir.0 ∙ ap (λ rest. (dir ++ 47 ∷ []) ++ rest)
          (base_parts base begins.0) ∙ path_text_parts dir (take 32 base) (drop 33 base);
    }

-- nothing is wrong with a hash part, a dash and a name
no_fault_of_parts : (hash name : List ℕ) → is_hash_part hash ≡ true → is_name name ≡ true
    → base_fault (hash ++ 45 ∷ name) ≡ None
no_fault_of_parts hash name is_hash named =
    let base : List ℕ = hash ++ 45 ∷ name in
    let long = hash_part_len hash is_hash in
    let front : take 32 base ≡ hash = take_at hash (45 ∷ name) 32 long in
    let dash : drop 32 base ≡ 45 ∷ name = drop_at hash (45 ∷ name) 32 long in
    let rest : drop 33 base ≡ name = sym (drop-drop 1 32 base) ∙ ap (drop 1) dash in
    let begins : begins_with_hash base ≡ true =
    and_from _ _ (ap is_hash_part front ∙ is_hash)
    (ap (λ b. starts_with nat_eq b (45 ∷ [])) dash) in
    fault_after_hash base name begins (sym rest)
    ∙ ap (λ b. if not b then Some BadName else None) named

-- nothing is wrong with a path of the folder
pub no_fault_of_path : (dir text : List ℕ) → IsPathOf dir text → path_fault dir text ≡ None
no_fault_of_path dir text p =
    search (rules, path_text_parts, nat_eq, starts_is, Decides-eqb, drop_at, length-append, fault_inside, no_fault_of_parts)
