-- What is found first in a list.
use Rattle.std.proofs.Common.{◌≡◌, ◌∙◌, ℕ, Bool, true, false, cond, List, [], ◌∷◌, Option, Some, None, Contains, map, refl, sym, ap, subst, ⊎_elim}
use Rattle.std.specs.Prelude.{find, option_map}
use Rattle.std.proofs.lemmas.Bool.{false≢true}
use Rattle.std.proofs.lemmas.List.Elements.{All-cons, All-nil}
use Rattle.std.proofs.lemmas.Option.{none-some, same_Some}
use Rattle.nix_names.specs.Firsts.{IsFirst}
use Rattle.nix_names.specs.Names.{same_bytes}
use Rattle.nix_names.proofs.Lists.{Contains-cons_cases, Contains-from_map, Contains-map, Contains-middle, Contains-nothing}
use Rattle.nix_names.proofs.RisingLists.{equal_from_eq}
use Rattle.std.specs.Cmp.Lexicographic.{nat_list_eq_equiv}
use Rattle.valid_table.specs.Entries.{paths_registered}
use Rattle.valid_table.specs.Valid.{IsNotValid, IsValid}
use Rattle.valid_table.specs.declared.entry.Registration.{Registration}
use Rattle.builder_start.specs.Entries.{is_within, root_of}

-- ---- any lists

find_step : {X Y : Type 0} (h : X → Y) (b : Bool) (x : X) (found : Option Y) (other : Option X)
    → found ≡ option_map h other
    → cond b (Some (h x)) found ≡ option_map h (cond b (Some x) other)
find_step h true x found other is = refl
find_step h false x found other is = is

-- the first of the images that passes is the image of the first
pub find_mapped : {X Y : Type 0} (p : Y → Bool) (h : X → Y) (xs : List X) → find p (map h xs)
    ≡ option_map h (find (λ x. p (h x)) xs)
find_mapped p h [] = refl
find_mapped p h (x ∷ xs) = find_step h (p (h x)) x _ _ (find_mapped p h xs)

-- none before the one that is found passes
pub find_first : {X : Type 0} (p : X → Bool) (xs : List X) (x : X) → find p xs ≡ Some x
    → IsFirst (λ y. p y ≡ false) (λ y. p y ≡ true) xs x
find_first p [] x is = absurd (none-some x is)
find_first p (y ∷ xs) x is = at (p y) refl is (λ found. find_first p xs x found)
  where
    at : (b : Bool) → p y ≡ b → cond b (Some y) (find p xs) ≡ Some x
        → (find p xs ≡ Some x → IsFirst (λ z. p z ≡ false) (λ z. p z ≡ true) xs x)
        → IsFirst (λ z. p z ≡ false) (λ z. p z ≡ true) (y ∷ xs) x
    at true passes found go = record {
      before = [];
      after = xs;
      parts = ap (λ z. z ∷ xs) (same_Some y x found);
      others = All-nil (λ z. p z ≡ false);
      is = subst (λ z. p z ≡ true) (same_Some y x found) passes;
    }
    at false fails found go =
        let later = go found in
        record {
          before = y ∷ later.before;
          after = later.after;
          parts = ap (λ zs. y ∷ zs) later.parts;
          others = All-cons (λ z. p z ≡ false) y later.before fails later.others;
          is = later.is;
        }

-- where none is found none passes
pub find_none : {X : Type 0} (p : X → Bool) (xs : List X) → find p xs ≡ None → (x : X)
    → Contains xs x → p x ≡ true → ⊥
find_none p [] is x has passes = Contains-nothing x has
find_none p (y ∷ xs) is x has passes =
    at (p y) refl is (λ found later. find_none p xs found x later passes)
  where
    at : (b : Bool) → p y ≡ b → cond b (Some y) (find p xs) ≡ None
        → (find p xs ≡ None → Contains xs x → ⊥) → ⊥
    at true here found go = none-some y (sym found)
    at false fails found go =
        ⊎_elim
        (λ same. false≢true (sym fails ∙ ap p same ∙ passes))
        (go found)
        (Contains-cons_cases y xs x has)

-- ---- paths of records

-- the first record whose path a text is within has the first such path
pub root_told : (rows : List Registration) (text : List ℕ) (found : Option Registration)
    → found ≡ find (λ (r : Registration). is_within r.path text) rows
    → option_map (λ (r : Registration). r.path) found ≡ root_of rows text
root_told rows text found is =
    ap (option_map (λ (r : Registration). r.path)) is
    ∙ sym (find_mapped (λ (p : List ℕ). is_within p text) (λ (r : Registration). r.path) rows)

-- the record that is found has the path that the text is
pub path_told : (rows : List Registration) (text : List ℕ) (row : Registration)
    → find (λ (r : Registration). same_bytes r.path text) rows ≡ Some row
    → (row.path ≡ text) × IsValid rows row.path
path_told rows text row found =
    let first = find_first (λ (r : Registration). same_bytes r.path text) rows row found in
    let has : Contains rows row =
    subst (λ rs. Contains rs row) (sym first.parts) (Contains-middle first.before first.after row) in
    (equal_from_eq row.path text first.is, Contains-map (λ (r : Registration). r.path) rows row has)

-- where no record is found, the text is no path of one
pub path_missing : (rows : List Registration) (text : List ℕ)
    → find (λ (r : Registration). same_bytes r.path text) rows ≡ None
    → IsNotValid rows text
path_missing rows text none valid =
    let at = Contains-from_map (λ (r : Registration). r.path) rows text valid in
    find_none (λ (r : Registration). same_bytes r.path text) rows none at.0 at.1
    (subst (λ t. same_bytes at.0.path t ≡ true) at.2 (nat_list_eq_equiv.refl at.0.path))

-- the path that a text names is one of a record
pub root_valid : (rows : List Registration) (text root : List ℕ) → root_of rows text ≡ Some root
    → IsValid rows root
root_valid rows text root is =
    let first = find_first (λ (path : List ℕ). is_within path text) (paths_registered rows) root is in
    subst (λ ps. Contains ps root) (sym first.parts)
    (Contains-middle first.before first.after root)
