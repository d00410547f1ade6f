-- Keys that rise strictly: the texts that they stand for do.
use Rattle.std.proofs.Common.{◌≡◌, ◌⊎◌, ◌<◌, ◌≤◌, ◌+◌, ℕ, List, [], ◌∷◌, ◌++◌, All, Some, ap, ap₂, arith, drop, get_or, inl, inr, is_some, length, nat_eq, refl, subst, suc, sym, take, true, zero, ◌∙◌, rules}
use Rattle.std.specs.Cmp.Lexicographic.{pointwise, slice_cmp}
use Rattle.std.specs.Int.{from_be_bytes, w64}
use Rattle.std.specs.List.{AllByRecursion, slice_get}
use Rattle.std.specs.List.Sorted.{IsPermutation}
use Rattle.std.specs.Map.{keys_of}
use Rattle.std.specs.Ordering.{nat_cmp}
use Rattle.std.specs.declared.cmp.Ordering.TheVariants.{Less}
use Rattle.std.proofs.lemmas.Bool.{false≢true}
use Rattle.std.proofs.lemmas.List.{append_assoc, drop_all, drop_more, get_or-map, length-map, take-append-drop}
use Rattle.std.proofs.lemmas.List.Elements.{All-append, recursion_from_All}
use Rattle.std.proofs.lemmas.List.Sorted.{All-permutation}
use Rattle.std.proofs.lemmas.Option.{get_or_from_slice_get}
use Rattle.nix_names.specs.Rising.{IsRising}
use Rattle.nix_names.proofs.Keys.{bytes_less, eight_spelt, same_front}
use Rattle.nix_names.proofs.RisingLists.{equal_from_eq}
use Rattle.valid_table.specs.private.Closing.{path_at, paths_at}
use Rattle.valid_table.specs.private.FirstRows.{AreFirst, rows_of_keyed}
use Rattle.valid_table.specs.private.Keys.{AreKeyed, IsKey, KeysRiseAbove, folder_of, folder_part}
use Rattle.valid_table.specs.PathInfos.{PathInfo}
use Rattle.valid_table.specs.Tables.{registrations_of}
use Rattle.valid_table.specs.declared.entry.Registration.{Registration}
use Rattle.valid_table.proofs.FirstRows.{first_below}
use Rattle.valid_table.proofs.Linking.{path_stays}
use Rattle.valid_table.proofs.RowNumbers.{paths_are_keys, row_count}

-- ---- texts after one folder compare as their keys do

lesser_key : (folder text other : List ℕ) (k l : ℕ) → IsKey folder text k → IsKey folder other l
    → k < l → slice_cmp nat_cmp text other ≡ Less
lesser_key folder text other k l of_k of_l less =
    search (
      rules,
      ap₂,
      append_assoc,
      folder,
      same_front,
      bytes_less,
      recursion_from_All,
      eight_spelt,
    )

-- a key above a bound isn't 0
is_key : (folder text : List ℕ) (key bound : ℕ) → (key ≡ 0) ⊎ (IsKey folder text key)
    → bound < key → IsKey folder text key
is_key folder text key bound (inl none) above = search rules
is_key folder text key bound (inr is) above = is

rising_by : (registrations : List Registration) (folder : List ℕ) (bound : ℕ)
    (keyed : List (ℕ × ℕ)) → AllByRecursion
    (λ (k : ℕ × ℕ). (k.0 ≡ 0) ⊎ (IsKey folder (path_at registrations k.1) k.0)) keyed
    → KeysRiseAbove bound keyed → IsRising (paths_at registrations (rows_of_keyed keyed))
rising_by registrations folder bound [] keys rise = tt
rising_by registrations folder bound (k ∷ []) keys rise = tt
rising_by registrations folder bound (k ∷ l ∷ keyed) keys rise = (
  lesser_key _ _ _ _ _
      (is_key _ _ _ _ keys.0 rise.0)
      (is_key _ _ _ _ keys.1.0 rise.1.0) rise.1.0,
  rising_by registrations folder k.0 (l ∷ keyed) keys.1 rise.1,
)

pub paths_rise : (registrations : List Registration) (keyed : List (ℕ × ℕ))
    → AreKeyed registrations keyed → KeysRiseAbove 0 keyed
    → IsRising (paths_at registrations (rows_of_keyed keyed))
paths_rise registrations keyed keys rise =
    rising_by _ _ 0 _
    (recursion_from_All
    (λ (k : ℕ × ℕ). (k.0 ≡ 0) ⊎ (IsKey (folder_of registrations) (path_at registrations k.1) k.0))
    _ keys)
    rise

-- ---- the rows of a table after their keys

pub none_keyed : (registrations : List Registration) (keyed : List (ℕ × ℕ)) → keyed ≡ []
    → AreKeyed registrations keyed
none_keyed registrations keyed none i d below = search rules

pub keyed_moved : (registrations : List Registration) (keyed moved : List (ℕ × ℕ))
    → IsPermutation keyed moved → AreKeyed registrations keyed → AreKeyed registrations moved
keyed_moved registrations keyed moved is keys = search (rules, All-permutation)

-- one more row after its key
pub one_more_keyed : (registrations : List Registration) (key row : ℕ) (path folder : List ℕ)
    (keyed more : List (ℕ × ℕ)) → AreKeyed registrations keyed → folder ≡ folder_of registrations
    → path ≡ path_at registrations row → (key ≡ 0) ⊎ (IsKey folder path key)
    → more ≡ keyed ++ (key, row) ∷ [] → AreKeyed registrations more
one_more_keyed registrations key row path folder keyed more keys of_folder of_path is pushed =
    rw pushed (All-append P _ _ keys one)
  where
    P : ℕ × ℕ → Type 0
    P k = (k.0 ≡ 0) ⊎ (IsKey (folder_of registrations) (path_at registrations k.1) k.0)

    here : P (key, row)
    here = search rules

    one : All P ((key, row) ∷ [])
    one zero d below = here
    one (suc i) d below = absurd (omega (arith, below))

-- the folder is that of the first path
folder_stays : (registrations added : List Registration) (row : ℕ) → row < length registrations
    → folder_of (registrations ++ added) ≡ folder_of registrations
folder_stays [] added row below = absurd (omega (arith, below))
folder_stays (r ∷ registrations) added row below = refl

-- what is registered later changes neither a row's path nor the folder
keyed_with_more : (registrations added : List Registration) (keyed : List (ℕ × ℕ))
    → AreFirst (length registrations) (rows_of_keyed keyed) → AreKeyed registrations keyed
    → AreKeyed (registrations ++ added) keyed
keyed_with_more registrations added keyed first keys i d below = rw (folder, path) (keys i d below)
  where
    row : ℕ
    row = (get_or keyed i d).1

    within : row < length registrations
    within =
        let at : get_or (rows_of_keyed keyed) i 0 ≡ row =
        get_or-map (λ (k : ℕ × ℕ). k.1) _ i d 0 below in
        subst (λ r. r < length registrations) at
        (first_below _ _ first i 0
        (omega (arith, below, length-map keyed (λ (k : ℕ × ℕ). k.1))))

    path : path_at (registrations ++ added) row ≡ path_at registrations row
    path = path_stays _ _ _ within

    folder : folder_of (registrations ++ added) ≡ folder_of registrations
    folder = folder_stays _ _ _ within

pub keyed_of_more : (rows : List (List ℕ × PathInfo)) (added : List Registration)
    (keyed : List (ℕ × ℕ)) → AreFirst (length rows) (rows_of_keyed keyed)
    → AreKeyed (registrations_of rows) keyed → AreKeyed (registrations_of rows ++ added) keyed
keyed_of_more rows added keyed first keys = search (rules, keyed_with_more, row_count)

-- the path of a row, as it was looked up
pub path_looked_up : (rows : List (List ℕ × PathInfo)) (keys : List (List ℕ)) (row : ℕ)
    (path : List ℕ) → keys ≡ keys_of rows → slice_get keys row ≡ Some path
    → path ≡ path_at (registrations_of rows) row
path_looked_up rows keys row path are at =
    search (rules, get_or_from_slice_get, row, path, paths_are_keys)

-- ---- how a key is read

-- the first eight bytes
abbrev pub eight : List ℕ → List ℕ
eight found = get_or found 0 0 ∷ get_or found 1 0 ∷ get_or found 2 0 ∷ get_or found 3 0
    ∷ get_or found 4 0 ∷ get_or found 5 0 ∷ get_or found 6 0 ∷ get_or found 7 0 ∷ []

pub key_read : (folder text found : List ℕ) (key : ℕ)
    → pointwise nat_eq (take (length folder) text) folder ≡ true
    → found ≡ drop (length folder) text → 8 ≤ length found
    → All (λ b. b < 256) (eight found) → key ≡ from_be_bytes w64 found
    → IsKey folder text key
key_read folder text [] key prefix is long small number = absurd (omega (arith, long))
key_read folder text (a ∷ []) key prefix is long small number = absurd (omega (arith, long))
key_read folder text (a ∷ b ∷ []) key prefix is long small number = absurd (omega (arith, long))
key_read folder text (a ∷ b ∷ c ∷ []) key prefix is long small number = absurd (omega (arith, long))
key_read folder text (a ∷ b ∷ c ∷ d ∷ []) key prefix is long small number =
    absurd (omega (arith, long))
key_read folder text (a ∷ b ∷ c ∷ d ∷ e ∷ []) key prefix is long small number =
    absurd (omega (arith, long))
key_read folder text (a ∷ b ∷ c ∷ d ∷ e ∷ f ∷ []) key prefix is long small number =
    absurd (omega (arith, long))
key_read folder text (a ∷ b ∷ c ∷ d ∷ e ∷ f ∷ g ∷ []) key prefix is long small number =
    absurd (omega (arith, long))
key_read folder text (a ∷ b ∷ c ∷ d ∷ e ∷ f ∷ g ∷ h ∷ rest) key prefix is long small number =
    record {
      bytes = a ∷ b ∷ c ∷ d ∷ e ∷ f ∷ g ∷ h ∷ [];
      rest = rest;
      parts = sym (take-append-drop (length folder) text)
          ∙ ap (λ l. l ++ drop (length folder) text) (equal_from_eq _ _ prefix)
          ∙ ap (λ l. folder ++ l) (sym is)
          ∙ sym (append_assoc folder (a ∷ b ∷ c ∷ d ∷ e ∷ f ∷ g ∷ h ∷ []) rest);
      eight = refl;
      small = small;
      number = number;
    }

-- the first row has the first path
pub first_row_folder : (rows : List (List ℕ × PathInfo)) (path : List ℕ) (info : PathInfo)
    → Some (path, info) ≡ slice_get rows 0
    → folder_part path ≡ folder_of (registrations_of rows)
first_row_folder [] path info is = absurd (false≢true (sym (ap is_some is)))
first_row_folder (row ∷ rows) path info is = search (rules, row)

-- ---- one more key is looked at

pub keys_go_on : (keyed : List (ℕ × ℕ)) (i last : ℕ) (all : Type 0) → i < length keyed
    → (KeysRiseAbove last (drop i keyed) → all) → last < (get_or keyed i (0, 0)).0
    → KeysRiseAbove (get_or keyed i (0, 0)).0 (drop (i + 1) keyed) → all
keys_go_on keyed i last all below before above rest = search (rules, drop_more)

pub keys_at_end : (keyed : List (ℕ × ℕ)) (i last : ℕ) → length keyed ≤ i
    → KeysRiseAbove last (drop i keyed)
keys_at_end keyed i last past = search (rules, drop_all)
