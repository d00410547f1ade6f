-- Store folders by the parts between their slashes.
use Rattle.std.proofs.Common.{◌≡◌, ◌≢◌, ◌==◌, ◌≤◌, ℕ, true, false, List, [], ◌∷◌, ◌++◌, length, refl, ap, ◌∙◌, arith, All, rules}
use Rattle.std.specs.List.{list_all, slice_split, onto_first, flat_map}
use Rattle.std.proofs.lemmas.Bool.{and_parts, eqb-true, cases_Bool}
use Rattle.std.proofs.lemmas.List.Splits.{slice_split_at, slice_split_none, slice_split-cons_yes, slice_split-cons_no, length-slice_split}
use Rattle.std.proofs.lemmas.List.Sums.{AllPass-from_list_all, list_all-from_AllPass}
use Rattle.std.proofs.lemmas.List.{append-nil}
use Rattle.nix_names.specs.Names.{IsStoreDir, is_component}
use Rattle.nix_names.proofs.PathBytes.{no_slash_in_name}

-- the parts are not none
some_parts : (parts : List ℕ) → slice_split (λ b. b == 47) parts ≢ []
some_parts parts none =
    absurd (omega (arith, length-slice_split (λ b. b == 47) parts, ap length none))

-- a byte put before the first of some parts is put after the first slash
joined_more : (x : ℕ) (parts : List (List ℕ)) (xs : List ℕ) → parts ≢ [] → 47 ∷ xs
    ≡ flat_map (λ part. 47 ∷ part) parts → 47 ∷ x ∷ xs
    ≡ flat_map (λ part. 47 ∷ part) (onto_first x parts)
joined_more x [] xs some joined = absurd (some refl)
joined_more x (part ∷ parts) xs some joined = search rules

-- the parts between the slashes, each with a slash before it, are the text with a slash before it
joined_parts : (parts : List ℕ) → 47 ∷ parts ≡ flat_map (λ part. 47 ∷ part)
    (slice_split (λ b. b == 47) parts)
joined_parts [] = refl
joined_parts (x ∷ xs) =
    search (rules, cases_Bool, slice_split-cons_yes, eqb-true, slice_split-cons_no, joined_more, some_parts, joined_parts xs)

-- a slash and components are a store folder
pub dir_of_parts : (parts : List ℕ) → length (47 ∷ parts) ≤ 255
    → list_all is_component (slice_split (λ b. b == 47) parts) ≡ true → IsStoreDir (47 ∷ parts)
dir_of_parts parts short each = record {
  components = slice_split (λ b. b == 47) parts;
  some = some_parts parts;
  each = AllPass-from_list_all is_component _ each;
  parts = joined_parts parts;
  short = short;
}

-- no byte of a component is a slash
no_slash_in_component : (part : List ℕ) → is_component part ≡ true
    → All (λ b. (b == 47) ≡ false) part
unfolding is_component
no_slash_in_component part h k d within =
    search (rules, and_parts, no_slash_in_name, AllPass-from_list_all)

-- components with a slash between each two, cut at the slashes
cut_components : (part : List ℕ) (parts : List (List ℕ)) → is_component part ≡ true
    → list_all is_component parts ≡ true → slice_split (λ b. b == 47)
    (part ++ flat_map (λ p. 47 ∷ p) parts) ≡ part ∷ parts
cut_components part [] first rest =
    search (rules, append-nil, slice_split_none, no_slash_in_component)
cut_components part (next ∷ parts) first rest =
    let both = and_parts _ _ rest in
    slice_split_at (λ b. b == 47) part 47 (next ++ flat_map (λ p. 47 ∷ p) parts)
    (no_slash_in_component part first) refl
    ∙ ap (λ ps. part ∷ ps) (cut_components next parts both.0 both.1)

-- what some components, each with a slash before it, are cut into after the first slash
components_cut : (text : List ℕ) (parts : List (List ℕ)) → parts ≢ [] → 47 ∷ text
    ≡ flat_map (λ p. 47 ∷ p) parts → list_all is_component parts ≡ true
    → slice_split (λ b. b == 47) text ≡ parts
components_cut text [] some joined each = absurd (some refl)
components_cut text (part ∷ parts) some joined each = search (rules, and_parts, cut_components)

-- the parts of a store folder after its first slash are components
pub parts_of_dir : (parts : List ℕ) → IsStoreDir (47 ∷ parts)
    → list_all is_component (slice_split (λ b. b == 47) parts) ≡ true
parts_of_dir parts dir = search (rules, list_all-from_AllPass, components_cut)
