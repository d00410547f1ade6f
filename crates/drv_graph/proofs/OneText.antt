-- There is one modulo text, one kind, one expected path, and one list of modulo hashes.
use Rattle.std.proofs.Common.{◌≡◌, ◌↔◌, ◌⊎◌, ℕ, true, List, [], ◌∷◌, ◌++◌, inl, inr, refl, sym, ap, subst, ◌∙◌, rules}
use Rattle.std.specs.Prelude.{All, Contains, codes, if◌then◌else◌}
use Rattle.std.proofs.lemmas.List.Elements.{All-head, All-tail}
use Rattle.sha2.specs.Sha256.{sha256}
use Rattle.nix_names.specs.Rising.{IsRising}
use Rattle.nix_names.specs.StorePaths.{store_path}
use Rattle.nix_names.proofs.RisingLists.{first_below, not_below_itself, rising_later, rising_same}
use Rattle.nix_drv.specs.Derivation.{Drv, Input, Output, drv_value}
use Rattle.nix_drv.specs.Grammar.{text}
use Rattle.drv_graph.specs.Expected.{IsExpected, path_name}
use Rattle.drv_graph.specs.Modulo.{HasOneModuloText, IsNamed, IsUnited, masked, with_inputs}
use Rattle.drv_graph.specs.private.Uniting.{input_paths}
use Rattle.drv_graph.specs.declared.kinds.Kind.{Kind}
use Rattle.drv_graph.specs.declared.kinds.Kind.TheVariants.{Addressed, Fixed}
use Rattle.nix_names.proofs.Lists.{Contains-cons_cases, Contains-first, Contains-later, Contains-map}

-- ---- names that inputs have at a path

pub named_first : (x : Input) (xs : List Input) (name : List ℕ) → Contains x.names name
    → IsNamed (x ∷ xs) x.path name
named_first x xs name has = search (rules, Contains-first)

pub named_later : (x : Input) (xs : List Input) (path name : List ℕ) → IsNamed xs path name
    → IsNamed (x ∷ xs) path name
named_later x xs path name h = search (rules, Contains-later)

pub named_cases : (x : Input) (xs : List Input) (path name : List ℕ) → IsNamed (x ∷ xs) path name
    → ((x.path ≡ path) × Contains x.names name) ⊎ IsNamed xs path name
named_cases x xs path name h = search (rules, Contains-cons_cases)

pub path_of_named : (xs : List Input) (path name : List ℕ) → IsNamed xs path name
    → Contains (input_paths xs) path
path_of_named xs path name h =
    subst (λ (p : List ℕ). Contains (input_paths xs) p) h.is_path
    (Contains-map (λ (i : Input). i.path) _ _ h.is_input)

-- ---- one modulo text

input_same : (x y : Input) → x.path ≡ y.path → x.names ≡ y.names → x ≡ y
input_same x y path names = search rules

-- inputs with rising paths and names are told by what is named
united_same : (xs ys : List Input) → IsRising (input_paths xs) → IsRising (input_paths ys)
    → input_paths xs ≡ input_paths ys
    → All (λ (i : Input). IsRising i.names) xs → All (λ (i : Input). IsRising i.names) ys
    → ((path name : List ℕ) → IsNamed xs path name ↔ IsNamed ys path name) → xs ≡ ys
united_same [] [] rise rise' same names names' named = refl
united_same [] (y ∷ ys) rise rise' same names names' named = absurd cc
united_same (x ∷ xs) [] rise rise' same names names' named = absurd cc
united_same (x ∷ xs) (y ∷ ys) rise rise' same names names' named =
    let path : x.path ≡ y.path = cc in
    let paths : input_paths xs ≡ input_paths ys = cc in
    let first : x ≡ y = input_same x y path
    (rising_same _ _ (All-head (λ (i : Input). IsRising i.names) x _ names)
    (All-head (λ (i : Input). IsRising i.names) y _ names')
    (λ name. (there path name, back path name))) in
    let rest : xs ≡ ys = united_same _ _ (rising_later _ _ rise)
    (rising_later _ _ rise') paths
    (All-tail (λ (i : Input). IsRising i.names) x _ names)
    (All-tail (λ (i : Input). IsRising i.names) y _ names')
    (λ p name. (there_later path p name, back_later path p name)) in
    ap (λ (i : Input). i ∷ xs) first ∙ ap (λ (is : List Input). y ∷ is) rest
  where
    apart : (name : List ℕ) → IsNamed xs x.path name → ⊥
    apart name h =
        not_below_itself x.path
        (first_below x.path (input_paths xs) _ rise (path_of_named _ _ _ h))

    apart' : (name : List ℕ) → IsNamed ys y.path name → ⊥
    apart' name h =
        not_below_itself y.path
        (first_below y.path (input_paths ys) _ rise' (path_of_named _ _ _ h))

    there : x.path ≡ y.path → (name : List ℕ) → Contains x.names name → Contains y.names name
    there path name has =
        elim (named_cases y _ _ _ ((named x.path name).0 (named_first x _ _ has))) [
          | inl at ↦ at.1
          | inr later ↦ absurd (apart' name (subst (λ (p : List ℕ). IsNamed ys p name) path later))
        ]

    back : x.path ≡ y.path → (name : List ℕ) → Contains y.names name → Contains x.names name
    back path name has =
        elim (named_cases x _ _ _ ((named y.path name).1 (named_first y _ _ has))) [
          | inl at ↦ at.1
          | inr later ↦ absurd
              (apart name (subst (λ (p : List ℕ). IsNamed xs p name) (sym path) later))
        ]

    there_later : x.path ≡ y.path → (p name : List ℕ) → IsNamed xs p name → IsNamed ys p name
    there_later path p name h =
        elim (named_cases y _ p _ ((named p name).0 (named_later x _ p _ h))) [
          | inl at ↦ absurd
              (apart name (subst (λ (q : List ℕ). IsNamed xs q name) (sym (path ∙ at.0)) h))
          | inr later ↦ later
        ]

    back_later : x.path ≡ y.path → (p name : List ℕ) → IsNamed ys p name → IsNamed xs p name
    back_later path p name h =
        elim (named_cases x _ p _ ((named p name).1 (named_later y _ p _ h))) [
          | inl at ↦ absurd
              (apart' name (subst (λ (q : List ℕ). IsNamed ys q name) (sym (sym path ∙ at.0)) h))
          | inr later ↦ later
        ]

-- inputs are united in one way
one_union : (given xs ys : List Input) → IsUnited given xs → IsUnited given ys → xs ≡ ys
one_union given xs ys united united' =
    let paths : input_paths xs ≡ input_paths ys =
    rising_same _ _ united.rising united'.rising
    (λ path. (
      λ has. (united'.paths path).1 ((united.paths path).0 has),
      λ has. (united.paths path).1 ((united'.paths path).0 has),
    )) in
    united_same _ _ united.rising united'.rising paths united.names_rise united'.names_rise
    (λ path name. (
      λ h. (united'.names path name).1 ((united.names path name).0 h),
      λ h. (united.names path name).1 ((united'.names path name).0 h),
    ))

pub one_text : HasOneModuloText
one_text drv hashes mask a b is_a is_b =
    is_a.is_text
    ∙ ap (λ (inputs : List Input). text _
    (drv_value (with_inputs (if mask then masked drv else drv) inputs)))
    (one_union _ _ _ is_a.united is_b.united)
    ∙ sym is_b.is_text

-- ---- one expected path

pub one_path : (dir name : List ℕ) (kind : Kind) (drv : Drv) (hashes : List (List ℕ))
    (output : Output) (p q : List ℕ)
    → IsExpected dir name kind drv hashes output p → IsExpected dir name kind drv hashes output q
    → p ≡ q
one_path dir name Addressed drv hashes output p q (a, is_a, p_is) (b, is_b, q_is) =
    p_is ∙ ap (λ (bytes : List ℕ). store_path (codes "output:" ++ output.name) (sha256 bytes) dir
    (path_name name output.name)) (one_text drv hashes true a b is_a is_b) ∙ sym q_is
one_path dir name (Fixed method digest) drv hashes output p q p_is q_is = p_is ∙ sym q_is
