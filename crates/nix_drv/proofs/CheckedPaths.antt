-- The references of a text, as they are looked at one after the other.
use Rattle.std.proofs.Common.{◌≡◌, ◌≢◌, ℕ, ◌+◌, ◌<◌, suc, List, [], ◌∷◌, ◌++◌, length, take, drop, map, get_or, Some, None, ◌⊎◌, inl, inr, sym, ap, subst, ◌∙◌, append_assoc, append-nil, arith, All, rules}
use Rattle.std.specs.Global.{Vec}
use Rattle.std.proofs.Math.Seq.{split_at}
use Rattle.std.proofs.lemmas.List.{map-append, take_more}
use Rattle.std.proofs.lemmas.Simd.{map-map}
use Rattle.std.proofs.lemmas.List.Elements.{All-append, All-push}
use Rattle.nix_names.specs.StorePaths.{IsPathOf, path_fault}
use Rattle.nix_names.specs.declared.fault.NameFault.{NameFault}
use Rattle.nix_names.specs.declared.fault.NameFault.TheVariants.{NoMemory}
use Rattle.nix_names.proofs.PathFaults.{no_fault_of_path}
use Rattle.nix_names.proofs.FirstElements.{first_within}
use Rattle.nix_drv.specs.Checked.{IsFirstStray}
use Rattle.nix_drv.specs.Derivation.{Drv}
use Rattle.nix_drv.specs.OwnPath.{referenced_paths}
use Rattle.nix_drv.specs.Parts.{bytes_of, input_of, path_of}
use Rattle.nix_drv.specs.References.{IsStrayFault}
use Rattle.nix_drv.specs.declared.derivation.Input.{Input}
use Rattle.nix_drv.specs.declared.fault.DrvFault.{DrvFault}
use Rattle.nix_drv.specs.declared.fault.DrvFault.TheVariants as fault

-- a text that parsing blames is no path of the folder
pub blamed_is_stray : (dir text : List ℕ) (blame : NameFault) → (path_fault dir text ≡ Some blame)
    ⊎ ((path_fault dir text ≡ None) × (blame ≡ NoMemory)) → blame ≢ NoMemory → IsPathOf dir text → ⊥
blamed_is_stray dir text blame (inl blamed) other path = search (rules, no_fault_of_path)
blamed_is_stray dir text blame (inr refused) other path = other refused.1

-- a stray text alone
pub stray_alone : (dir text spelled : List ℕ) → spelled ≡ text → (IsPathOf dir text → ⊥)
    → IsFirstStray dir (text ∷ []) spelled
stray_alone dir text spelled same stray = record {
  before = [];
  after = [];
  parts = ap (λ (t : List ℕ). t ∷ []) (sym same);
  others = λ k d below. absurd (omega arith);
  is = subst (λ (t : List ℕ). IsPathOf dir t → ⊥) (sym same) stray;
}

-- the first stray text after good ones
pub stray_after : (dir text : List ℕ) (before after : List (List ℕ)) (spelled : List ℕ)
    → All (IsPathOf dir) before → IsFirstStray dir (text ∷ []) spelled
    → IsFirstStray dir (before ++ text ∷ after) spelled
stray_after dir text before after spelled good stray =
    first_within (IsPathOf dir) (λ t. IsPathOf dir t → ⊥) _ _ _ _ good stray

-- what is wrong with one text is what is wrong with all, where those before it are good
pub fault_after : (dir text : List ℕ) (before after : List (List ℕ)) (found : DrvFault)
    → All (IsPathOf dir) before → IsStrayFault dir (text ∷ []) found
    → IsStrayFault dir (before ++ text ∷ after) found
fault_after dir text before after (fault.BadReference spelled) good stray =
    search (rules, stray_after)
fault_after dir text before after fault.NoMemory good stray = tt
fault_after dir text before after (fault.Syntax index) good stray = stray
fault_after dir text before after (fault.Order index) good stray = stray
fault_after dir text before after fault.TooLong good stray = stray
fault_after dir text before after (fault.TextPathMismatch expected) good stray = stray
fault_after dir text before after fault.NotADrvName good stray = stray
fault_after dir text before after fault.NotSorted good stray = stray

-- the first stray text of a list, with more lists round it
stray_within : (dir : List ℕ) (before texts after : List (List ℕ)) (spelled : List ℕ)
    → All (IsPathOf dir) before → IsFirstStray dir texts spelled
    → IsFirstStray dir (before ++ texts ++ after) spelled
stray_within dir before texts after spelled good stray = search (rules, append_assoc, first_within)

-- what is wrong with some texts is what is wrong with all, where those before them are good
pub fault_within : (dir : List ℕ) (before texts after : List (List ℕ)) (found : DrvFault)
    → All (IsPathOf dir) before → IsStrayFault dir texts found
    → IsStrayFault dir (before ++ texts ++ after) found
fault_within dir before texts after (fault.BadReference spelled) good stray =
    search (rules, stray_within)
fault_within dir before texts after fault.NoMemory good stray = tt
fault_within dir before texts after (fault.Syntax index) good stray = stray
fault_within dir before texts after (fault.Order index) good stray = stray
fault_within dir before texts after fault.TooLong good stray = stray
fault_within dir before texts after (fault.TextPathMismatch expected) good stray = stray
fault_within dir before texts after fault.NotADrvName good stray = stray
fault_within dir before texts after fault.NotSorted good stray = stray

items_at : {A : Type 0} (view : A → List ℕ) (items : List A) (i : ℕ) (d : A) → i < length items
    → map view items ≡ map view (take i items) ++ view (get_or items i d)
    ∷ map view (drop (suc i) items)
items_at view items i d below = ap (map view) (split_at items i d below)
    ∙ map-append view (take i items) (get_or items i d ∷ drop (suc i) items)

-- a fault at one item, after right ones, is the fault of all items
pub fault_at : {A : Type 0} (view : A → List ℕ) (dir text : List ℕ) (items : List A) (i : ℕ) (d : A)
    (found : DrvFault) → i < length items → d ≡ get_or items i d → text ≡ view d
    → All (IsPathOf dir) (map view (take i items)) → IsStrayFault dir (text ∷ []) found
    → IsStrayFault dir (map view items) found
fault_at {A} view dir text items i d found below at same good stray =
    let whole : map view items ≡ map view (take i items) ++ text ∷ map view (drop (suc i) items) =
    items_at view _ i d below
    ∙ ap (λ (t : List ℕ). map view (take i items) ++ t ∷ map view (drop (suc i) items))
    (ap view (sym at) ∙ sym same) in
    subst (λ (all : List (List ℕ)). IsStrayFault dir all found) (sym whole)
    (fault_after _ _ _ _ _ good
    stray)

-- one more item
items_more : {A : Type 0} (view : A → List ℕ) (items : List A) (i : ℕ) (d : A) → i < length items
    → d ≡ get_or items i d → map view (take (i + 1) items) ≡ map view (take i items) ++ view d ∷ []
items_more {A} view items i d below at =
    ap (map view) (take_more _ i d below)
    ∙ map-append view (take i items) (get_or items i d ∷ [])
    ∙ ap (λ (v : A). map view (take i items) ++ view v ∷ []) (sym at)

-- one more path of the folder
pub good_more : {A : Type 0} (view : A → List ℕ) (dir text : List ℕ) (items : List A) (i : ℕ)
    (d : A) → i < length items → d ≡ get_or items i d → text ≡ view d
    → All (IsPathOf dir) (map view (take i items)) → IsPathOf dir text
    → All (IsPathOf dir) (map view (take (i + 1) items))
good_more view dir text items i d below at same good here =
    subst (λ (all : List (List ℕ)). All (IsPathOf dir) all)
    (sym (items_more view _ i d below at))
    (All-push (IsPathOf dir) _ _ good
    (subst (λ (t : List ℕ). IsPathOf dir t) same here))

-- the list with one more text
pub added_more : {A : Type 0} (view : A → List ℕ) (prefix refs after : List (List ℕ))
    (text : List ℕ) (items : List A) (i : ℕ) (d : A) → i < length items → d ≡ get_or items i d
    → text ≡ view d → refs ≡ prefix ++ map view (take i items) → after ≡ refs ++ text ∷ []
    → after ≡ prefix ++ map view (take (i + 1) items)
added_more view prefix refs after text items i d below at same before pushed =
    search (rules, append_assoc, items_more)

-- a derivation's paths begin with those of its inputs
inputs_first : (drv : Drv) (inputs : List Input) → map input_of inputs ≡ drv.inputs
    → referenced_paths drv
    ≡ map path_of inputs ++ drv.sources
unfolding referenced_paths
inputs_first drv inputs same = search (rules, map-map)

-- a derivation's paths are those of its inputs, then its sources
pub paths_are : (drv : Drv) (inputs : List Input) (sources : List (Vec ℕ)) → map input_of inputs
    ≡ drv.inputs → map bytes_of sources ≡ drv.sources → referenced_paths drv ≡ map path_of inputs
    ++ map bytes_of sources
paths_are drv inputs sources same_inputs same_sources = search (rules, inputs_first)

-- what is wrong with the inputs' paths is what is wrong with the derivation's
pub inputs_fault : (dir : List ℕ) (drv : Drv) (inputs : List Input) (found : DrvFault)
    → map input_of inputs ≡ drv.inputs → IsStrayFault dir (map path_of inputs) found
    → IsStrayFault dir (referenced_paths drv) found
inputs_fault dir drv inputs found same stray =
    subst (λ (all : List (List ℕ)). IsStrayFault dir all found) (sym (inputs_first _ _ same))
    (fault_within _ [] (map path_of inputs) drv.sources found
    (λ k d below. absurd (omega (arith, below))) stray)

-- what is wrong with the sources is what is wrong with the derivation's paths, where those of the
-- inputs are good
pub sources_fault : (dir : List ℕ) (drv : Drv) (inputs : List Input) (sources : List (Vec ℕ))
    (found : DrvFault) → map input_of inputs ≡ drv.inputs → map bytes_of sources ≡ drv.sources
    → All (IsPathOf dir) (map path_of inputs) → IsStrayFault dir (map bytes_of sources) found
    → IsStrayFault dir (referenced_paths drv) found
sources_fault dir drv inputs sources found same_inputs same_sources good stray =
    subst (λ (all : List (List ℕ)). IsStrayFault dir all found)
    (sym (paths_are _ _ _ same_inputs same_sources
    ∙ sym (append-nil (map path_of inputs ++ map bytes_of sources))))
    (fault_within _ _ _ [] found good stray)

-- all paths are good where those of the inputs and of the sources are
pub all_good : (dir : List ℕ) (drv : Drv) (inputs : List Input) (sources : List (Vec ℕ))
    → map input_of inputs ≡ drv.inputs → map bytes_of sources ≡ drv.sources
    → All (IsPathOf dir) (map path_of inputs) → All (IsPathOf dir) (map bytes_of sources)
    → All (IsPathOf dir) (referenced_paths drv)
all_good dir drv inputs sources same_inputs same_sources good_inputs good_sources =
    subst (λ (all : List (List ℕ)). All (IsPathOf dir) all)
    (sym (paths_are _ _ _ same_inputs same_sources))
    (All-append (IsPathOf dir) _ _ good_inputs good_sources)
