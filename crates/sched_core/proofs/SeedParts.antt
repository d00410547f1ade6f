-- The parts of a derivation's seeds: its sources, and the outputs that it uses of each input.
use Rattle.std.proofs.Common.{◌≡◌, ◌∙◌, ◌↔◌, ◌⊎◌, ⊎_elim, ℕ, ◌+◌, ◌<◌, ◌≤◌, Bool, true, false, List, [], ◌∷◌, ◌++◌, length, map, filter, flat_map, take, get_or, append_assoc, Option, Some, None, IfSome, IsTrue, refl, sym, ap, subst, arith, rules}
use Rattle.std.specs.Prelude.{All, Contains, cond, find, slice_get}
use Rattle.std.specs.List.{list_any, position_or_len}
use Rattle.std.specs.Cmp.Lexicographic.{nat_list_eq_equiv}
use Rattle.std.specs.Option.{option_map}
use Rattle.std.proofs.lemmas.Bool.{false≢true}
use Rattle.std.proofs.lemmas.Grind.{flat_map-append}
use Rattle.std.proofs.lemmas.List.{append-nil, length-map, map-append, take_all, take_more}
use Rattle.std.proofs.lemmas.List.Elements.{All-contains, filter-append}
use Rattle.std.proofs.lemmas.Map.Views.{Contains-from_any, list_any-from_Contains}
use Rattle.std.proofs.lemmas.Option.{get_or_from_slice_get, slice_get-get_or, slice_get-map, slice_get_read, slice_get_within}
use Rattle.nix_names.specs.Names.{same_bytes}
use Rattle.nix_names.proofs.RisingLists.{equal_from_eq}
use Rattle.nix_drv.specs.Derivation.{Drv, Input, Output}
use Rattle.nix_drv.specs.Parts.{output_of}
use Rattle.nix_drv.specs.declared.derivation.Output.{Output as OutputStruct}
use Rattle.drv_graph.specs.Loading.{AreDistinct}
use Rattle.drv_graph.specs.Nodes.{Node, inputs_of, paths_of}
use Rattle.drv_graph.specs.Plans.{AreNumbers}
use Rattle.drv_graph.specs.PlanNodes.{drvs_of, output_paths_of}
use Rattle.drv_graph.proofs.Numbers.{numbers_length}
use Rattle.build_outcome.specs.Jobs.{named_outputs, paths_named, paths_of_found, seeds_of}
use Rattle.run_states.proofs.PlanInputs.{numbers_are}
use Rattle.run_report.proofs.PlanDrvs.{drv_is}
use Rattle.run_states.proofs.Seeds.{found_by_number}
use Rattle.nix_names.proofs.Lists.{Contains-from_get, element_at}

-- ---- elements by their indices

pub read_at : {X : Type 0} (xs : List X) (n : ℕ) (x : X) → n < length xs → x ≡ get_or xs n x
    → slice_get xs n ≡ Some x
read_at xs n x low is = slice_get_read _ _ n x refl low is

pub take_next : {X : Type 0} (xs : List X) (n : ℕ) (x : X) → slice_get xs n ≡ Some x
    → take (n + 1) xs ≡ take n xs ++ x ∷ []
take_next xs n x at =
    take_more _ n x (slice_get_within xs n x at)
    ∙ ap (λ y. take n xs ++ y ∷ []) (get_or_from_slice_get _ n x x at)

-- one path more of a list was added
pub added_more : (old seeds paths : List (List ℕ)) (n : ℕ) (path copy : List ℕ) → n < length paths
    → path ≡ get_or paths n path
    → seeds ≡ old ++ take n paths → copy ≡ path → seeds ++ copy ∷ [] ≡ old ++ take (n + 1) paths
added_more old seeds paths n path copy low is before same =
    search (rules, append_assoc, take_next, read_at)

-- ---- the outputs that are used of an input

-- whether a name is among some, as a search tells it
told_named : (told : Bool) (names : List (List ℕ)) (name : List ℕ) → IsTrue told
    ↔ Contains names name → list_any (same_bytes name) names ≡ told
told_named true names name (there, back) = list_any-from_Contains nat_list_eq_equiv _ _ (there refl)
told_named false names name (there, back) = by (list_any (same_bytes name) names) refl
  where
    by : (b : Bool) → list_any (same_bytes name) names ≡ b → b ≡ false
    by true is = absurd (false≢true (back (Contains-from_any equal_from_eq _ _ is)))
    by false is = refl

-- the paths of those of the first n outputs that have one of the names
abbrev pub first_named : (names : List (List ℕ)) → List Output → ℕ → List (List ℕ)
first_named names outputs n = map (λ (o : Output). o.path)
    (filter (λ (o : Output). list_any (same_bytes o.name) names) (take n outputs))

pub first_more : (names : List (List ℕ)) (outputs : List Output) (n : ℕ) (output : Output)
    (told : Bool) → slice_get outputs n ≡ Some output → list_any (same_bytes output.name) names
    ≡ told
    → first_named names outputs (n + 1) ≡ first_named names outputs n
    ++ map (λ (o : Output). o.path) (cond told (output ∷ []) [])
first_more names outputs n output told at is =
    let test = λ (o : Output). list_any (same_bytes o.name) names in
    let path = λ (o : Output). o.path in
    ap (λ l. map path (filter test l)) (take_next _ n _ at)
    ∙ ap (map path) (filter-append test _ _
    ∙ ap (λ b. filter test (take n outputs) ++ cond b (output ∷ []) []) is)
    ∙ map-append path (filter test (take n outputs)) (cond told (output ∷ []) [])

pub output_at : (outs : List OutputStruct) (used : Drv) (n : ℕ) (output : OutputStruct)
    → map output_of outs ≡ used.outputs → slice_get outs n ≡ Some output → slice_get used.outputs n
    ≡ Some (output_of output)
output_at outs used n output view at = search (rules, slice_get-map)

pub path_at : (paths : List (List ℕ)) (used : Drv) (n : ℕ) (path : List ℕ) (output : Output) → paths
    ≡ output_paths_of used → slice_get paths n ≡ Some path → slice_get used.outputs n ≡ Some output
    → path ≡ output.path
path_at paths used n path output are at is = search (rules, slice_get-map)

pub at_input : (inputs : List Input) (index : ℕ) (input : Input) (told : Bool) (name : List ℕ)
    → slice_get inputs index ≡ Some input
    → IfSome (slice_get inputs index) (λ used. IsTrue told ↔ Contains used.names name)
    → list_any (same_bytes name) input.names ≡ told
at_input inputs index input told name at told_is =
    told_named _ _ _
    (subst (λ (o : Option Input). IfSome o (λ used. IsTrue told ↔ Contains used.names name)) at
    told_is)

-- What was added of an input's outputs so far.
abbrev pub AddsFirst : (inputs : List Input) → (index : ℕ) → Drv → (old new : List (List ℕ))
    → (n : ℕ) → Type 0
AddsFirst inputs index used old new n = (input : Input) → slice_get inputs index ≡ Some input → new
    ≡ old ++ first_named input.names used.outputs n

pub adds_none : (inputs : List Input) (index : ℕ) (used : Drv) (old : List (List ℕ))
    → AddsFirst inputs index used old old 0
adds_none inputs index used old input at = sym (append-nil old)

-- an output is used
pub adds_used : (inputs : List Input) (index : ℕ) (used : Drv) (old seeds paths : List (List ℕ))
    (outs : List OutputStruct) (n : ℕ) (output : OutputStruct) (path copy : List ℕ) (told : Bool)
    → map output_of outs ≡ used.outputs → paths ≡ output_paths_of used → slice_get outs n
    ≡ Some output → slice_get paths n ≡ Some path → copy ≡ path
    → IfSome (slice_get inputs index) (λ used. IsTrue told ↔ Contains used.names output.name.items)
    → told ≡ true
    → AddsFirst inputs index used old seeds n
    → AddsFirst inputs index used old (seeds ++ copy ∷ []) (n + 1)
adds_used inputs index used old seeds paths outs n output path copy told view are at at_path same
    told_is is_used before input at_index =
    let there = output_at _ used n _ view at in
    let named = at_input inputs index _ _ _ at_index told_is ∙ is_used in
    let its : copy ≡ output.path.items = same
    ∙ path_at _ used n _ _ are at_path there in
    ap (λ l. l ++ copy ∷ []) (before input at_index)
    ∙ append_assoc old (first_named input.names used.outputs n) (copy ∷ [])
    ∙ ap (λ p. old ++ (first_named input.names used.outputs n ++ p ∷ [])) its
    ∙ ap (λ l. old ++ l)
    (sym (first_more _ _ n _ _ there named))

-- an output isn't used
pub adds_unused : (inputs : List Input) (index : ℕ) (used : Drv) (old seeds : List (List ℕ))
    (outs : List OutputStruct) (n : ℕ) (output : OutputStruct) (told : Bool)
    → map output_of outs ≡ used.outputs → slice_get outs n ≡ Some output
    → IfSome (slice_get inputs index) (λ used. IsTrue told ↔ Contains used.names output.name.items)
    → told ≡ false
    → AddsFirst inputs index used old seeds n → AddsFirst inputs index used old seeds (n + 1)
adds_unused inputs index used old seeds outs n output told view at told_is is_unused before input
    at_index =
    let there = output_at outs used n output view at in
    let named = at_input inputs index input told output.name.items at_index told_is ∙ is_unused in
    before input at_index
    ∙ ap (λ l. old ++ l)
    (sym (first_more _ _ n _ _ there named
    ∙ append-nil (first_named input.names used.outputs n)))

-- there is an output for each path
pub outputs_count : (used : Drv) (paths : List (List ℕ)) (outs : List OutputStruct)
    → map output_of outs ≡ used.outputs → paths ≡ output_paths_of used → length paths ≡ length outs
outputs_count used paths outs view are = search (rules, length-map)

pub paths_count_is : (used : Drv) (paths : List (List ℕ)) → paths ≡ output_paths_of used
    → length paths ≡ length used.outputs
paths_count_is used paths are = search (rules, length-map)

-- an output is used or not
pub output_seen : (inputs : List Input) (index : ℕ) (used : Drv)
    (old seeds new paths : List (List ℕ)) (outs : List OutputStruct) (n : ℕ) (output : OutputStruct)
    (text : List ℕ) (told : Bool)
    → map output_of outs ≡ used.outputs → paths ≡ output_paths_of used → n < length paths → output
    ≡ get_or outs n output → text ≡ output.name.items
    → IfSome (slice_get inputs index) (λ used. IsTrue told ↔ Contains used.names text)
    → ((told ≡ true) × (new ≡ seeds ++ get_or paths n [] ∷ [])) ⊎ ((told ≡ false) × (new ≡ seeds))
    → AddsFirst inputs index used old seeds n → AddsFirst inputs index used old new (n + 1)
output_seen inputs index used old seeds new paths outs n output text told view are low is_output
    is_text told_is either before =
    let below : n < length outs = omega (arith, low, outputs_count used _ _ view are) in
    let at : slice_get outs n ≡ Some output = read_at _ n _ below is_output in
    let named = subst (λ t. IfSome (slice_get inputs index)
    (λ used. IsTrue told ↔ Contains used.names t)) is_text told_is in
    ⊎_elim
    (λ yes_used. subst (λ l. AddsFirst inputs index used old l (n + 1)) (sym yes_used.1)
    (adds_used inputs index used _ _ _ _ n _ _
    _ _ view are at (slice_get-get_or _ n [] low) refl named yes_used.0
    before))
    (λ unused. subst (λ l. AddsFirst inputs index used old l (n + 1)) (sym unused.1)
    (adds_unused inputs index used _ _ _ n _ _ view at named unused.0 before))
    either

-- all outputs were seen
pub adds_all : (inputs : List Input) (index : ℕ) (used : Drv) (old new : List (List ℕ)) (n : ℕ)
    → length used.outputs ≤ n → AddsFirst inputs index used old new n
    → (input : Input) → slice_get inputs index ≡ Some input → new ≡ old
    ++ paths_named input.names used
adds_all inputs index used old new n all adds input at = search (rules, filter, take_all)

-- ---- the inputs

-- an input is found at its number
pub found_input : (nodes : List Node) (node : Node) (numbers : List ℕ) (index number : ℕ)
    (input : Input) → AreDistinct (paths_of nodes)
    → AreNumbers nodes numbers (inputs_of node.drv) → slice_get numbers index ≡ Some number
    → slice_get node.drv.inputs index ≡ Some input
    → find (λ (n : Node). same_bytes input.path n.path) nodes ≡ slice_get nodes number
found_input nodes node numbers index number input once are at_number at_input_index =
    let index_of = λ (path : List ℕ). position_or_len (same_bytes path) (paths_of nodes) in
    let at_path : slice_get (inputs_of node.drv) index
    ≡ Some input.path = slice_get-map (λ (i : Input). i.path) node.drv.inputs index
    ∙ ap (option_map (λ (i : Input). i.path)) at_input_index in
    let at_index : slice_get numbers index ≡ Some (index_of input.path) =
    ap (λ l. slice_get l index) (numbers_are _ _ _ once are)
    ∙ slice_get-map index_of (inputs_of node.drv) index ∙ ap (option_map index_of) at_path in
    let both : Some number ≡ Some (index_of input.path) = sym at_number ∙ at_index in
    let same : number ≡ index_of input.path = cc in
    found_by_number nodes input.path ∙ ap (slice_get nodes) (sym same)

-- the outputs that are used of an input are those of the derivation with its number
used_named : (nodes : List Node) (node : Node) (numbers : List ℕ) (index number : ℕ) (input : Input)
    (used : Drv) → AreDistinct (paths_of nodes)
    → AreNumbers nodes numbers (inputs_of node.drv) → slice_get numbers index ≡ Some number
    → slice_get node.drv.inputs index ≡ Some input
    → slice_get (drvs_of nodes) number ≡ Some used → named_outputs nodes input
    ≡ paths_named input.names used
used_named nodes node numbers index number input used once are at_number at_input_index at_used =
    ap (paths_of_found input.names)
    (found_input nodes node numbers index number input once are at_number at_input_index)
    ∙ by (slice_get nodes number) refl
  where
    by : (o : Option Node) → slice_get nodes number ≡ o → paths_of_found input.names o
        ≡ paths_named input.names used
    by None is = search (rules, slice_get-map)
    by (Some other) is = search (rules, drv_is)

-- the seeds of the sources and of the first `count` inputs of a node
abbrev pub first_seeds : (nodes : List Node) → Node → (count : ℕ) → List (List ℕ)
first_seeds nodes node count = node.drv.sources
    ++ flat_map (named_outputs nodes) (take count node.drv.inputs)

-- The seeds of the sources and of the first `count` inputs of the derivation with a number.
abbrev pub AreFirstSeeds : (nodes : List Node) → (d : ℕ) → (seeds : List (List ℕ)) → (count : ℕ)
    → Type 0
AreFirstSeeds nodes d seeds count = (node : Node) → slice_get nodes d ≡ Some node → seeds
    ≡ node.drv.sources ++ flat_map (named_outputs nodes) (take count node.drv.inputs)

-- an input's index is one of a number
pub input_within : (nodes : List Node) (d : ℕ) (drv : Drv) (numbers : List ℕ) (index : ℕ) → d
    < length nodes → slice_get (drvs_of nodes) d ≡ Some drv
    → IfSome (slice_get nodes d) (λ node. AreNumbers nodes numbers (inputs_of node.drv)) → index
    < length numbers → index < length drv.inputs
input_within nodes d drv numbers index low is_drv are within =
    let there = element_at _ d low in
    let its : AreNumbers nodes numbers (inputs_of there.0.drv) =
    subst (λ (o : Option Node).
    IfSome o (λ (n : Node). AreNumbers nodes numbers (inputs_of n.drv))) there.1 are in
    let same : drv ≡ there.0.drv = drv_is _ d _ _ there.1 is_drv in
    let inputs : List Input = there.0.drv.inputs in
    let counts : length numbers ≡ length (inputs_of there.0.drv) =
    numbers_length _ _ _ its in
    let size : length drv.inputs ≡ length there.0.drv.inputs =
    ap (λ (x : Drv). length x.inputs) same in
    omega (arith, within, counts, size, length-map there.0.drv.inputs (λ (i : Input). i.path))

-- a number of an input is one of a node
pub number_within : (nodes : List Node) (d : ℕ) (numbers : List ℕ) (index number : ℕ) → d
    < length nodes → All (λ input. input < d) numbers → slice_get numbers index ≡ Some number
    → number < length nodes
number_within nodes d numbers index number low smaller at =
    search (rules, All-contains, Contains-from_get)

-- the seeds with those of one input more
pub input_added : (nodes : List Node) (d : ℕ) (drv used : Drv) (numbers : List ℕ) (index number : ℕ)
    (before after : List (List ℕ)) → AreDistinct (paths_of nodes)
    → slice_get (drvs_of nodes) d ≡ Some drv → IfSome (slice_get nodes d)
    (λ node. AreNumbers nodes numbers (inputs_of node.drv)) → slice_get numbers index
    ≡ Some number
    → slice_get (drvs_of nodes) number ≡ Some used → index < length drv.inputs
    → ((input : Input) → slice_get drv.inputs index ≡ Some input → after ≡ before
    ++ paths_named input.names used)
    → AreFirstSeeds nodes d before index → AreFirstSeeds nodes d after (index + 1)
input_added nodes d drv used numbers index number before after once is_drv are at_number at_used
    within adds first node at =
    let its : AreNumbers nodes numbers (inputs_of node.drv) =
    subst (λ (o : Option Node).
    IfSome o (λ (n : Node). AreNumbers nodes numbers (inputs_of n.drv))) at are in
    let same : drv ≡ node.drv = drv_is _ d _ _ at is_drv in
    let there = element_at _ _ within in
    let input : Input = there.0 in
    let at_input_index : slice_get node.drv.inputs index
    ≡ Some there.0 = ap (λ (x : Drv). slice_get x.inputs index) (sym same) ∙ there.1 in
    let named = used_named _ node _ _ _ _ _ once its at_number
    at_input_index at_used in
    adds there.0 there.1
    ∙ ap (λ l. l ++ paths_named there.0.names used) (first node at)
    ∙ append_assoc node.drv.sources (flat_map (named_outputs nodes) (take index node.drv.inputs))
    (paths_named there.0.names used)
    ∙ ap (λ l. node.drv.sources
    ++ (flat_map (named_outputs nodes) (take index node.drv.inputs) ++ l))
    (sym named ∙ sym (append-nil (named_outputs nodes there.0)))
    ∙ ap (λ l. node.drv.sources ++ l)
    (sym (ap (flat_map (named_outputs nodes))
    (take_next _ _ _ at_input_index)
    ∙ flat_map-append (named_outputs nodes) _ _))

-- all inputs were seen
pub all_seeds : (nodes : List Node) (d : ℕ) (numbers : List ℕ) (seeds : List (List ℕ)) (count : ℕ)
    → IfSome (slice_get nodes d) (λ node. AreNumbers nodes numbers (inputs_of node.drv))
    → length numbers ≤ count → AreFirstSeeds nodes d seeds count
    → IfSome (slice_get nodes d) (λ node. seeds ≡ seeds_of nodes node.drv)
all_seeds nodes d numbers seeds count are all first = by (slice_get nodes d) refl are
  where
    by : (o : Option Node) → slice_get nodes d ≡ o
        → IfSome o (λ node. AreNumbers nodes numbers (inputs_of node.drv))
        → IfSome o (λ node. seeds ≡ seeds_of nodes node.drv)
    by None is its = tt
    by (Some node) is its =
        let counts : length numbers ≡ length (inputs_of node.drv) =
        numbers_length _ _ _ its in
        first node is
        ∙ ap (λ l. node.drv.sources ++ flat_map (named_outputs nodes) l)
        (take_all count node.drv.inputs
        (omega (arith, all, counts, length-map node.drv.inputs (λ (i : Input). i.path))))
