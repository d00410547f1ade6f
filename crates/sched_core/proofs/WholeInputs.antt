-- The inputs of which each output is named, one after the other.
use Rattle.std.proofs.Common.{◌≡◌, ◌∙◌, ◌↔◌, ℕ, ◌+◌, ◌<◌, ◌≤◌, ◌==◌, ◌&&◌, zero, suc, Bool, Contains, eq-eqb, true, false, List, [], ◌∷◌, ◌++◌, Option, Some, None, IfSome, IsTrue, refl, sym, ap, subst, arith, append_assoc, drop, flat_map, get_or, length, map, take, rules}
use Rattle.std.specs.Prelude.{find, if◌then◌else◌, slice_get}
use Rattle.std.specs.List.{list_all, list_any}
use Rattle.std.specs.Option.{option_map}
use Rattle.std.proofs.lemmas.Bool.{eqb-true, false≢true}
use Rattle.std.proofs.lemmas.Grind.{flat_map-append}
use Rattle.std.proofs.lemmas.List.{append-nil, length-map, length-take-le, map-append, take-append-drop, take_all, take_more}
use Rattle.std.proofs.lemmas.List.Folds.{list_all-map, list_all_at, list_all_more}
use Rattle.std.proofs.lemmas.Option.{none-some, same_Some, slice_get-map, slice_get_within}
use Rattle.nix_names.specs.Names.{same_bytes}
use Rattle.nix_names.proofs.Lists.{element_at, same_element}
use Rattle.nix_drv.specs.Derivation.{Drv, Input, Output}
use Rattle.nix_drv.specs.Parts.{output_of}
use Rattle.nix_drv.specs.declared.derivation.Output.{Output as OutputStruct}
use Rattle.drv_graph.specs.Loading.{AreDistinct}
use Rattle.drv_graph.specs.Nodes.{Node, inputs_of, paths_of}
use Rattle.drv_graph.specs.PlanNodes.{drvs_of, output_paths_of}
use Rattle.drv_graph.specs.Plans.{AreNumbers}
use Rattle.drv_graph.proofs.Numbers.{numbers_length}
use Rattle.build_outcome.specs.Jobs.{are_all_named, shown_whole, whole_input, whole_of_found}
use Rattle.build_outcome.specs.declared.job.WholeInput.{WholeInput}
use Rattle.run_report.proofs.PlanDrvs.{drv_is}
use Rattle.sched_core.proofs.SeedParts.{at_input, found_input, take_next}

abbrev Pair : Type 0
Pair = List ℕ × List (List ℕ)

-- ---- whether each output is named

-- whether an output has one of these names, as the code has it
abbrev pub is_named : (names : List (List ℕ)) → OutputStruct → Bool
is_named names output = list_any (same_bytes output.name.items) names

-- The first outputs are named.
abbrev pub AreFirstNamed : (inputs : List Input) → (index : ℕ) → (outs : List OutputStruct)
    → (count : ℕ) → Type 0
AreFirstNamed inputs index outs count = (input : Input) → slice_get inputs index ≡ Some input
    → list_all (is_named input.names) (take count outs) ≡ true

pub named_more : (inputs : List Input) (index : ℕ) (outs : List OutputStruct) (i : ℕ)
    (output : OutputStruct) (text : List ℕ) (told : Bool) → i < length outs
    → output ≡ get_or outs i output → text ≡ output.name.items → told ≡ true
    → IfSome (slice_get inputs index) (λ used. IsTrue told ↔ Contains used.names text)
    → AreFirstNamed inputs index outs i → AreFirstNamed inputs index outs (i + 1)
named_more inputs index outs i output text told within at is_text true_is told_is before input there
    =
    let here : is_named input.names (get_or outs i output) ≡ true =
    ap (is_named input.names) (sym at)
    ∙ at_input inputs index input told output.name.items there
    (subst (λ t. IfSome (slice_get inputs index) (λ used. IsTrue told ↔ Contains used.names t))
    is_text told_is)
    ∙ true_is in
    list_all_more (is_named input.names) outs i output within
    ∙ ap (λ b. b && is_named input.names (get_or outs i output)) (before input there)
    ∙ here

named_all : (names : List (List ℕ)) (used : Drv) (outs : List OutputStruct)
    → map output_of outs ≡ used.outputs
    → are_all_named names used ≡ list_all (is_named names) outs
named_all names used outs view =
    ap (list_all (λ (o : Output). list_any (same_bytes o.name) names)) (sym view)
    ∙ list_all-map (λ (o : Output). list_any (same_bytes o.name) names) output_of outs

-- all outputs were seen
pub all_named : (inputs : List Input) (index : ℕ) (used : Drv) (outs : List OutputStruct) (i : ℕ)
    → map output_of outs ≡ used.outputs → length outs ≤ i → AreFirstNamed inputs index outs i
    → IfSome (slice_get inputs index) (λ input. true ≡ are_all_named input.names used)
all_named inputs index used outs i view all first = by (slice_get inputs index) refl
  where
    by : (o : Option Input) → slice_get inputs index ≡ o
        → IfSome o (λ input. true ≡ are_all_named input.names used)
    by None is = tt
    by (Some input) is =
        sym (named_all input.names used outs view
        ∙ ap (list_all (is_named input.names)) (sym (take_all i outs all)) ∙ first input is)

-- an output isn't named
pub one_unnamed : (inputs : List Input) (index : ℕ) (used : Drv) (outs : List OutputStruct) (i : ℕ)
    (output : OutputStruct) (text : List ℕ) (told : Bool) → map output_of outs ≡ used.outputs
    → i < length outs → output ≡ get_or outs i output → text ≡ output.name.items → told ≡ false
    → IfSome (slice_get inputs index) (λ used. IsTrue told ↔ Contains used.names text)
    → IfSome (slice_get inputs index) (λ input. false ≡ are_all_named input.names used)
one_unnamed inputs index used outs i output text told view within at is_text false_is told_is =
    by (slice_get inputs index) refl
  where
    by : (o : Option Input) → slice_get inputs index ≡ o
        → IfSome o (λ input. false ≡ are_all_named input.names used)
    by None is = tt
    by (Some input) is =
        sym (named_all input.names used outs view
        ∙ list_all_at (is_named input.names) outs i output within
        (ap (is_named input.names) (sym at)
        ∙ at_input inputs index input told output.name.items is
        (subst (λ t. IfSome (slice_get inputs index) (λ used. IsTrue told ↔ Contains used.names t))
        is_text told_is)
        ∙ false_is))

-- ---- one input more

-- what an input tells, where its derivation is known
abbrev pub told_whole : (told : Bool) → (path : List ℕ) → (paths : List (List ℕ)) → List Pair
told_whole told path paths = if told then (path, paths) ∷ [] else []

whole_at : (nodes : List Node) (number : ℕ) (names : List (List ℕ)) (used : Drv) (path : List ℕ)
    (paths : List (List ℕ)) (told : Bool)
    → slice_get (drvs_of nodes) number ≡ Some used
    → slice_get (paths_of nodes) number ≡ Some path
    → IfSome (slice_get nodes number) (λ n. paths ≡ output_paths_of n.drv)
    → told ≡ are_all_named names used
    → whole_of_found names (slice_get nodes number) ≡ told_whole told path paths
whole_at nodes number names used path paths told at_drv at_path at_paths is =
    by (slice_get nodes number) refl at_paths
  where
    by : (o : Option Node) → slice_get nodes number ≡ o
        → IfSome o (λ n. paths ≡ output_paths_of n.drv)
        → whole_of_found names o ≡ told_whole told path paths
    by None none its =
        absurd (none-some path
        (sym (slice_get-map (λ (n : Node). n.path) nodes number
        ∙ ap (option_map (λ (n : Node). n.path)) none) ∙ at_path))
    by (Some node) there its =
        let same : used ≡ node.drv = drv_is nodes number used node there at_drv in
        let path_is : node.path ≡ path =
        same_Some node.path path
        (sym (slice_get-map (λ (n : Node). n.path) nodes number
        ∙ ap (option_map (λ (n : Node). n.path)) there) ∙ at_path) in
        ap (λ (x : Drv). told_whole (are_all_named names x) node.path (output_paths_of x))
        (sym same)
        ∙ ap (λ b. told_whole b node.path (output_paths_of used)) (sym is)
        ∙ ap (λ p. told_whole told p (output_paths_of used)) path_is
        ∙ ap (told_whole told path) (sym (its ∙ ap output_paths_of (sym same)))

-- One input more told this.
abbrev pub MoreTold : (nodes : List Node) → (d index : ℕ) → (told : Bool) → (path : List ℕ)
    → (paths : List (List ℕ)) → Type 0
MoreTold nodes d index told path paths = (node : Node) → slice_get nodes d ≡ Some node
    → flat_map (whole_input nodes) (take (index + 1) node.drv.inputs)
    ≡ flat_map (whole_input nodes) (take index node.drv.inputs) ++ told_whole told path paths

pub inputs_more : (nodes : List Node) (d : ℕ) (drv used : Drv) (numbers : List ℕ)
    (index number : ℕ) (path : List ℕ) (paths : List (List ℕ)) (told : Bool)
    → AreDistinct (paths_of nodes) → slice_get (drvs_of nodes) d ≡ Some drv
    → IfSome (slice_get nodes d) (λ node. AreNumbers nodes numbers (inputs_of node.drv))
    → slice_get numbers index ≡ Some number → slice_get (drvs_of nodes) number ≡ Some used
    → slice_get (paths_of nodes) number ≡ Some path
    → IfSome (slice_get nodes number) (λ n. paths ≡ output_paths_of n.drv)
    → index < length drv.inputs
    → IfSome (slice_get drv.inputs index) (λ input. told ≡ are_all_named input.names used)
    → MoreTold nodes d index told path paths
inputs_more nodes d drv used numbers index number path paths told once is_drv are at_number at_used
    at_path at_paths within is node at =
    let its : AreNumbers nodes numbers (inputs_of node.drv) =
    subst (λ (o : Option Node).
    IfSome o (λ (n : Node). AreNumbers nodes numbers (inputs_of n.drv))) at are in
    let there = element_at drv.inputs index within in
    let same : drv ≡ node.drv = drv_is nodes d drv node at is_drv in
    let here : slice_get node.drv.inputs index ≡ Some there.0 =
    ap (λ (x : Drv). slice_get x.inputs index) (sym same) ∙ there.1 in
    let told_is : told ≡ are_all_named there.0.names used =
    subst (λ (o : Option Input). IfSome o (λ i. told ≡ are_all_named i.names used)) there.1 is in
    let one : whole_input nodes there.0 ≡ told_whole told path paths =
    ap (whole_of_found there.0.names)
    (found_input nodes node numbers index number there.0 once its at_number here)
    ∙ whole_at nodes number there.0.names used path paths told at_used at_path at_paths told_is in
    ap (flat_map (whole_input nodes)) (take_next node.drv.inputs index there.0 here)
    ∙ flat_map-append (whole_input nodes) (take index node.drv.inputs) (there.0 ∷ [])
    ∙ ap (λ ps. flat_map (whole_input nodes) (take index node.drv.inputs) ++ ps)
    (append-nil (whole_input nodes there.0) ∙ one)

-- an input of which not each output is named
pub inputs_still : (nodes : List Node) (d : ℕ) (drv used : Drv) (numbers : List ℕ)
    (index number : ℕ) (told : Bool)
    → AreDistinct (paths_of nodes) → slice_get (drvs_of nodes) d ≡ Some drv
    → IfSome (slice_get nodes d) (λ node. AreNumbers nodes numbers (inputs_of node.drv))
    → slice_get numbers index ≡ Some number → slice_get (drvs_of nodes) number ≡ Some used
    → index < length drv.inputs
    → IfSome (slice_get drv.inputs index) (λ input. told ≡ are_all_named input.names used)
    → told ≡ false → (node : Node) → slice_get nodes d ≡ Some node
    → flat_map (whole_input nodes) (take (index + 1) node.drv.inputs)
    ≡ flat_map (whole_input nodes) (take index node.drv.inputs)
inputs_still nodes d drv used numbers index number told once is_drv are at_number at_used within is
    unused =
    by (slice_get nodes number) refl
  where
    by : (o : Option Node) → slice_get nodes number ≡ o → (node : Node)
        → slice_get nodes d ≡ Some node
        → flat_map (whole_input nodes) (take (index + 1) node.drv.inputs)
        ≡ flat_map (whole_input nodes) (take index node.drv.inputs)
    by None none node at =
        absurd (none-some used
        (sym (slice_get-map (λ (n : Node). n.drv) nodes number
        ∙ ap (option_map (λ (n : Node). n.drv)) none) ∙ at_used))
    by (Some input) there node at =
        inputs_more nodes d drv used numbers index number input.path (output_paths_of input.drv)
        told once is_drv are at_number at_used
        (slice_get-map (λ (n : Node). n.path) nodes number
        ∙ ap (option_map (λ (n : Node). n.path)) there)
        (subst
        (λ (o : Option Node). IfSome o (λ n. output_paths_of input.drv ≡ output_paths_of n.drv))
        (sym there) refl) within is node at
        ∙ ap (λ b. flat_map (whole_input nodes) (take index node.drv.inputs)
        ++ told_whole b input.path (output_paths_of input.drv)) unused
        ∙ append-nil (flat_map (whole_input nodes) (take index node.drv.inputs))

-- ---- all inputs

-- The first inputs told these.
abbrev pub ToldFirst : (nodes : List Node) → (d : ℕ) → List Pair → (count : ℕ) → Type 0
ToldFirst nodes d told count = (node : Node) → slice_get nodes d ≡ Some node
    → told ≡ flat_map (whole_input nodes) (take count node.drv.inputs)

-- an input told one more
pub told_more : (nodes : List Node) (d : ℕ) (old new : List WholeInput) (index : ℕ)
    (input : WholeInput) (told : Bool) (path : List ℕ) (paths : List (List ℕ))
    → ToldFirst nodes d (map shown_whole old) index → new ≡ old ++ input ∷ []
    → shown_whole input ≡ (path, paths) → told ≡ true → MoreTold nodes d index told path paths
    → ToldFirst nodes d (map shown_whole new) (index + 1)
told_more nodes d old new index input told path paths before added is holds more node at =
    ap (map shown_whole) added ∙ map-append shown_whole old (input ∷ [])
    ∙ ap (λ ps. ps ++ shown_whole input ∷ []) (before node at)
    ∙ ap (λ p. flat_map (whole_input nodes) (take index node.drv.inputs) ++ p ∷ []) is
    ∙ ap (λ b. flat_map (whole_input nodes) (take index node.drv.inputs) ++ told_whole b path paths)
    (sym holds)
    ∙ sym (more node at)

-- an input told nothing
pub told_still : (nodes : List Node) (d : ℕ) (old new : List WholeInput) (index : ℕ)
    → ToldFirst nodes d (map shown_whole old) index → new ≡ old
    → ((node : Node) → slice_get nodes d ≡ Some node
    → flat_map (whole_input nodes) (take (index + 1) node.drv.inputs)
    ≡ flat_map (whole_input nodes) (take index node.drv.inputs))
    → ToldFirst nodes d (map shown_whole new) (index + 1)
told_still nodes d old new index before same still node at =
    ap (map shown_whole) same ∙ before node at ∙ sym (still node at)

-- all inputs were seen
pub told_all : (nodes : List Node) (d : ℕ) (numbers : List ℕ) (told : List Pair) (count : ℕ)
    → IfSome (slice_get nodes d) (λ node. AreNumbers nodes numbers (inputs_of node.drv))
    → length numbers ≤ count → ToldFirst nodes d told count
    → IfSome (slice_get nodes d)
    (λ node. told ≡ flat_map (whole_input nodes) node.drv.inputs)
told_all nodes d numbers told count are all first = by (slice_get nodes d) refl are
  where
    by : (o : Option Node) → slice_get nodes d ≡ o
        → IfSome o (λ node. AreNumbers nodes numbers (inputs_of node.drv))
        → IfSome o (λ node. told ≡ flat_map (whole_input nodes) node.drv.inputs)
    by None is its = tt
    by (Some node) is its =
        let counts : length numbers ≡ length (inputs_of node.drv) =
        numbers_length nodes numbers (inputs_of node.drv) its in
        first node is
        ∙ ap (flat_map (whole_input nodes))
        (take_all count node.drv.inputs
        (omega (arith, all, counts, length-map node.drv.inputs (λ (i : Input). i.path))))

-- ---- compared with a job's

pub told_at : (whole : List WholeInput) (index : ℕ) (input : WholeInput) (told : Bool) (pair : Pair)
    → slice_get whole index ≡ Some input → IsTrue told ↔ (shown_whole input ≡ pair)
    → IsTrue told ↔ (option_map shown_whole (slice_get whole index) ≡ Some pair)
told_at whole index input told pair at is = (
  λ yes. ap (option_map shown_whole) at ∙ ap Some (is.0 yes),
  λ same. is.1 (same_Some (shown_whole input) pair (sym (ap (option_map shown_whole) at) ∙ same)),
)

pub none_at : (whole : List WholeInput) (index : ℕ) (pair : Pair) → slice_get whole index ≡ None
    → IsTrue false ↔ (option_map shown_whole (slice_get whole index) ≡ Some pair)
none_at whole index pair none = (
  λ never. absurd (false≢true never),
  λ same. absurd (none-some pair (sym (ap (option_map shown_whole) none) ∙ same)),
)

-- a whole input is compared by its parts
pub same_first : (input : WholeInput) (drv : List ℕ) (paths : List (List ℕ)) (first told : Bool)
    → first ≡ true → IsTrue first ↔ (input.drv ≡ drv) → IsTrue told ↔ (input.outputs.items ≡ paths)
    → IsTrue told ↔ (shown_whole input ≡ (drv, paths))
same_first input drv paths first told is one two = (
  λ holds. ap (λ (p : List ℕ). (p, input.outputs.items)) (one.0 is)
      ∙ ap (λ ps. (drv, ps)) (two.0 holds),
  λ same. two.1 (ap (λ (p : Pair). p.1) same),
)

pub other_first : (input : WholeInput) (drv : List ℕ) (paths : List (List ℕ)) (first : Bool)
    → first ≡ false → IsTrue first ↔ (input.drv ≡ drv)
    → IsTrue first ↔ (shown_whole input ≡ (drv, paths))
other_first input drv paths first is one = (
  λ holds. absurd (false≢true (sym is ∙ holds)),
  λ same. one.1 (ap (λ (p : Pair). p.0) same),
)

-- The first whole inputs of a job are what the first inputs told.
pub record AreAlike (nodes : List Node) (d : ℕ) (whole : List WholeInput) (count index : ℕ)
    : Type 0 where
  pub within : count ≤ length whole
  pub same : ToldFirst nodes d (map shown_whole (take count whole)) index

-- an input told one more, and the job has it
pub alike_more : (nodes : List Node) (d : ℕ) (whole : List WholeInput) (count index : ℕ)
    (told : Bool) (path : List ℕ) (paths : List (List ℕ)) → AreAlike nodes d whole count index
    → option_map shown_whole (slice_get whole count) ≡ Some (path, paths) → told ≡ true
    → MoreTold nodes d index told path paths
    → AreAlike nodes d whole (count + 1) (index + 1)
alike_more nodes d whole count index told path paths alike at holds more =
    by (slice_get whole count) refl at
  where
    by : (o : Option WholeInput) → slice_get whole count ≡ o
        → option_map shown_whole o ≡ Some (path, paths)
        → AreAlike nodes d whole (count + 1) (index + 1)
    by None none is = absurd (none-some (path, paths) is)
    by (Some input) there is = record {
      within = let low = slice_get_within whole count input there in omega arith;
      same = told_more nodes d (take count whole) (take (count + 1) whole) index input told path
          paths alike.same (take_next whole count input there)
          (same_Some (shown_whole input) (path, paths) is) holds more;
    }

-- an input told nothing
pub alike_still : (nodes : List Node) (d : ℕ) (whole : List WholeInput) (count index : ℕ)
    → AreAlike nodes d whole count index
    → ((node : Node) → slice_get nodes d ≡ Some node
    → flat_map (whole_input nodes) (take (index + 1) node.drv.inputs)
    ≡ flat_map (whole_input nodes) (take index node.drv.inputs))
    → AreAlike nodes d whole count (index + 1)
alike_still nodes d whole count index alike more = record {
  within = alike.within;
  same = told_still nodes d (take count whole) (take count whole) index alike.same refl more;
}

get_seam : {X : Type 0} (front : List X) (x : X) (rest : List X)
    → slice_get (front ++ x ∷ rest) (length front) ≡ Some x
get_seam [] x rest = refl
get_seam (y ∷ front) x rest = get_seam front x rest

-- an input told what the job hasn't there
pub not_alike : (nodes : List Node) (d : ℕ) (whole : List WholeInput) (count index : ℕ)
    (told : Bool) (path : List ℕ) (paths : List (List ℕ)) → AreAlike nodes d whole count index
    → (option_map shown_whole (slice_get whole count) ≡ Some (path, paths) → ⊥)
    → told ≡ true → MoreTold nodes d index told path paths
    → IfSome (slice_get nodes d) (λ node. IsTrue false
    ↔ (map shown_whole whole ≡ flat_map (whole_input nodes) node.drv.inputs))
not_alike nodes d whole count index told path paths alike other holds more = by
    (slice_get nodes d) refl
  where
    at : (node : Node) → slice_get nodes d ≡ Some node
        → map shown_whole whole ≡ flat_map (whole_input nodes) node.drv.inputs → ⊥
    at node own same =
        let f = whole_input nodes in
        let inputs : List Input = node.drv.inputs in
        let front : List Pair = flat_map f (take index inputs) in
        let rest : List Pair = flat_map f (drop (index + 1) inputs) in
        let pair : Pair = (path, paths) in
        let parts : map shown_whole whole ≡ front ++ pair ∷ rest =
        same ∙ ap (flat_map f) (sym (take-append-drop (index + 1) inputs))
        ∙ flat_map-append f (take (index + 1) inputs) (drop (index + 1) inputs)
        ∙ ap (λ ps. ps ++ rest)
        (more node own ∙ ap (λ b. front ++ told_whole b path paths) holds)
        ∙ append_assoc front (pair ∷ []) rest in
        let size : length front ≡ count =
        ap length (sym (alike.same node own)) ∙ length-map (take count whole) shown_whole
        ∙ length-take-le count whole alike.within in
        other (sym (slice_get-map shown_whole whole count)
        ∙ ap (λ ps. slice_get ps count) parts
        ∙ ap (slice_get (front ++ pair ∷ rest)) (sym size) ∙ get_seam front pair rest)

    by : (o : Option Node) → slice_get nodes d ≡ o
        → IfSome o (λ node. IsTrue false
        ↔ (map shown_whole whole ≡ flat_map (whole_input nodes) node.drv.inputs))
    by None is = tt
    by (Some node) own =
        (λ never. absurd (false≢true never), λ same. absurd (at node own same))

-- all inputs were seen: the job has no more
pub alike_all : (nodes : List Node) (d : ℕ) (numbers : List ℕ) (whole : List WholeInput)
    (count index : ℕ)
    → IfSome (slice_get nodes d) (λ node. AreNumbers nodes numbers (inputs_of node.drv))
    → length numbers ≤ index → AreAlike nodes d whole count index
    → IfSome (slice_get nodes d) (λ node. IsTrue (count == length whole)
    ↔ (map shown_whole whole ≡ flat_map (whole_input nodes) node.drv.inputs))
alike_all nodes d numbers whole count index are all alike =
    by (slice_get nodes d)
    (told_all nodes d numbers (map shown_whole (take count whole)) index are all alike.same)
  where
    by : (o : Option Node)
        → IfSome o (λ node. map shown_whole (take count whole)
        ≡ flat_map (whole_input nodes) node.drv.inputs)
        → IfSome o (λ node. IsTrue (count == length whole)
        ↔ (map shown_whole whole ≡ flat_map (whole_input nodes) node.drv.inputs))
    by None is = tt
    by (Some node) is = (
      λ yes.
          let end : count ≡ length whole = eqb-true count (length whole) yes in
          ap (map shown_whole) (sym (take_all count whole (omega arith))) ∙ is,
      λ same.
          let sizes : length (map shown_whole whole) ≡ length (map shown_whole (take count whole)) =
          ap length (same ∙ sym is) in
          let end : count ≡ length whole =
          omega (
            arith,
            sizes,
            length-map whole shown_whole,
            length-map (take count whole) shown_whole,
            length-take-le count whole alike.within,
          ) in
          eq-eqb count (length whole) end,
    )
