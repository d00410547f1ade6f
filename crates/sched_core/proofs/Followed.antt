-- What is left of paths after some of them.
use Rattle.std.proofs.Common.{◌≡◌, ◌↔◌, ◌⊎◌, ⊎_elim, ◌<◌, ◌≤◌, ◌+◌, ◌++◌, ◌∙◌, ◌==◌, ℕ, Bool, true, false, List, [], ◌∷◌, Option, Some, None, IfSome, IsTrue, MatchOption, append_assoc, ap, filter, flat_map, get_or, length, map, refl, sym, subst, arith, rules}
use Rattle.std.specs.Borrow.{Bor}
use Rattle.std.specs.List.{list_any}
use Rattle.std.specs.Prelude.{Contains, slice_get}
use Rattle.std.proofs.lemmas.Bool.{eqb-true, false≢true}
use Rattle.std.proofs.lemmas.List.{append-nil, append_cancel_left, length-map, take_all}
use Rattle.std.proofs.lemmas.Option.{get_or_from_slice_get, slice_get-get_or}
use Rattle.nix_names.specs.Names.{same_bytes}
use Rattle.nix_drv.specs.Derivation.{Drv, Input, Output}
use Rattle.nix_drv.specs.Parts.{output_of}
use Rattle.nix_drv.specs.declared.derivation.Output.{Output as OutputStruct}
use Rattle.drv_graph.specs.Loading.{AreDistinct}
use Rattle.drv_graph.specs.Nodes.{Node, inputs_of, paths_of}
use Rattle.drv_graph.specs.Plans.{AreNumbers}
use Rattle.drv_graph.specs.PlanNodes.{drvs_of, output_paths_of}
use Rattle.drv_graph.proofs.Numbers.{numbers_length}
use Rattle.sched_core.specs.private.Following.{IsRest}
use Rattle.build_outcome.specs.Jobs.{named_outputs, paths_named, seeds_of}
use Rattle.sched_core.proofs.SeedParts.{at_input, first_more, first_named, first_seeds, input_added, output_at, outputs_count, path_at, read_at}
use Rattle.nix_names.proofs.Lists.{element_at}

-- after one front, and another after that
pub rest_after_both : (paths front more : List (List ℕ)) (between : Bor (List (List ℕ)))
    (left : Option (Bor (List (List ℕ)))) → IsRest paths front (Some between)
    → IsRest between.now more left → IsRest paths (front ++ more) left
rest_after_both paths front more between (Some left) first second = search (rules, append_assoc)
rest_after_both paths front more between None first second =
    search (rules, append_cancel_left, append_assoc)

-- paths that don't begin with a front don't begin with a longer one
pub rest_after_none : (paths front more : List (List ℕ)) → IsRest paths front None
    → IsRest paths (front ++ more) None
rest_after_none paths front more none = search (rules, append_assoc)

-- What is left after more paths, where something was left before.
abbrev pub IsStep : Option (Bor (List (List ℕ))) → (more : List (List ℕ))
    → Option (Bor (List (List ℕ))) → Type 0
IsStep left more next = MatchOption left (next ≡ None)
    (λ (rest : Bor (List (List ℕ))). IsRest rest.now more next)

pub rest_after_step : (paths front more : List (List ℕ)) (left next : Option (Bor (List (List ℕ))))
    → IsRest paths front left → IsStep left more next → IsRest paths (front ++ more) next
rest_after_step paths front more (Some between) next first step = search (rules, rest_after_both)
rest_after_step paths front more None next first step =
    subst (IsRest paths (front ++ more)) (sym step) (rest_after_none _ _ _ first)

-- nothing more is left
pub all_left : (paths front : List (List ℕ)) (rest : Bor (List (List ℕ)))
    → IsRest paths front (Some rest) → rest.now ≡ [] → paths ≡ front
all_left paths front rest is nothing = search (rules, append-nil)

pub nothing_left : (paths front : List (List ℕ)) (rest : Bor (List (List ℕ)))
    → IsRest paths front (Some rest) → paths ≡ front → rest.now ≡ []
nothing_left paths front rest is same = append_cancel_left front rest.now []
    (sym is ∙ same ∙ sym (append-nil front))

pub step_some : (left next : Option (Bor (List (List ℕ)))) (rest : Bor (List (List ℕ)))
    (more : List (List ℕ)) → left ≡ Some rest → IsRest rest.now more next → IsStep left more next
step_some left next rest more is is_rest = search rules

pub step_none : (left next : Option (Bor (List (List ℕ)))) (more : List (List ℕ)) → left ≡ None
    → next ≡ None → IsStep left more next
step_none left next more is none = search rules

-- what is left after an element of a list
pub element_some : (left next given : Option (Bor (List (List ℕ)))) (rest : Bor (List (List ℕ)))
    (paths : List (List ℕ)) (n : ℕ) (path : List ℕ) → n < length paths → path ≡ get_or paths n path
    → left ≡ Some rest → IsRest rest.now (path ∷ []) given → next ≡ given
    → IsStep left (get_or paths n [] ∷ []) next
element_some left next given rest paths n path low is some is_rest same =
    search (rules, get_or_from_slice_get, read_at, step_some)

pub element_none : (left next : Option (Bor (List (List ℕ)))) (paths : List (List ℕ)) (n : ℕ) → left
    ≡ None → next ≡ None → IsStep left (get_or paths n [] ∷ []) next
element_none left next paths n none same = search (rules, step_none)

-- an output of an input is used or not
pub used_step : (inputs : List Input) (index : ℕ) (used : Drv) (seeds paths : List (List ℕ))
    (outs : List OutputStruct) (n : ℕ) (output : OutputStruct) (text : List ℕ) (told : Bool)
    (left next : Option (Bor (List (List ℕ))))
    → map output_of outs ≡ used.outputs → paths ≡ output_paths_of used → n < length paths → output
    ≡ get_or outs n output → text ≡ output.name.items
    → IfSome (slice_get inputs index) (λ used. IsTrue told ↔ Contains used.names text)
    → ((told ≡ true) × IsStep left (get_or paths n [] ∷ []) next) ⊎ ((told ≡ false) × (next ≡ left))
    → ((input : Input) → slice_get inputs index ≡ Some input
    → IsRest seeds (first_named input.names used.outputs n) left)
    → (input : Input) → slice_get inputs index ≡ Some input
    → IsRest seeds (first_named input.names used.outputs (n + 1)) next
used_step inputs index used seeds paths outs n output text told left next view are low is_output
    is_text told_is either before input at_index =
    let below : n < length outs = omega (arith, low, outputs_count used _ _ view are) in
    let at : slice_get outs n ≡ Some output = read_at _ n _ below is_output in
    let named = subst (λ t. IfSome (slice_get inputs index)
    (λ used. IsTrue told ↔ Contains used.names t)) is_text told_is in
    let there = output_at _ used n _ view at in
    let is_named = at_input inputs index _ _ _ at_index named in
    ⊎_elim
    (λ is_used.
    let its : get_or paths n [] ≡ output.path.items =
    path_at _ used n _ _ are
    (slice_get-get_or _ n [] low) there in
    subst (λ l. IsRest seeds l next)
    (sym (first_more _ _ n _ _ there
    (is_named ∙ is_used.0)))
    (rest_after_step _ _ _ _ _
    (before input at_index) (subst (λ p. IsStep left (p ∷ []) next) its is_used.1)))
    (λ unused.
    subst (λ o. IsRest seeds (first_named input.names used.outputs (n + 1)) o) (sym unused.1)
    (subst (λ l. IsRest seeds l left)
    (sym (first_more _ _ n _ _ there
    (is_named ∙ unused.0) ∙ append-nil (first_named input.names used.outputs n)))
    (before input at_index)))
    either

-- all outputs were seen
pub used_all : (inputs : List Input) (index : ℕ) (used : Drv) (seeds : List (List ℕ)) (n : ℕ)
    (left : Option (Bor (List (List ℕ)))) → length used.outputs ≤ n
    → ((input : Input) → slice_get inputs index ≡ Some input
    → IsRest seeds (first_named input.names used.outputs n) left)
    → (input : Input) → slice_get inputs index ≡ Some input
    → IsRest seeds (paths_named input.names used) left
used_all inputs index used seeds n left all is_rest input at =
    subst (λ l. IsRest seeds
    (map (λ (o : Output). o.path)
    (filter (λ (o : Output). list_any (same_bytes o.name) input.names) l)) left)
    (take_all n used.outputs all) (is_rest input at)

-- an input was seen
pub input_step : (nodes : List Node) (d : ℕ) (drv used : Drv) (numbers : List ℕ) (index number : ℕ)
    (seeds : List (List ℕ)) (left next : Option (Bor (List (List ℕ))))
    → AreDistinct (paths_of nodes)
    → slice_get (drvs_of nodes) d ≡ Some drv → IfSome (slice_get nodes d)
    (λ node. AreNumbers nodes numbers (inputs_of node.drv)) → slice_get numbers index
    ≡ Some number
    → slice_get (drvs_of nodes) number ≡ Some used → index < length drv.inputs
    → ((input : Input) → slice_get drv.inputs index ≡ Some input
    → IsStep left (paths_named input.names used) next)
    → ((node : Node) → slice_get nodes d ≡ Some node
    → IsRest seeds (first_seeds nodes node index) left)
    → (node : Node) → slice_get nodes d ≡ Some node
    → IsRest seeds (first_seeds nodes node (index + 1)) next
input_step nodes d drv used numbers index number seeds left next once is_drv are at_number at_used
    within step before node at =
    let there = element_at _ _ within in
    let after : List (List ℕ) = first_seeds nodes node index ++ paths_named there.0.names used in
    let more : after ≡ first_seeds nodes node (index + 1) =
    input_added _ d _ _ _ _ _ _ _ once
    is_drv are at_number at_used within
    (λ input is. ap (λ (i : Input). first_seeds nodes node index ++ paths_named i.names used)
    (one_input drv.inputs index there.0 input there.1 is))
    (λ other is. ap (λ (x : Node). first_seeds nodes x index) (one_node nodes d node other at is))
    node at in
    subst (λ l. IsRest seeds l next) more
    (rest_after_step _ _ _ _ _
    (before node at) (step there.0 there.1))
  where
    one_input : (inputs : List Input) (n : ℕ) (a b : Input) → slice_get inputs n ≡ Some a
        → slice_get inputs n ≡ Some b → a ≡ b
    one_input inputs n a b is also = search rules

    one_node : (nodes : List Node) (n : ℕ) (a b : Node) → slice_get nodes n ≡ Some a
        → slice_get nodes n ≡ Some b → a ≡ b
    one_node nodes n a b is also = search rules

pub input_some : (inputs : List Input) (index : ℕ) (used : Drv)
    (left next given : Option (Bor (List (List ℕ)))) (rest : Bor (List (List ℕ))) → left ≡ Some rest
    → ((input : Input) → slice_get inputs index ≡ Some input
    → IsRest rest.now (paths_named input.names used) given) → next ≡ given
    → (input : Input) → slice_get inputs index ≡ Some input
    → IsStep left (paths_named input.names used) next
input_some inputs index used left next given rest some is_rest same input at =
    search (rules, step_some)

pub input_none : (inputs : List Input) (index : ℕ) (used : Drv)
    (left next : Option (Bor (List (List ℕ)))) → left ≡ None → next ≡ None
    → (input : Input) → slice_get inputs index ≡ Some input
    → IsStep left (paths_named input.names used) next
input_none inputs index used left next none same input at = search (rules, step_none)

-- all inputs were seen
pub seeds_left : (nodes : List Node) (d : ℕ) (numbers : List ℕ) (seeds : List (List ℕ)) (count : ℕ)
    (left : Option (Bor (List (List ℕ)))) → IfSome (slice_get nodes d)
    (λ node. AreNumbers nodes numbers (inputs_of node.drv))
    → length numbers ≤ count
    → ((node : Node) → slice_get nodes d ≡ Some node
    → IsRest seeds (first_seeds nodes node count) left)
    → IfSome (slice_get nodes d) (λ node. IsRest seeds (seeds_of nodes node.drv) left)
seeds_left nodes d numbers seeds count left are all is_rest = by (slice_get nodes d) refl are
  where
    by : (o : Option Node) → slice_get nodes d ≡ o
        → IfSome o (λ node. AreNumbers nodes numbers (inputs_of node.drv))
        → IfSome o (λ node. IsRest seeds (seeds_of nodes node.drv) left)
    by None is its = tt
    by (Some node) is its =
        let counts : length numbers ≡ length (inputs_of node.drv) =
        numbers_length _ _ _ its in
        subst (λ l. IsRest seeds (node.drv.sources ++ flat_map (named_outputs nodes) l) left)
        (take_all count node.drv.inputs
        (omega (arith, all, counts, length-map node.drv.inputs (λ (i : Input). i.path))))
        (is_rest node is)

-- whether exactly the seeds were there
pub seeds_told : (nodes : List Node) (d : ℕ) (seeds : List (List ℕ)) (rest : Bor (List (List ℕ)))
    (told : Bool) → IfSome (slice_get nodes d)
    (λ node. IsRest seeds (seeds_of nodes node.drv) (Some rest))
    → IsTrue told ↔ (rest.now ≡ []) → IfSome (slice_get nodes d)
    (λ node. IsTrue told ↔ (seeds ≡ seeds_of nodes node.drv))
seeds_told nodes d seeds rest told is_rest nothing = by (slice_get nodes d) is_rest
  where
    by : (o : Option Node) → IfSome o (λ node. IsRest seeds (seeds_of nodes node.drv) (Some rest))
        → IfSome o (λ node. IsTrue told ↔ (seeds ≡ seeds_of nodes node.drv))
    by None its = tt
    by (Some node) its = search (rules, all_left, nothing_left)

pub seeds_untold : (nodes : List Node) (d : ℕ) (seeds : List (List ℕ))
    → IfSome (slice_get nodes d) (λ node. IsRest seeds (seeds_of nodes node.drv) None)
    → IfSome (slice_get nodes d) (λ node. IsTrue false ↔ (seeds ≡ seeds_of nodes node.drv))
seeds_untold nodes d seeds is_rest = by (slice_get nodes d) is_rest
  where
    by : (o : Option Node) → IfSome o (λ node. IsRest seeds (seeds_of nodes node.drv) None)
        → IfSome o (λ node. IsTrue false ↔ (seeds ≡ seeds_of nodes node.drv))
    by None its = tt
    by (Some node) its = (
      λ never. absurd (false≢true never),
      λ same. absurd (its [] (same ∙ sym (append-nil (seeds_of nodes node.drv)))),
    )

pub nothing_told : (paths : List (List ℕ)) (told : Bool) → told ≡ (length paths == 0) → IsTrue told
    ↔ (paths ≡ [])
nothing_told [] told is = (λ _. refl, λ _. is)
nothing_told (path ∷ paths) told is = search (rules, eqb-true)
