-- Plan order: what is left has all that was asked for, and just what that reaches.
use Rattle.std.proofs.Common.{◌≡◌, ◌∙◌, ℕ, List, [], ◌∷◌, ◌++◌, refl, sym, ap, subst, ⊎_elim, Some, rules}
use Rattle.std.specs.Prelude.{Contains, slice_get}
use Rattle.std.proofs.lemmas.List.Elements.{Contains-append_left, Contains-push}
use Rattle.std.proofs.lemmas.Option.{same_Some}
use Rattle.drv_graph.specs.Loading.{AreDistinct}
use Rattle.drv_graph.specs.Nodes.{Node, inputs_of, paths_of}
use Rattle.drv_graph.specs.Plans.{AreLeft, IsReachedBy, LeadsBy, Uses}
use Rattle.drv_graph.specs.Plans.AreLeft.{none_left, passed_over, left_after_inputs}
use Rattle.drv_graph.proofs.PathLists.{same_index}
use Rattle.nix_names.proofs.Lists.{Contains-cons_cases, Contains-first, Contains-later, Contains-nothing, Contains-push_cases, get_from_contains, get_mapped}

-- paths left in two runs are left in one
pub left_append : {nodes : List Node} {before paths middle : List (List ℕ)}
    (more after : List (List ℕ)) → AreLeft nodes before paths middle
    → AreLeft nodes middle more after → AreLeft nodes before (paths ++ more) after
left_append more after (none_left b) rest = rest
left_append more after (passed_over path b paths middle has first) rest =
    passed_over path b (paths ++ more) after has (left_append _ _ first rest)
left_append more after (left_after_inputs node b inputs paths middle is_node new under apart first)
    rest =
    left_after_inputs node b inputs (paths ++ more) after is_node new under apart
    (left_append _ _ first rest)

-- a path that was left before is passed over
pub left_later : {nodes : List Node} {before after : List (List ℕ)} (path : List ℕ)
    (paths : List (List ℕ)) → AreLeft nodes before (path ∷ paths) after → Contains before path
    → AreLeft nodes before paths after
left_later path paths (passed_over p b ps a has rest) there = rest
left_later path paths (left_after_inputs node b inputs ps a is_node new under apart rest) there =
    absurd (new there)

-- what was left stays
pub left_keeps : {nodes : List Node} {before paths after : List (List ℕ)}
    → AreLeft nodes before paths after → (path : List ℕ) → Contains before path
    → Contains after path
left_keeps (none_left b) path has = has
left_keeps (passed_over p b ps a there rest) path has = left_keeps rest _ has
left_keeps (left_after_inputs node b inputs ps a is_node new under apart rest) path has =
    left_keeps rest _ (Contains-append_left _ _ _ (left_keeps under _ has))

-- what was asked for is left
pub left_has : {nodes : List Node} {before paths after : List (List ℕ)}
    → AreLeft nodes before paths after → (path : List ℕ) → Contains paths path → Contains after path
left_has (none_left b) path has = absurd (Contains-nothing _ has)
left_has (passed_over p b ps a there rest) path has =
    ⊎_elim (λ same. left_keeps rest _ (subst (Contains b) same there))
    (λ later. left_has rest _ later) (Contains-cons_cases p _ _ has)
left_has (left_after_inputs node b inputs ps a is_node new under apart rest) path has =
    ⊎_elim (λ same.
    left_keeps rest _
    (subst (Contains (inputs ++ node.path ∷ [])) same (Contains-push _ _)))
    (λ later. left_has rest _ later) (Contains-cons_cases _ _ _ has)

-- a node of some paths, all of whose inputs are among them
abbrev pub HasNodeIn : List Node → List (List ℕ) → List ℕ → Type 0
HasNodeIn nodes paths path = (node : Node) × Contains nodes node × (node.path ≡ path)
    × ((input : List ℕ) → Contains (inputs_of node.drv) input → Contains paths input)

abbrev pub AreClosed : List Node → List (List ℕ) → Type 0
AreClosed nodes paths = (path : List ℕ) → Contains paths path → HasNodeIn nodes paths path

-- one more node, whose inputs are there
closed_push : (nodes : List Node) (node : Node) (inputs : List (List ℕ)) → Contains nodes node
    → ((input : List ℕ) → Contains (inputs_of node.drv) input → Contains inputs input)
    → AreClosed nodes inputs → AreClosed nodes (inputs ++ node.path ∷ [])
closed_push nodes node inputs is_node under closed path has =
    ⊎_elim (λ old. wider path (closed path old)) (λ same. wider path (node, is_node, same, under))
    (Contains-push_cases _ _ _ has)
  where
    wider : (path : List ℕ) → HasNodeIn nodes inputs path
        → HasNodeIn nodes (inputs ++ node.path ∷ []) path
    wider path has = search (rules, Contains-append_left)

-- what is left is closed
pub left_closed : {nodes : List Node} {before paths after : List (List ℕ)}
    → AreLeft nodes before paths after → AreClosed nodes before → AreClosed nodes after
left_closed (none_left b) closed = closed
left_closed (passed_over p b ps a there rest) closed = left_closed rest closed
left_closed {nodes = nodes} (left_after_inputs node b inputs ps a is_node new under apart rest)
    closed =
    left_closed rest (closed_push _ _ _ is_node (left_has under) (left_closed under closed))

-- what holds of what is asked for, and goes from users to inputs, holds of all that is left
pub left_all :
    {nodes : List Node} {before paths after : List (List ℕ)} (P : List ℕ → Type 0)
    → ((node : Node) (input : List ℕ) → Contains nodes node → P node.path
    → Contains (inputs_of node.drv) input → P input) →
    AreLeft nodes before paths after →
    ((path : List ℕ) → Contains before path → P path) →
    ((path : List ℕ) → Contains paths path → P path) →
    (path : List ℕ) →
    Contains after path →
    P path
left_all P on (none_left b) old asked path has = old path has
left_all P on (passed_over p b ps a there rest) old asked path has =
    left_all P on rest old (λ q is. asked q (Contains-later p _ q is)) _ has
left_all P on (left_after_inputs node b inputs ps a is_node new under apart rest) old asked path
    has =
    let own : P node.path = asked node.path (Contains-first _ _) in
    let earlier : (q : List ℕ) → Contains inputs q
    → P q = left_all P on under old (λ input among. on node input is_node own among) in
    left_all P on rest
    (λ q is. ⊎_elim (λ mine. earlier q mine) (λ same. subst P same own)
    (Contains-push_cases _ _ q is))
    (λ q is. asked q (Contains-later _ _ q is)) _ has

-- two nodes at one path are one
pub same_node : (nodes : List Node) (a b : Node) → AreDistinct (paths_of nodes) → Contains nodes a
    → Contains nodes b → a.path ≡ b.path → a ≡ b
same_node nodes a b once has_a has_b same =
    let at_a = get_from_contains _ a has_a in
    let at_b = get_from_contains _ b has_b in
    let path_a : slice_get (paths_of nodes) at_a.0
    ≡ Some b.path = get_mapped (λ (n : Node). n.path) nodes at_a.0 a at_a.1 ∙ ap Some same in
    let path_b : slice_get (paths_of nodes) at_b.0
    ≡ Some b.path = get_mapped (λ (n : Node). n.path) nodes at_b.0 b at_b.1 in
    let index = same_index _ _ _ _ once path_a path_b in
    same_Some a b (sym at_a.1 ∙ ap (λ n. slice_get nodes n) index ∙ at_b.1)

-- one more step
pub leads_more : (Step : List ℕ → List ℕ → Type 0) (from to next : List ℕ) (steps : List (List ℕ))
    → LeadsBy Step from to steps → Step to next → LeadsBy Step from next (steps ++ next ∷ [])
leads_more Step from to next [] leads step = search rules
leads_more Step from to next (first ∷ steps) leads step =
    (leads.0, leads_more Step first to next steps leads.1 step)

-- what is used by what is reached is reached
pub reached_more : (Step : List ℕ → List ℕ → Type 0) (roots : List (List ℕ)) (path next : List ℕ)
    → IsReachedBy Step roots path → Step path next → IsReachedBy Step roots next
reached_more Step roots path next reached step = search (rules, leads_more)

-- a root is reached
pub reached_root : (Step : List ℕ → List ℕ → Type 0) (roots : List (List ℕ)) (root : List ℕ)
    → Contains roots root → IsReachedBy Step roots root
reached_root Step roots root has = search rules

-- all that a plan has is reached from its roots
pub plan_reached : (nodes : List Node) (roots : List (List ℕ))
    → AreLeft nodes [] roots (paths_of nodes) → (path : List ℕ) → Contains (paths_of nodes) path
    → IsReachedBy (Uses nodes) roots path
plan_reached nodes roots order =
    left_all (IsReachedBy (Uses nodes) roots)
    (λ node input is_node reached is_input. reached_more (Uses nodes) _ _ _ reached
    (record { node = node; is_node = is_node; is_from = refl; is_input = is_input }))
    order
    (λ path has. absurd (Contains-nothing _ has))
    (λ path has. reached_root (Uses nodes) _ _ has)

-- a closed list has all that is reached from its paths
closed_leads : (nodes : List Node) (paths : List (List ℕ)) → AreDistinct (paths_of nodes)
    → AreClosed nodes paths → (from to : List ℕ) (steps : List (List ℕ)) → Contains paths from
    → LeadsBy (Uses nodes) from to steps → Contains paths to
closed_leads nodes paths once closed from to [] has leads = search rules
closed_leads nodes paths once closed from to (next ∷ steps) has leads =
    let own = closed from has in
    let step = leads.0 in
    let one : own.0 ≡ step.node = same_node _ _ _ once own.1 step.is_node
    (own.2 ∙ sym step.is_from) in
    closed_leads nodes paths once closed next to steps
    (own.3 next (subst (λ (n : Node). Contains (inputs_of n.drv) next) (sym one) step.is_input))
    leads.1

-- a plan has all that is reached from its roots
pub plan_whole : (nodes : List Node) (roots : List (List ℕ)) → AreDistinct (paths_of nodes)
    → AreLeft nodes [] roots (paths_of nodes) → (path : List ℕ)
    → IsReachedBy (Uses nodes) roots path
    → Contains (paths_of nodes) path
plan_whole nodes roots once order path reached =
    closed_leads _ _ once
    (left_closed order (λ p none. absurd (Contains-nothing p none))) _ _
    _ (left_has order _ reached.is_root) reached.leads
