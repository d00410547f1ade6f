-- Sources that give the same answers: what is true by one of them is true by the other.
use Rattle.std.proofs.Common.{ℕ, List, [], ◌∷◌, Err, Result, rules}
use Rattle.std.specs.Prelude.{All}
use Rattle.std.proofs.lemmas.List.Elements.{All-weaker}
use Rattle.nix_drv.specs.Derivation.{Drv}
use Rattle.nix_drv.specs.Sources.{Answer, GivesSame}
use Rattle.drv_graph.specs.Loading.{IsLoading, MayCheck}
use Rattle.drv_graph.specs.Nodes.{Node}
use Rattle.drv_graph.specs.Plans.{IsReachedBy, LeadsBy, MayBeAt, MayUse}
use Rattle.drv_graph.specs.private.Walks.{IsWalked}
use Rattle.drv_graph.specs.declared.fault.GraphFault.{GraphFault}
use Rattle.drv_graph.specs.declared.fault.GraphFault.TheVariants.{NoMemory, At, Draft, Name}
use Rattle.drv_graph.specs.declared.fault.NodeFault.TheVariants.{Unreadable, TooMany, Text, Cycle, Outputs, OutputClash}
use Rattle.drv_graph.specs.declared.fault.OutputFault.{OutputFault}
use Rattle.drv_graph.specs.declared.kinds.Kind.{Kind}
use Rattle.drv_graph.specs.declared.walks.walk_state.WalkState.{WalkState}
use Rattle.drv_graph.specs.declared.profile.Profile.{Profile}

pub gives_back : (G H : List ℕ → Answer → Type 0) → GivesSame G H → GivesSame H G
gives_back G H same path answer = search rules

leads_by : (Step Other : List ℕ → List ℕ → Type 0) → ((a b : List ℕ) → Step a b → Other a b)
    → (from to : List ℕ) (steps : List (List ℕ)) → LeadsBy Step from to steps
    → LeadsBy Other from to steps
leads_by Step Other on from to [] leads = leads
leads_by Step Other on from to (next ∷ steps) leads =
    (on from next leads.0, leads_by Step Other on next to steps leads.1)

module _ (dir : List ℕ) (G H : List ℕ → Answer → Type 0) (same : GivesSame G H) where
  stands_by : (path : List ℕ) (drv : Drv) → MayBeAt dir H path drv → MayBeAt dir G path drv
  stands_by path drv stands = search rules

  uses_by : (a b : List ℕ) → MayUse dir H a b → MayUse dir G a b
  uses_by a b step = search (rules, stands_by)

  reached_by : (roots : List (List ℕ)) (path : List ℕ) → IsReachedBy (MayUse dir H) roots path
      → IsReachedBy (MayUse dir G) roots path
  reached_by roots path reached = search (rules, leads_by, uses_by)

  given_by : (nodes : List Node) → All (λ (n : Node). MayBeAt dir H n.path n.drv) nodes
      → All (λ (n : Node). MayBeAt dir G n.path n.drv) nodes
  given_by nodes all = search (rules, All-weaker, stands_by)

  checked_by : {profile : Profile} (path : List ℕ) (answer : Result Kind OutputFault)
      → MayCheck profile dir H path answer
      → MayCheck profile dir G path answer
  checked_by path answer checked = search (rules, stands_by, given_by)

  -- what was left and is open is right by the other source too
  pub walked_by : {profile : Profile} (roots : List (List ℕ)) (found : WalkState)
      (pending : List (List ℕ))
      → IsWalked profile dir H roots found pending → IsWalked profile dir G roots found pending
  walked_by roots found pending walked = search (rules, given_by, All-weaker, reached_by)

  -- a fault is true by the other source too
  pub fault_by : (profile : Profile) (roots : List (List ℕ)) (fault : GraphFault)
      → IsLoading profile dir H roots (Err fault)
      → IsLoading profile dir G roots (Err fault)
  unfolding checked_by
  fault_by profile roots NoMemory at = tt
  fault_by profile roots (At p Unreadable) at = search (rules, reached_by)
  fault_by profile roots (At p TooMany) at = search (rules, reached_by, All-weaker)
  fault_by profile roots (At p (Text text)) at = search (rules, reached_by)
  fault_by profile roots (At p Cycle) at = (
    reached_by _ p at.0,
    record {
      user = at.1.user;
      steps = at.1.steps;
      leads = leads_by (MayUse dir H) (MayUse dir G) uses_by p _ _ at.1.leads;
      closes = uses_by _ p at.1.closes;
    },
  )
  fault_by profile roots (At p (Outputs outputs)) at = search (rules, reached_by, checked_by)
  fault_by profile roots (At p OutputClash) at = (
    reached_by _ p at.0,
    record {
      kind = at.1.kind;
      checked = checked_by p _ at.1.checked;
      earlier = at.1.earlier;
      is_earlier = at.1.is_earlier;
      reached = reached_by _ _ at.1.reached;
      differs = at.1.differs;
      shares = at.1.shares;
      no_twin = at.1.no_twin;
    },
  )
  fault_by profile roots (Draft found) at = absurd at
  fault_by profile roots Name at = absurd at
