-- A run over a plan for one system, its history, and which derivations of it are wanted (this
-- product's own; Nix manual, "Building").
use Rattle.std.specs.Prelude.{◌≡◌, ◌||◌, ◌&&◌, ◌==◌, not, Bool, true, false, ℕ, zero, suc, Option, Some, None, List, [], ◌∷◌, length, filter, map, codes, slice_get, Contains, if◌then◌else◌}
use Rattle.std.specs.List.{list_any, list_all, position, position_or_len, range_with_len}
use Rattle.serde_json.specs.Data.{Members}
use Rattle.nix_names.specs.Bytes.{Path, Name}
use Rattle.nix_names.specs.Names.{same_bytes}
use Rattle.nix_drv.specs.Derivation.{Drv, EnvEntry, Output}
use Rattle.drv_graph.specs.declared.profile.Profile.{Profile}
use Rattle.drv_graph.specs.declared.profile.Profile.TheVariants.{Plain, Nix}
use Rattle.drv_graph.specs.Nodes.{Node, inputs_of, paths_of}
use Rattle.drv_graph.specs.PlanNodes.{output_paths_of}
use Rattle.drv_graph.specs.Plans.{Graph}
use Rattle.valid_table.specs.Entries.{registered, paths_registered as registered_paths}
use Rattle.valid_table.specs.declared.entry.Entry.{Entry}
use Rattle.run_states.specs.Structured.{listed_features}
use Rattle.run_states.specs.Systems.{Platform, first_missing, is_builtin, lacks_program, missing_feature}
use Rattle.run_states.specs.States.{Rows, phase_of, state}
use Rattle.drv_graph.specs.Twins.{are_twins_at}
use Rattle.run_states.specs.declared.state.Event.{Event}
use Rattle.run_states.specs.declared.state.Refusal.{Refusal}
use Rattle.run_states.specs.declared.state.Refusal.TheVariants.{WrongSystem, Unsupported, MissingFeature, MissingSource, PartlyValid}
use Rattle.run_states.specs.declared.state.State.{State}
use Rattle.run_states.specs.declared.precondition.Precondition.{Precondition}
use Rattle.run_states.specs.declared.precondition.Precondition.TheVariants.{AllValid, Hindered, Free}

-- What a run is over: the plan, and the system for which it builds.
pub record Run : Type 0 where
  pub graph : Graph
  pub system : Platform

-- What a run builds by: the profile of its plan, and the system for which it builds.
pub record Terms : Type 0 where
  pub profile : Profile
  pub system : Platform

-- what a run builds by
abbrev pub terms_of : Run → Terms
terms_of run = record { profile = run.graph.profile; system = run.system }

-- What has happened: the entries that the journal opened with, all its entries now, and the events
-- since.
pub record History : Type 0 where
  pub opening : List Entry
  pub entries : List Entry
  pub events : List Event

-- whether some entry registers the path
abbrev pub is_valid : List Entry → Path → Bool
is_valid entries path = list_any (same_bytes path) (registered_paths (registered entries))

-- keys of the environment that ask for what is left out under `plain`: files, structured attributes,
-- graphs of references, and the checks of references
abbrev pub left_out : List Name
left_out = codes "passAsFile" ∷ codes "__json" ∷ codes "exportReferencesGraph"
    ∷ codes "allowedReferences" ∷ codes "allowedRequisites" ∷ codes "disallowedReferences"
    ∷ codes "disallowedRequisites" ∷ []

-- whether a derivation has one of those keys
abbrev pub has_left_out : Drv → Bool
has_left_out drv = list_any (λ (e : EnvEntry). list_any (same_bytes e.key) left_out) drv.env

-- whether a declared hash of a derivation is that of a whole tree
abbrev pub has_tree : Drv → Bool
has_tree drv = list_any (λ (o : Output). same_bytes o.algo (codes "r:sha256")) drv.outputs

-- whether a derivation is for a system: under `plain` its system is of this name; under `nix` it
-- has a builtin builder, for any system, or its system is of this name and isn't `builtin`
abbrev pub is_for_under : Profile → Platform → Drv → Bool
is_for_under Plain system drv = same_bytes drv.system system.name
is_for_under Nix system drv = is_builtin drv
    || (same_bytes drv.system system.name && not (same_bytes drv.system (codes "builtin")))

-- whether a derivation is for the run's system
abbrev pub is_for : Terms → Drv → Bool
is_for terms drv = is_for_under terms.profile terms.system drv

-- whether a derivation asks for what is left out: under `plain` a builtin builder, one of those
-- keys, or the hash of a whole tree; under `nix` a builtin builder for which there is no program
abbrev pub is_unsupported_under : Profile → Platform → Drv → Bool
is_unsupported_under Plain system drv = is_builtin drv || has_left_out drv || has_tree drv
is_unsupported_under Nix system drv = lacks_program system drv

-- whether a derivation asks a run for what is left out
abbrev pub is_unsupported : Terms → Drv → Bool
is_unsupported terms drv = is_unsupported_under terms.profile terms.system drv

-- the number of the first feature that a derivation asks for and a system doesn't offer; none under
-- `plain`
abbrev pub missing_feature_under : Profile → Platform → Drv → Option ℕ
missing_feature_under Plain system drv = None
missing_feature_under Nix system drv = missing_feature system drv

-- the number of the first feature that a derivation asks for and the run's system doesn't offer
abbrev pub missing_of : Terms → Drv → Option ℕ
missing_of terms drv = missing_feature_under terms.profile terms.system drv

-- the first of two causes
abbrev pub or_else : Option Refusal → Option Refusal → Option Refusal
or_else (Some cause) other = Some cause
or_else None other = other

-- the cause with this number, if there is a number
abbrev pub cause_at : (ℕ → Refusal) → Option ℕ → Option Refusal
cause_at cause (Some n) = Some (cause n)
cause_at cause None = None

-- the first cause that lies in what a derivation asks for: something left out, a feature that the
-- system doesn't offer
abbrev pub demand_cause : Profile → Platform → Drv → Option Refusal
demand_cause profile system drv =
    or_else (if is_unsupported_under profile system drv then Some Unsupported else None)
    (cause_at MissingFeature (missing_feature_under profile system drv))

-- the cause that lies in what a derivation with structured attributes asks for under `nix`, where
-- its builder is supported
abbrev pub structured_cause : Platform → Option Members → Option Refusal
structured_cause system attributes =
    cause_at MissingFeature (first_missing system (listed_features attributes))

-- the first cause for which a derivation can't be begun, after these entries: another system,
-- something left out, a feature that the system doesn't offer, an output that is valid while
-- another isn't, a source that isn't valid
abbrev pub own_cause : Terms → (opening : List Entry) → Drv → Option Refusal
own_cause terms opening drv =
    or_else (if is_for terms drv then None else Some WrongSystem)
    (or_else (if is_unsupported terms drv then Some Unsupported else None)
    (or_else (cause_at MissingFeature (missing_of terms drv))
    (or_else (cause_at PartlyValid (position (is_valid opening) (output_paths_of drv)))
    (cause_at MissingSource (position (λ path. not (is_valid opening path)) drv.sources)))))

-- the precondition of a derivation with this cause, if it has one
abbrev pub by_cause : Option Refusal → Precondition
by_cause (Some cause) = Hindered cause
by_cause None = Free

-- a derivation's precondition after these entries: all its outputs are valid, else it has a cause
-- for which it can't be begun, else neither
abbrev pub precondition_of : Terms → (opening : List Entry) → Drv → Precondition
precondition_of terms opening drv =
    if list_all (is_valid opening) (output_paths_of drv) then AllValid
    else by_cause (own_cause terms opening drv)

-- the numbers of a derivation's inputs, in its text's order
abbrev pub input_numbers : List Node → Drv → List ℕ
input_numbers nodes drv = map (λ path. position_or_len (same_bytes path) (paths_of nodes))
    (inputs_of drv)

-- the numbers of a node's inputs; the empty list where there is no node
abbrev pub inputs_at : List Node → Option Node → List ℕ
inputs_at nodes (Some node) = input_numbers nodes node.drv
inputs_at nodes None = []

-- a node's precondition; Free where there is no node
abbrev pub precondition_at : Terms → (opening : List Entry) → Option Node → Precondition
precondition_at terms opening (Some node) = precondition_of terms opening node.drv
precondition_at terms opening None = Free

-- A derivation is wanted: it is a root, or an input of a wanted user whose outputs aren't all valid
-- and that has no own cause.
pub data IsWanted (run : Run) (opening : List Entry) : ℕ → Type 0 where
  wanted_root : (d : ℕ) → Contains run.graph.roots d → IsWanted run opening d
  wanted_input : (user d : ℕ) → IsWanted run opening user
      → precondition_at (terms_of run) opening (slice_get run.graph.nodes user) ≡ Free
      → Contains (inputs_at run.graph.nodes (slice_get run.graph.nodes user)) d
      → IsWanted run opening d

-- whether a precondition is Free
abbrev pub is_free : Precondition → Bool
is_free Free = true
is_free precondition = false

-- whether a number is in a list
abbrev pub is_one_of : List ℕ → ℕ → Bool
is_one_of numbers n = list_any (λ m. m == n) numbers

-- whether a user has this input and is Free: not all of its outputs are valid, and it has no cause
-- of its own
abbrev pub is_used_by : Run → (opening : List Entry) → (input user : ℕ) → Bool
is_used_by run opening input user =
    is_free (precondition_at (terms_of run) opening (slice_get run.graph.nodes user))
    && is_one_of (inputs_at run.graph.nodes (slice_get run.graph.nodes user)) input

-- whether a derivation is wanted over at most `users` users: it is a root, or an input of a Free
-- user that is wanted over at most one fewer
unfoldable pub is_wanted_over : (users : ℕ) → Run → (opening : List Entry) → ℕ → Bool
is_wanted_over zero run opening d = is_one_of run.graph.roots d
is_wanted_over (suc users) run opening d = is_wanted_over users run opening d
    || list_any (λ user. is_used_by run opening d user && is_wanted_over users run opening user)
    (range_with_len 0 (length run.graph.nodes))

-- whether a derivation is wanted
abbrev pub is_wanted : Run → (opening : List Entry) → ℕ → Bool
is_wanted run opening d = is_wanted_over (length run.graph.nodes) run opening d

-- the earlier twins of a derivation: the wanted twins of smaller numbers
unfoldable pub earlier_twins : Run → (opening : List Entry) → ℕ → List ℕ
earlier_twins run opening d = filter
    (λ t. is_wanted run opening t
    && are_twins_at (slice_get run.graph.nodes t) (slice_get run.graph.nodes d))
    (range_with_len 0 d)

-- the rows from which the states of a run follow
abbrev pub rows_of : Run → (opening : List Entry) → List Event → Rows
rows_of run opening events = record {
  inputs = λ d. inputs_at run.graph.nodes (slice_get run.graph.nodes d);
  twins = earlier_twins run opening;
  precondition = λ d. precondition_at (terms_of run) opening (slice_get run.graph.nodes d);
  phase = phase_of events;
}

-- the state of a derivation in a history
abbrev pub state_in : Run → History → ℕ → State
state_in run history d = state (rows_of run history.opening history.events) d

-- the history that opens with some entries
abbrev pub opened : List Entry → History
opened entries = record { opening = entries; entries = entries; events = [] }
