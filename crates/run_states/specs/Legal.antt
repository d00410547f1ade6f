-- *Legal*: which histories a run may have (this product's own; the closure invariant is that of
-- Dolstra's thesis, section 5.5).
use Rattle.std.specs.Prelude.{◌≡◌, ◌↔◌, ◌⊎◌, ◌<◌, ◌++◌, Bool, true, false, ℕ, Some, List, [], ◌∷◌, length, count_by, slice_get, Contains}
use Rattle.nix_names.specs.Bytes.{Path}
use Rattle.nix_names.specs.Rising.{IsRising}
use Rattle.nix_names.specs.declared.digest.Digest.{Digest}
use Rattle.nix_drv.specs.Derivation.{Drv}
use Rattle.drv_graph.specs.Kinds.{HasKind}
use Rattle.drv_graph.specs.Nodes.{Node}
use Rattle.drv_graph.specs.PlanNodes.{output_paths_of}
use Rattle.drv_graph.specs.Plans.{Graph}
use Rattle.drv_graph.specs.declared.kinds.Kind.TheVariants.{Fixed}
use Rattle.nix_names.specs.declared.method.Method.{Method}
use Rattle.valid_table.specs.Closure.{Reaches}
use Rattle.valid_table.specs.Entries.{paths_registered, registered}
use Rattle.valid_table.specs.PathInfos.{PathInfo}
use Rattle.valid_table.specs.Valid.{IsJournal, IsValid}
use Rattle.valid_table.specs.declared.entry.Entry.{Entry}
use Rattle.valid_table.specs.declared.entry.Entry.TheVariants.{Done}
use Rattle.valid_table.specs.declared.entry.Registration.{Registration}
use Rattle.build_outcome.specs.Jobs.{seeds_of}
use Rattle.run_states.specs.Runs.{History, IsWanted, Run, state_in}
use Rattle.run_states.specs.States.{Begun, phase_of}
use Rattle.build_outcome.specs.Verdicts.{IsCyclic}
use Rattle.run_states.specs.declared.state.Event.{Event}
use Rattle.run_states.specs.declared.state.Event.TheVariants.{Begin, Done as Finish, Fail}
use Rattle.build_outcome.specs.declared.reason.Reason.{Reason}
use Rattle.run_states.specs.declared.state.State.TheVariants.{Ready}

-- whether an event is a Begin
abbrev pub is_begin : Event → Bool
is_begin (Begin d lease) = true
is_begin event = false

-- how many Begins there are
abbrev pub begins : List Event → ℕ
begins events = count_by is_begin events

-- the history after a Begin of derivation `d`, whose lease has the count of earlier Begins as its
-- number
abbrev pub begun : History → (d : ℕ) → History
begun history d = record {
  opening = history.opening;
  entries = history.entries;
  events = history.events ++ Begin d (begins history.events) ∷ [];
}

-- the history after a Done of derivation `d`, with the entry that it registers
abbrev pub ended : History → (d lease : ℕ) → Entry → History
ended history d lease entry = record {
  opening = history.opening;
  entries = history.entries ++ entry ∷ [];
  events = history.events ++ Finish d lease ∷ [];
}

-- the history after a Fail of derivation `d`
abbrev pub failed : History → (d lease : ℕ) → Reason → History
failed history d lease reason = record {
  opening = history.opening;
  entries = history.entries;
  events = history.events ++ Fail d lease reason ∷ [];
}

-- *Permitted*: a path that one of the seeds reaches, or an own output
abbrev pub MayRefer : List Registration → (seeds outputs : List Path) → (path : Path) → Type 0
MayRefer registrations seeds outputs path =
    ((seed : Path) × Contains seeds seed × Reaches registrations seed path)
    ⊎ Contains outputs path

-- The permitted paths, in rising order.
pub record ArePermitted (registrations : List Registration)
    (seeds outputs permitted : List Path) : Type 0 where
  pub rising : IsRising permitted
  pub each : (path : Path) → Contains permitted path ↔ MayRefer registrations seeds outputs path

-- The entry of a derivation that was built, with these records of its outputs, in its text's order.
pub record IsEntryOf (node : Node) (infos : List PathInfo) (entry : Entry) : Type 0 where
  pub outputs : List Registration
  pub is_done : entry ≡ Done node.path outputs
  pub rising : IsRising (paths_registered outputs)
  pub each : (path : Path) (info : PathInfo)
      → Contains outputs (record { path = path; info = info })
      ↔ ((n : ℕ) × (slice_get (output_paths_of node.drv) n ≡ Some path)
      × (slice_get infos n ≡ Some info))

-- each reference in some records is permitted to a derivation of a plan, after some entries
abbrev pub ArePermittedTo : Graph → List Entry → Node → List PathInfo → Type 0
ArePermittedTo graph entries node infos = (info : PathInfo) (path : Path) → Contains infos info
    → Contains info.references path
    → MayRefer (registered entries) (seeds_of graph.nodes node.drv) (output_paths_of node.drv) path

-- Records of a derivation's outputs: one for each, with the declared digest by the declared method
-- where it is fixed.
pub record AreOutputRecords (drv : Drv) (infos : List PathInfo) : Type 0 where
  pub count : length infos ≡ length drv.outputs
  pub fixed : (method : Method) (digest : Digest) → HasKind drv (Fixed method digest)
      → (info : PathInfo) → Contains infos info
      → info.digest ≡ Some (record { method = method; digest = digest })

-- Records of a derivation's outputs by which no two different outputs lead to each other.
pub record AreAcyclicRecords (drv : Drv) (infos : List PathInfo) : Type 0 where
  pub own : AreOutputRecords drv infos
  pub acyclic : IsCyclic (output_paths_of drv) infos → ⊥

-- none of a derivation's outputs is valid after some entries
abbrev pub AreNewOutputs : List Entry → Drv → Type 0
AreNewOutputs entries drv = (path : Path) → Contains (output_paths_of drv) path
    → IsValid (registered entries) path → ⊥

-- What a Done of a derivation may register after some entries.
pub record IsAllowed (graph : Graph) (entries : List Entry) (node : Node) (infos : List PathInfo)
    : Type 0 where
  pub records : AreAcyclicRecords node.drv infos
  pub new : AreNewOutputs entries node.drv
  pub permitted : ArePermittedTo graph entries node infos

-- A legal history: it opens with a journal's entries, and each event is allowed after those before
-- it.
pub data IsLegal (run : Run) : History → Type 0 where
  legal_opening : (entries : List Entry) → IsJournal entries
      → IsLegal run (record { opening = entries; entries = entries; events = [] })
  legal_begin : (history : History) (d : ℕ) → IsLegal run history
      → d < length run.graph.nodes → IsWanted run history.opening d → state_in run history d ≡ Ready
      → IsLegal run (begun history d)
  legal_done : (history : History) (d lease : ℕ) (node : Node) (infos : List PathInfo)
      (entry : Entry) → IsLegal run history
      → phase_of history.events d ≡ Begun lease → slice_get run.graph.nodes d ≡ Some node
      → IsAllowed run.graph history.entries node infos → IsEntryOf node infos entry
      → IsLegal run (ended history d lease entry)
  legal_fail : (history : History) (d lease : ℕ) (reason : Reason) → IsLegal run history
      → phase_of history.events d ≡ Begun lease → IsLegal run (failed history d lease reason)
