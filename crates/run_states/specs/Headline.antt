-- What holds of every legal history: the sentences of the headline, over the definitions alone.
use Rattle.std.specs.Prelude.{◌≡◌, ◌↔◌, ◌<◌, ◌++◌, ℕ, Some, List, ◌∷◌, slice_get, Contains}
use Rattle.nix_names.specs.Bytes.{Path}
use Rattle.nix_names.specs.StorePaths.{IsDrvPath}
use Rattle.drv_graph.specs.Nodes.{Node}
use Rattle.valid_table.specs.Entries.{registered}
use Rattle.valid_table.specs.PathInfos.{PathInfo}
use Rattle.valid_table.specs.Valid.{AreReferencesValid, IsJournal, IsOnce, IsValid}
use Rattle.valid_table.specs.declared.entry.Entry.{Entry}
use Rattle.valid_table.specs.declared.entry.Registration.{Registration}
use Rattle.build_outcome.specs.Jobs.{seeds_of}
use Rattle.run_states.specs.Legal.{IsAllowed, IsEntryOf, IsLegal, MayRefer, begins}
use Rattle.run_states.specs.Runs.{History, Run}
use Rattle.run_states.specs.declared.state.Event.TheVariants.{Begin, Done as Finish}

-- a derivation begins at most once
abbrev pub BeginsOnce : Type 0
BeginsOnce = (run : Run) (history : History) → IsLegal run history → (d n m i j : ℕ)
    → slice_get history.events i ≡ Some (Begin d n) → slice_get history.events j ≡ Some (Begin d m)
    → i ≡ j

-- no lease has the number of another
abbrev pub LeasesApart : Type 0
LeasesApart = (run : Run) (history : History) → IsLegal run history → (d e n i j : ℕ)
    → slice_get history.events i ≡ Some (Begin d n) → slice_get history.events j ≡ Some (Begin e n)
    → i ≡ j

-- a lease has a number below the count of leases
abbrev pub LeasesBelow : Type 0
LeasesBelow = (run : Run) (history : History) → IsLegal run history → (d n i : ℕ)
    → slice_get history.events i ≡ Some (Begin d n) → n < begins history.events

-- each node of the plan stands at the path of a derivation's file
abbrev pub AreDrvPaths : Run → Type 0
AreDrvPaths run = (node : Node) → Contains run.graph.nodes node → IsDrvPath node.path

-- the entries are a journal: every valid path's references are valid, and no path is registered
-- twice
abbrev pub EntriesAreJournal : Type 0
EntriesAreJournal = (run : Run) (history : History) → AreDrvPaths run → IsLegal run history
    → IsJournal history.entries

-- What a derivation that was built registered, after the entries before, which go on from those
-- of the opening: one allowed record for each output. So its references are permitted, and a fixed
-- output has its declared hash.
pub record WasDone (run : Run) (history : History) (d : ℕ) : Type 0 where
  pub node : Node
  pub is_node : slice_get run.graph.nodes d ≡ Some node
  pub before : List Entry
  pub more : List Entry
  pub goes_on : before ≡ history.opening ++ more
  pub entry : Entry
  pub after : List Entry
  pub parts : history.entries ≡ before ++ entry ∷ after
  pub infos : List PathInfo
  pub allowed : IsAllowed run.graph before node infos
  pub is_entry : IsEntryOf node infos entry

-- each Done registered what it was allowed to
abbrev pub DonesAreAllowed : Type 0
DonesAreAllowed = (run : Run) (history : History) → IsLegal run history → (d lease : ℕ)
    → Contains history.events (Finish d lease) → WasDone run history d

-- all seeds of a derivation that has begun are valid, at its Begin and ever after
abbrev pub SeedsAreValid : Type 0
SeedsAreValid = (run : Run) (history : History) → IsLegal run history → (d lease : ℕ)
    → Contains history.events (Begin d lease)
    → (node : Node) → slice_get run.graph.nodes d ≡ Some node → (path : Path)
    → Contains (seeds_of run.graph.nodes node.drv) path
    → IsValid (registered history.entries) path

-- what is permitted stays the same while more is registered, where the seeds are valid, each
-- reference is valid, and no path is registered twice
abbrev pub PermittedStays : Type 0
PermittedStays = (first more : List Registration) (seeds outputs : List Path) (path : Path)
    → AreReferencesValid first → IsOnce (first ++ more)
    → ((seed : Path) → Contains seeds seed → IsValid first seed)
    → (MayRefer first seeds outputs path ↔ MayRefer (first ++ more) seeds outputs path)
