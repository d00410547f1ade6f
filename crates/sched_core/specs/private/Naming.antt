-- Which paths the lines of a book's report name.
use Rattle.std.specs.Prelude.{◌≡◌, ◌<◌, ℕ, Option, Some, List, All, length, slice_get}
use Rattle.nix_names.specs.Bytes.{Path}
use Rattle.drv_graph.specs.Nodes.{Node}
use Rattle.valid_table.specs.Entries.{registered}
use Rattle.valid_table.specs.Valid.{IsValid}
use Rattle.valid_table.specs.declared.entry.Entry.{Entry}
use Rattle.build_outcome.specs.Jobs.{seeds_of}
use Rattle.build_outcome.specs.declared.reason.Reason.{Reason}
use Rattle.run_states.specs.StateTables.{StateTable, table_state}
use Rattle.run_states.specs.declared.state.State.TheVariants.{Failed}
use Rattle.run_report.specs.NamedPaths.{IsNamedIn, named_at}

-- each path that a derivation which failed is built from is valid after some entries
abbrev pub HadSeeds : StateTable → List Entry → Type 0
HadSeeds table entries = (d : ℕ) (reason : Reason) (node : Node)
    → table_state table d ≡ Failed reason → slice_get table.graph.nodes d ≡ Some node
    → All (IsValid (registered entries)) (seeds_of table.graph.nodes node.drv)

-- a list has the path that the line of each derivation names, after some entries
abbrev pub AreNamed : StateTable → List Entry → (named : List (Option Path)) → Type 0
AreNamed table entries named = (d : ℕ) → d < length table.graph.nodes
    → IsNamedIn table.graph entries d (table_state table d) (named_at named d)
