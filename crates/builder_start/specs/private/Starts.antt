-- Where the closures of a graph start.
use Rattle.std.specs.Prelude.{◌↔◌, ◌⊎◌, List, Contains}
use Rattle.nix_names.specs.Bytes.{Path}
use Rattle.valid_table.specs.declared.entry.Registration.{Registration}
use Rattle.build_outcome.specs.declared.job.WholeInput.{WholeInput}
use Rattle.builder_start.specs.Graphs.{IsOutputReached}

-- these are some paths, and the outputs of the whole inputs whose files they reach
abbrev pub AreStarts : List Registration → List WholeInput → (roots starts : List Path) → Type 0
AreStarts rows whole roots starts = (path : Path) → Contains starts path
    ↔ (Contains roots path ⊎ IsOutputReached rows whole roots path)

-- a path is an output of a whole input whose derivation's file is among some paths
abbrev pub IsOutputAmong : (paths : List Path) → List WholeInput → Path → Type 0
IsOutputAmong paths whole path = (input : WholeInput) × Contains whole input
    × Contains paths input.drv × Contains input.outputs.items path
