-- Graphs of references: the records of closures (Nix 2.8, `store-api.cc`: `exportReferences`).
use Rattle.std.specs.Prelude.{◌↔◌, ◌⊎◌, List, All, Contains, map}
use Rattle.nix_names.specs.Bytes.{Path}
use Rattle.nix_names.specs.Rising.{IsRising}
use Rattle.nix_names.specs.StorePaths.{IsDrvPath}
use Rattle.valid_table.specs.Closure.{IsClosure, Reaches}
use Rattle.valid_table.specs.Entries.{paths_registered}
use Rattle.valid_table.specs.Valid.{IsValid}
use Rattle.valid_table.specs.declared.entry.Registration.{Registration}
use Rattle.build_outcome.specs.declared.job.WholeInput.{WholeInput}

-- These are the records of the closure of some paths among some records, in rising order of paths.
pub record AreClosureRecords (rows : List Registration) (roots : List Path)
    (records : List Registration) : Type 0 where
  pub closure : IsClosure rows roots (paths_registered records)
  pub known : All (Contains rows) records

-- one of some paths reaches a path
abbrev pub IsReached : List Registration → (roots : List Path) → Path → Type 0
IsReached rows roots path = (root : Path) × Contains roots root × Reaches rows root path

-- a path is an output of a whole input whose derivation's file is reached from some paths
abbrev pub IsOutputReached : List Registration → List WholeInput → (roots : List Path) → Path
    → Type 0
IsOutputReached rows whole roots path = (input : WholeInput) × Contains whole input
    × IsReached rows roots input.drv × Contains input.outputs.items path

-- A path belongs to the graph of some paths: it is reached from one of them, or from an output of a
-- whole input whose derivation's file is. (What is reached from such an output alone is no reason
-- for more, even if it is a derivation's file.)
abbrev pub IsInGraph : List Registration → List WholeInput → (roots : List Path) → Path → Type 0
IsInGraph rows whole roots path = (start : Path)
    × (Contains roots start ⊎ IsOutputReached rows whole roots start) × Reaches rows start path

-- The paths of the graph of some paths, in rising order.
pub record AreGraphPaths (rows : List Registration) (whole : List WholeInput) (roots : List Path)
    (paths : List Path) : Type 0 where
  pub rising : IsRising paths
  pub each : (path : Path) → Contains paths path ↔ IsInGraph rows whole roots path

-- These are the records of the graph of some paths among some records, in rising order of paths.
pub record IsGraph (rows : List Registration) (whole : List WholeInput) (roots : List Path)
    (graph : List Registration) : Type 0 where
  pub paths : AreGraphPaths rows whole roots (paths_registered graph)
  pub known : All (Contains rows) graph

-- The graph of some paths may be asked for: each derivation's file that is reached from them is
-- that of a whole input, and each output of such an input has a record.
pub record MayBeGraph (rows : List Registration) (whole : List WholeInput) (roots : List Path)
    : Type 0 where
  pub drvs : (path : Path) → IsReached rows roots path → IsDrvPath path
      → Contains (map (λ (input : WholeInput). input.drv) whole) path
  pub outputs : (path : Path) → IsOutputReached rows whole roots path → IsValid rows path
