-- The archives of a job's outputs, by their paths.
use Rattle.std.specs.Prelude.{◌≡◌, List, Option, nat_eq, option_map}
use Rattle.std.specs.Cmp.Lexicographic.{pointwise}
use Rattle.indexmap.specs.IndexMap.{IndexMap, get}
use Rattle.nix_names.specs.Bytes.{Path}
use Rattle.valid_table.specs.PathInfos.{NarInfo}
use Rattle.valid_table.specs.declared.entry.Registration.{Registration}
use Rattle.build_outcome.specs.Checks.{record_at}

-- the archive that is kept under a path, where one or none is
abbrev pub kept_nar : {S : Type 0} → IndexMap Path (Option NarInfo) S → Path
    → Option (Option NarInfo)
kept_nar nars = get (pointwise nat_eq) nars

-- each path has the archive by its first registration
abbrev pub AreNars : (kept : Path → Option (Option NarInfo)) → List Registration → Type 0
AreNars kept known = (path : Path)
    → kept path ≡ option_map (λ (r : Registration). r.info.nar) (record_at known path)
