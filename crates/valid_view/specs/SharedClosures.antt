-- What stays of the answers by one list where the list goes on.
use Rattle.std.specs.Prelude.{◌≡◌, List, All}
use mathlib.Core.List.{IsPrefix}
use Rattle.nix_names.specs.Bytes.{Path}
use Rattle.valid_table.specs.Closure.{IsClosure}
use Rattle.valid_table.specs.Entries.{registered}
use Rattle.valid_table.specs.PathInfos.{PathInfo}
use Rattle.valid_table.specs.Valid.{IsValid, Registers}
use Rattle.valid_table.specs.declared.entry.Entry.{Entry}
use Rattle.valid_table.specs.declared.entry.Registration.{Registration}
use Rattle.valid_view.specs.Answers.{AreRecords}
use Rattle.valid_view.specs.Shown.{IsShowable}

-- where paths are valid in a list, their closure is the same in each two lists that begin with it
-- and may be shown
abbrev pub ClosureIsShared : Type 0
ClosureIsShared = (common a b : List Entry) (roots all : List Path) → IsShowable a
    → IsShowable b → IsPrefix common a → IsPrefix common b
    → All (IsValid (registered common)) roots
    → IsClosure (registered a) roots all → IsClosure (registered b) roots all

-- then so are the records of their closure
abbrev pub RecordsAreShared : Type 0
RecordsAreShared = (common a b : List Entry) (roots : List Path) (rows : List Registration)
    → IsShowable a → IsShowable b → IsPrefix common a → IsPrefix common b
    → All (IsValid (registered common)) roots
    → AreRecords (registered a) roots rows → AreRecords (registered b) roots rows

-- what is valid in a list is valid in each list that begins with it and may be shown, and has there
-- the record that it had and no other
abbrev pub ValidityLasts : Type 0
ValidityLasts = (before after : List Entry) → IsPrefix before after → IsShowable after
    → (path : Path) → (IsValid (registered before) path → IsValid (registered after) path)
    × ((info : PathInfo) → Registers (registered before) path info
    → Registers (registered after) path info
    × ((other : PathInfo) → Registers (registered after) path other → other ≡ info))
