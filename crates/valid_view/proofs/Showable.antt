-- Which lists of entries may be shown.
use Rattle.std.proofs.Common.{List, [], ◌∷◌, ◌++◌, rules}
use Rattle.std.specs.Prelude.{All}
use Rattle.std.specs.List.{IsDistinct}
use Rattle.nix_names.specs.Rising.{IsRising}
use Rattle.valid_table.specs.Adding.{IsNew, IsValidWith}
use Rattle.valid_table.specs.Entries.{paths_registered, registered_by}
use Rattle.valid_table.specs.Valid.{IsClosedAfter, references_of}
use Rattle.valid_table.specs.declared.entry.Entry.{Entry}
use Rattle.valid_table.specs.declared.entry.Registration.{Registration}
use Rattle.valid_table.proofs.AddedEntries.{closed_push, registered_push}
use Rattle.valid_table.proofs.JournalLists.{paths_of-append, registered-append}
use Rattle.valid_table.proofs.PathLists.{once_prefix}
use Rattle.valid_table.proofs.TakenIn.{once_more}
use Rattle.valid_view.specs.Shown.{IsShowable}

-- the list without entries
pub showable_none : IsShowable []
unfolding IsDistinct
showable_none = search rules

-- a prefix of a closed list is closed
closed_prefix : (earlier : List Registration) (entries more : List Entry)
    → IsClosedAfter earlier (entries ++ more) → IsClosedAfter earlier entries
closed_prefix earlier [] more closed = tt
closed_prefix earlier (entry ∷ entries) more closed =
    (closed.0, closed_prefix (earlier ++ registered_by entry) entries more closed.1)

-- a prefix of a list that may be shown may be shown
pub showable_prefix : (entries more : List Entry) → IsShowable (entries ++ more)
    → IsShowable entries
showable_prefix entries more showable =
    search (rules, closed_prefix, once_prefix, paths_of-append, registered-append)

-- and so may a list with an entry more whose paths are new and whose references are valid
pub showable_push :
    (entries : List Entry) (entry : Entry) →
    IsShowable entries →
    IsRising (paths_registered (registered_by entry)) →
    IsNew entries entry →
    All (IsValidWith entries entry) (references_of (registered_by entry)) →
    IsShowable (entries ++ entry ∷ [])
showable_push entries entry showable rising new closed =
    search (rules, closed_push, registered_push, once_more)
