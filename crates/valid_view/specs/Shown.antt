-- *Shown*: which lists of entries a view may show, and how one goes on.
use Rattle.std.specs.Prelude.{◌++◌, [], ◌∷◌, List}
use Rattle.valid_table.specs.Entries.{registered}
use Rattle.valid_table.specs.Valid.{IsClosed, IsOnce}
use Rattle.valid_table.specs.declared.entry.Entry.{Entry}

-- What holds of each list that a view shows: each reference in an entry is registered by an earlier
-- entry or by the same one, and no path is registered twice.
pub record IsShowable (entries : List Entry) : Type 0 where
  pub closed : IsClosed entries
  pub once : IsOnce (registered entries)

-- a list that a view shows may go on with this entry
abbrev pub MayFollow : List Entry → Entry → Type 0
MayFollow entries entry = IsShowable (entries ++ entry ∷ [])
