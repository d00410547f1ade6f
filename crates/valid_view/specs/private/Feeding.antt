-- Entries on their way to be shown. One that is appended waits in a queue. It is put into the one
-- list, and held; it is handed over to the writer's end, with the prefix of the list that it
-- ends; and all that was handed over is shown at once. A refusal stops it at any of these steps.
use Rattle.std.specs.Prelude.{◌≡◌, Bool, true, false, List, [], ◌∷◌, ◌++◌, map, Option, Some, None, Result, Ok, Err}
use Rattle.logbook.specs.Pages.{Book}
use Rattle.valid_table.specs.Entries.{registered_by}
use Rattle.valid_table.specs.declared.entry.Entry.{Entry}
use Rattle.valid_view.specs.private.ShownTables.{ShownState}
use Rattle.valid_view.specs.Shown.{IsShowable}
use Rattle.valid_view.specs.declared.shown_table.Op.{Op}

-- The entries that are shown, and those that were handed over and not shown yet.
pub record WriterEndValue : Type 0 where
  pub shown : List Entry
  pub handed : List Entry

-- The entries that are shown, those that were handed over, the one that is held, if there is one,
-- and those that are in no list yet.
pub record FeedValue : Type 0 where
  pub shown : List Entry
  pub handed : List Entry
  pub held : List Entry
  pub queue : List Entry

-- all that waits to be shown
abbrev pub pending_of : FeedValue → List Entry
pending_of f = f.handed ++ (f.held ++ f.queue)

-- all that is in the one list
abbrev pub known_of : FeedValue → List Entry
known_of f = (f.shown ++ f.handed) ++ f.held

-- what is shown, with the entry of one operation more
abbrev pub with_op : ShownState → Op → ShownState
with_op s op =
    record { registrations = s.registrations ++ registered_by op.entry; prefix = op.prefix }

-- the entries of what was handed over
abbrev pub entries_of : List Op → List Entry
entries_of ops = map (λ (op : Op). op.entry) ops

-- what is held, as a list
abbrev pub ops_of : Option Op → List Op
ops_of None = []
ops_of (Some op) = op ∷ []

-- some operations follow some entries of the list with this name: each adds the next entry, and has
-- the prefix of the list that ends with it
abbrev pub Follows : Book → List Entry → List Op → Type 0
Follows book entries [] = Unit {0}
Follows book entries (op ∷ ops) = (op.prefix.book ≡ book)
    × (op.prefix.entries ≡ entries ++ op.entry ∷ []) × Follows book (entries ++ op.entry ∷ []) ops

-- What waits fits together: all that is in the one list is what is shown, what was handed over and
-- what is held; and all of it with the queue may be shown.
pub record IsFeed (book : Book) (shown handed : List Entry) (held : List Op)
    (queue prefix : List Entry) : Type 0 where
  pub follows : Follows book (shown ++ handed) held
  pub prefix_is : prefix ≡ (shown ++ handed) ++ entries_of held
  pub showable : IsShowable (prefix ++ queue)

-- what is answered where the next entry is to be taken from a queue: `true`, and it is held;
-- `false`, where there is none; or a fault, and nothing changes
abbrev pub Takes : {E : Type 0} → (old held new : List Entry) → Result Bool E → Type 0
Takes old held new (Ok true) =
    (entry : Entry) × (held ≡ entry ∷ []) × (old ≡ entry ∷ new)
Takes old held new (Ok false) = (held ≡ []) × (old ≡ []) × (new ≡ [])
Takes old held new (Err fault) = (held ≡ []) × (new ≡ old)
