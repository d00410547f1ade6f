-- The one list of entries of which every shown list is a prefix, and what a step on it tells.
use Rattle.std.specs.Prelude.{ℕ, ◌≡◌, ◌<◌, ◌+◌, ◌^◌, ◌⊎◌, ◌==◌, true, List, [], ◌∷◌, ◌++◌, length, MatchBool}
use mathlib.Core.List.{IsPrefix}
use Rattle.logbook.specs.Pages.{Book, Cell, Named, Step, View}
use Rattle.valid_table.specs.declared.entry.Entry.{Entry}
use Rattle.valid_view.specs.Shown.{IsShowable}

-- A prefix of the one list, and which list that is.
pub record PrefixValue : Type 0 where
  pub book : Book
  pub entries : List Entry

-- The first word is the list's length, and the list may be shown. A book has two words, of which
-- this one leaves the second at 0.
pub record IsPrefixKept (cells : List Cell) (entries : List Entry) : Type 0 where
  pub words : cells ≡ (length entries, true) ∷ (0, true) ∷ []
  pub showable : IsShowable entries

-- the word that holds the length of a list
abbrev pub head_of : Book → Named
head_of book = record { tracked = true; key = 0; book = book }

-- the entry was added to all that had been seen, or the list was longer, and all of it is seen now
abbrev pub Adds : Step Entry → View Entry ℕ → ℕ → View Entry ℕ → Type 0
Adds step before found after =
    MatchBool (found == step.old)
    ((after.0 ≡ before.0 ++ step.ask ∷ []) × IsShowable after.0)
    ((length after.0 ≡ found) × IsShowable after.0)

-- Why nothing can be added to the known entries of the list with this name: the list that was found
-- is longer than these, or has as many entries as can be counted.
abbrev pub Hinders : Book → List Entry → (found : PrefixValue) → Type 0
Hinders book known found = (found.book ≡ book) × IsPrefix known found.entries
    × ((length known < length found.entries) ⊎ (length found.entries + 1 ≡ 2 ^ 64))
