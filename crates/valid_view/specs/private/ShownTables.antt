-- The rule of a view: what is shown is the table of a prefix of the one list, and each reader's
-- list is a prefix of that.
use Rattle.std.specs.Prelude.{ℕ, ◌≡◌, List}
use lib.ListN.{get_elem?}
use mathlib.Core.List.{IsPrefix}
use mathlib.Core.Option.{some}
use Rattle.logbook.specs.Pages.{Book}
use Rattle.valid_table.specs.Entries.{registered}
use Rattle.valid_table.specs.declared.entry.Entry.{Entry}
use Rattle.valid_table.specs.declared.entry.Registration.{Registration}
use Rattle.valid_view.specs.Prefixes.{PrefixValue}

-- What a view shows: what was registered, and the entries by which it was.
pub record ShownState : Type 0 where
  pub registrations : List Registration
  pub prefix : PrefixValue

-- What is shown is what a prefix of the list with this name registers.
pub record IsShownTable (book : Book) (x : ShownState) : Type 0 where
  pub named : x.prefix.book ≡ book
  pub table : x.registrations ≡ registered x.prefix.entries

-- each list that was seen begins the shown one
abbrev pub Keeps : List Entry → List (List Entry) → Type 0
Keeps entries views =
    (seat : ℕ) (seen : List Entry) → get_elem? views seat ≡ some seen → IsPrefix seen entries

-- the rule for what is shown, and for the lists that the readers and the writer have seen
abbrev pub Holds : Book → ShownState → List (List Entry) → Type 0
Holds book x views = IsShownTable book x × Keeps x.prefix.entries views

-- What a step tells, whether a reader enters or the writer publishes: the list that is shown
-- afterwards is seen, and the list that was seen before begins the one that was shown before.
abbrev pub SeesAll : Book → List Entry → (before after : ShownState) → List Entry → Type 0
SeesAll book had before after has =
    IsShownTable book before × IsPrefix had before.prefix.entries × (has ≡ after.prefix.entries)
