-- Steps that keep the rule of a view.
use Rattle.std.proofs.Common.{◌≡◌, ◌≢◌, ◌∙◌, ℕ, List, [], ◌∷◌, ◌++◌, MatchResult, OnOk, Result, Ok, Err, fold, refl, sym, ap, subst, ⊎_elim, append_assoc, rules}
use Rattle.std.proofs.lemmas.List.{append-nil}
use lib.ListN.{get_elem?}
use mathlib.Core.List.{IsPrefix}
use mathlib.Core.Option.{some}
use Rattle.crossbeam_utils.specs.Register.{Admits, TurnsAt}
use Rattle.atomic_table.proofs.Lists.{at_set, at_snoc}
use Rattle.logbook.specs.Pages.{Book}
use Rattle.valid_table.proofs.AddedEntries.{registered_push}
use Rattle.valid_table.specs.Entries.{registered, registered_by}
use Rattle.valid_table.specs.declared.entry.Entry.{Entry}
use Rattle.valid_view.specs.private.Feeding.{Follows, entries_of, with_op}
use Rattle.valid_view.specs.private.ShownTables.{Holds, IsShownTable, SeesAll, ShownState}
use Rattle.valid_view.specs.declared.shown_table.Op.{Op}
use Rattle.valid_view.proofs.Prefixes.{prefix_self, prefix_trans}

-- who has seen nothing may come at any time
pub admits : (book : Book) → Admits (Holds book) []
admits book x views holds = (
  holds.0,
  λ seat seen at. ⊎_elim (holds.1 seat seen)
      (λ (none : [] ≡ seen). subst (λ l. IsPrefix l x.prefix.entries) none (x.prefix.entries, refl))
      (at_snoc views [] seen seat at),
)

-- a shown table alone keeps the rule, where nothing was seen
pub alone : (book : Book) (x : ShownState) → IsShownTable book x → Holds book x ([] ∷ [])
alone book x shown = admits book x [] (shown, λ seat seen at. absurd (cc at))

-- a step that goes on to a longer list keeps the rule
pub grows : (book : Book) (seat : ℕ) (had : List Entry) (x y : ShownState) → IsShownTable book y
    → IsPrefix x.prefix.entries y.prefix.entries
    → TurnsAt (Holds book) seat had x y (SeesAll book)
grows book seat had x y shown up views holds at = (
  y.prefix.entries,
  (
    shown,
    λ j seen e. ⊎_elim
        (λ (t : (j ≡ seat) × (y.prefix.entries ≡ seen)). subst
        (λ (l : List Entry). IsPrefix l y.prefix.entries) t.1 (prefix_self y.prefix.entries))
        (λ (t : (j ≢ seat) × (get_elem? views j ≡ some seen)). prefix_trans seen x.prefix.entries
        y.prefix.entries (holds.1 j seen t.1) up)
        (at_set views seat j y.prefix.entries seen e),
  ),
  (holds.0, holds.1 seat had at, refl),
)

-- and so does a step that changes nothing
pub looks : (book : Book) (seat : ℕ) (had : List Entry) (x : ShownState)
    → TurnsAt (Holds book) seat had x x (SeesAll book)
looks book seat had x views holds at =
    grows book seat had x x holds.0 (prefix_self x.prefix.entries) views holds at

-- a shown table with what was handed over is one
pub shown_all : (book : Book) (s : ShownState) (ops : List Op) → IsShownTable book s
    → Follows book s.prefix.entries ops → IsShownTable book (fold with_op s ops)
shown_all book s [] shown follows = shown
shown_all book s (op ∷ ops) shown follows =
    let table : s.registrations ++ registered_by op.entry ≡ registered op.prefix.entries =
    ap (λ l. l ++ registered_by op.entry) shown.table
    ∙ (sym (registered_push s.prefix.entries op.entry) ∙ ap registered (sym follows.1)) in
    shown_all book (with_op s op) ops (record { named = follows.0; table = table })
    (subst (λ (l : List Entry). Follows book l ops) (sym follows.1) follows.2)

-- and its entries are those that it had, and then those
pub entries_all : (book : Book) (s : ShownState) (ops : List Op) → Follows book s.prefix.entries ops
    → (fold with_op s ops).prefix.entries ≡ s.prefix.entries ++ entries_of ops
entries_all book s [] follows = sym (append-nil s.prefix.entries)
entries_all book s (op ∷ ops) follows =
    entries_all book (with_op s op) ops
    (subst (λ (l : List Entry). Follows book l ops) (sym follows.1) follows.2)
    ∙ (ap (λ l. l ++ entries_of ops) follows.1
    ∙ append_assoc s.prefix.entries (op.entry ∷ []) (entries_of ops))

-- one more is handed over
pub follows_push : (book : Book) (entries : List Entry) (ops : List Op) (op : Op)
    → Follows book entries ops → op.prefix.book ≡ book
    → op.prefix.entries ≡ (entries ++ entries_of ops) ++ op.entry ∷ []
    → Follows book entries (ops ++ op ∷ [])
follows_push book entries [] op follows named next = search (rules, append-nil)
follows_push book entries (first ∷ ops) op follows named next = (
  follows.0,
  follows.1,
  follows_push book (entries ++ first.entry ∷ []) ops op follows.2 named
      (next ∙ ap (λ l. l ++ op.entry ∷ [])
      (sym (append_assoc entries (first.entry ∷ []) (entries_of ops)))),
)

-- what is shown once all was handed over, and how the step there keeps the rule
pub shows : (book : Book) (seat : ℕ) (had : List Entry) (s next : ShownState) (ops : List Op)
    → IsShownTable book s → Follows book s.prefix.entries ops → next ≡ fold with_op s ops
    → TurnsAt (Holds book) seat had s next (SeesAll book)
shows book seat had s next ops shown follows is = search (rules, grows, shown_all, entries_all)

-- what the writer's end keeps
abbrev pub IsWriterEnd : Book → ShownState → List Op → Type 0
IsWriterEnd book s ops = IsShownTable book s × Follows book s.prefix.entries ops

-- it is kept where an entry was to be handed over
pub appended :
    {A : Type 0} (book : Book) (s s' : ShownState) (ops ops' : List Op) (op : Op)
    (result : Result A Op) →
    s' ≡ s →
    MatchResult result (λ _. ops' ≡ ops ++ op ∷ []) (λ x. (x ≡ op) × (ops' ≡ ops)) →
    IsWriterEnd book s ops →
    op.prefix.book ≡ book →
    op.prefix.entries ≡ (s.prefix.entries ++ entries_of ops) ++ op.entry ∷ [] →
    IsWriterEnd book s' ops'
appended book s s' ops ops' op (Ok a) same is lined named next = search (rules, follows_push)
appended book s s' ops ops' op (Err x) same is lined named next = rw (same, is.1) lined

-- what is told once the writer was to show all that was handed over
abbrev pub Told : {A B : Type 0} → (s s' : ShownState) → (ops ops' : List Op) → Result A B → Type 0
Told s s' ops ops' result =
    MatchResult result (λ _. (s' ≡ fold with_op s ops) × (ops' ≡ []))
    (λ _. (s' ≡ s) × (ops' ≡ ops))

-- it is kept then
pub shown_lined :
    {A B : Type 0} (book : Book) (s s' : ShownState) (ops ops' : List Op) (result : Result A B) →
    Told s s' ops ops' result →
    IsWriterEnd book s ops →
    IsWriterEnd book s' ops'
shown_lined book s s' ops ops' (Ok a) is lined = search (rules, shown_all)
shown_lined book s s' ops ops' (Err b) is lined = rw (is.0, is.1) lined

-- and where it did, all is shown
pub shown_ok :
    {A B : Type 0} (book : Book) (s s' : ShownState) (ops ops' : List Op) (result : Result A B) →
    Told s s' ops ops' result →
    IsWriterEnd book s ops →
    OnOk result
    ((s'.prefix.entries ≡ s.prefix.entries ++ entries_of ops) × (entries_of ops' ≡ []))
shown_ok book s s' ops ops' (Ok a) is lined = search (rules, entries_all)
shown_ok book s s' ops ops' (Err b) is lined = tt
