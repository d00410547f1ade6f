-- A journal with one more entry.
use Rattle.std.proofs.Common.{List, [], ◌∷◌, ◌++◌, sym, subst, ◌≡◌, rules}
use Rattle.std.specs.Prelude.{All}
use Rattle.std.proofs.lemmas.List.{append-nil, append_assoc}
use Rattle.std.proofs.lemmas.List.Elements.{All-push}
use Rattle.valid_table.specs.Adding.{AreClosed}
use Rattle.valid_table.specs.Entries.{registered, registered_by}
use Rattle.valid_table.specs.Valid.{HasDrvPath, IsClosedAfter, IsJournal, IsOnce, IsValid, references_of}
use Rattle.valid_table.specs.declared.entry.Entry.{Entry}
use Rattle.valid_table.specs.declared.entry.Registration.{Registration}
use Rattle.valid_table.proofs.JournalLists.{registered-append}

-- what entries with one more after them register
pub registered_push : (entries : List Entry) (entry : Entry) → registered (entries ++ entry ∷ [])
    ≡ registered entries ++ registered_by entry
registered_push entries entry = search (rules, registered-append, append-nil)

-- closed entries stay so with one more whose references are valid
pub closed_push :
    (earlier : List Registration) (entries : List Entry) (entry : Entry) →
    IsClosedAfter earlier entries →
    All (IsValid ((earlier ++ registered entries) ++ registered_by entry))
    (references_of (registered_by entry)) →
    IsClosedAfter earlier (entries ++ entry ∷ [])
closed_push earlier [] entry closed valid = (
  subst (λ rs. All (IsValid (rs ++ registered_by entry)) (references_of (registered_by entry)))
      (append-nil earlier) valid,
  tt,
)
closed_push earlier (first ∷ entries) entry closed valid = (
  closed.0,
  closed_push (earlier ++ registered_by first) entries entry closed.1
      (subst (λ rs. All (IsValid (rs ++ registered_by entry)) (references_of (registered_by entry)))
      (sym (append_assoc earlier (registered_by first) (registered entries))) valid),
)

-- a journal with one more entry is one
pub journal_push :
    (entries : List Entry) (entry : Entry) →
    IsJournal entries →
    HasDrvPath entry →
    AreClosed (registered entries) (registered_by entry) →
    IsOnce (registered entries ++ registered_by entry) →
    IsJournal (entries ++ entry ∷ [])
journal_push entries entry journal derived closed once =
    search (rules, closed_push, registered_push, All-push)
