-- What waits to be shown.
use Rattle.std.proofs.Common.{◌≡◌, ◌∙◌, Bool, true, false, List, [], ◌∷◌, ◌++◌, Ok, append_assoc, ap, refl, subst, sym, rules}
use Rattle.std.specs.Prelude.{All}
use Rattle.logbook.specs.Pages.{Book}
use Rattle.nix_names.specs.Rising.{IsRising}
use Rattle.valid_table.specs.Adding.{IsNew, IsValidWith}
use Rattle.valid_table.specs.Entries.{paths_registered, registered_by}
use Rattle.valid_table.specs.Valid.{references_of}
use Rattle.valid_table.specs.declared.entry.Entry.{Entry}
use Rattle.valid_view.specs.private.Feeding.{IsFeed, Takes, entries_of}
use Rattle.valid_view.specs.Shown.{IsShowable, MayFollow}
use Rattle.valid_view.specs.declared.refusal.FeedFault.{FeedFault}
use Rattle.valid_view.specs.declared.shown_table.Op.{Op}
use Rattle.valid_view.proofs.Showable.{showable_prefix, showable_push}

-- what is shown and what waits is what is in the one list, and the queue
pub all_of : (shown handed held queue : List Entry)
    → shown ++ (handed ++ (held ++ queue)) ≡ ((shown ++ handed) ++ held) ++ queue
all_of shown handed held queue = search (rules, append_assoc)

-- one more entry waits
pub feed_push :
    (book : Book) (shown handed : List Entry) (held : List Op) (queue prefix : List Entry)
    (entry : Entry) →
    IsFeed book shown handed held queue prefix →
    IsRising (paths_registered (registered_by entry)) →
    IsNew (shown ++ (handed ++ (entries_of held ++ queue))) entry →
    All (IsValidWith (shown ++ (handed ++ (entries_of held ++ queue))) entry)
    (references_of (registered_by entry)) →
    IsFeed book shown handed held (queue ++ entry ∷ []) prefix
feed_push book shown handed held queue prefix entry feed rising new closed =
    let all : shown ++ (handed ++ (entries_of held ++ queue)) ≡ prefix ++ queue =
    all_of shown handed (entries_of held) queue ∙ ap (λ l. l ++ queue) (sym feed.prefix_is) in
    record {
      follows = feed.follows;
      prefix_is = feed.prefix_is;
      showable = subst IsShowable (append_assoc prefix queue (entry ∷ []))
          (showable_push (prefix ++ queue) entry feed.showable rising
          (subst (λ (l : List Entry). IsNew l entry) all new)
          (subst (λ (l : List Entry). All (IsValidWith l entry)
          (references_of (registered_by entry))) all closed));
    }

-- the first entry of the queue may be the next one of the list
pub first_follows : (prefix : List Entry) (entry : Entry) (queue : List Entry)
    → IsShowable (prefix ++ (entry ∷ queue)) → MayFollow prefix entry
first_follows prefix entry queue showable =
    showable_prefix (prefix ++ entry ∷ []) queue
    (subst IsShowable (sym (append_assoc prefix (entry ∷ []) queue)) showable)

-- where nothing waits, nothing is held, and the queue is empty
pub nothing_waits : (handed held queue : List Entry) → handed ++ (held ++ queue) ≡ []
    → (held ≡ []) × (queue ≡ [])
nothing_waits [] [] queue none = (refl, none)
nothing_waits [] (entry ∷ held) queue none = absurd (cc none)
nothing_waits (entry ∷ handed) held queue none = absurd (cc none)

-- nothing was taken from an empty queue
pub nothing_taken : (old held new : List Entry) (taken : Bool)
    → Takes {E = FeedFault} old held new (Ok taken) → taken ≡ true → old ≡ [] → ⊥
nothing_taken old held new true takes is none = cc (sym takes.2 ∙ none)
nothing_taken old held new false takes is none = cc is
