-- The text of a journal has no wrong version, and no wrong line.
use Rattle.std.proofs.Common.{◌+◌, ◌++◌, ℕ, List, [], ◌∷◌, take, drop, get_or, inl, inr, ap, sym, subst, ◌∙◌, nat_eq, rules}
use Rattle.std.specs.Prelude.{◌⊎◌, All}
use Rattle.std.specs.Cmp.Lexicographic.{pointwise}
use Rattle.std.specs.List.{IsDistinct}
use Rattle.std.proofs.lemmas.List.{append_assoc, get_or_default}
use Rattle.std.proofs.lemmas.List.Elements.{Contains-append_left}
use Rattle.valid_table.specs.BadLines.{IsOtherVersion}
use Rattle.valid_table.specs.private.Entering.{AreUnknown}
use Rattle.valid_table.specs.Entries.{registered, registered_by}
use Rattle.valid_table.specs.LineFaults.{IsNotClosedAt, IsTwiceAt}
use Rattle.valid_table.specs.Texts.{IsJournalText}
use Rattle.valid_table.specs.Valid.{IsClosedAfter, IsJournal, IsOnce}
use Rattle.valid_table.specs.declared.entry.Entry.{Entry}
use Rattle.valid_table.specs.declared.entry.Registration.{Registration}
use Rattle.valid_table.proofs.CheckedEntries.{entry_lines_are, up_to}
use Rattle.valid_table.proofs.CheckedJournal.{AreRight, IsRightAfter, none_wrong, wrong_line}
use Rattle.valid_table.proofs.JournalLists.{paths_of-append}
use Rattle.valid_table.proofs.PathLists.{once_apart, once_prefix}
use Rattle.valid_table.proofs.Versions.{not_other, text_begins}
use Rattle.nix_names.proofs.Lists.{parts_at}

-- ---- the version

-- a journal's text isn't that of another version
pub not_other_version : (dir bytes : List ℕ) (entries : List Entry)
    → IsJournalText dir entries bytes
    → IsOtherVersion bytes → ⊥
not_other_version dir bytes entries (inl (version, is)) other =
    search (rules, not_other, text_begins)
not_other_version dir bytes entries (inr none) other = search rules

-- ---- journals have no wrong line

-- of paths without repetition, none is among those before it
later_new : (known paths : List (List ℕ)) → IsDistinct (pointwise nat_eq) (known ++ paths)
    → AreUnknown known paths
later_new known paths once k d lt there =
    let path = get_or paths k d in
    let parts = parts_at _ k _ lt (get_or_default paths k d path lt) in
    let before = known ++ take k paths in
    let all = ap (λ l. known ++ l) parts ∙ sym
    (append_assoc known (take k paths) (path ∷ drop (k + 1) paths)) in
    once_apart _ _ _ (subst (IsDistinct (pointwise nat_eq)) all once)
    (Contains-append_left _ _ _ there)

-- closed entries that register no path twice are right
journal_right : (earlier : List Registration) (entries : List Entry)
    → IsClosedAfter earlier entries → IsOnce (earlier ++ registered entries)
    → AreRight earlier entries
journal_right earlier [] closed once = tt
journal_right earlier (entry ∷ entries) closed once =
    let rs = registered_by entry in
    let now = earlier ++ rs in
    let later = registered entries in
    let all : IsOnce (now ++ later) = subst IsOnce (sym (append_assoc earlier rs later)) once in
    let prefix = once_prefix _ _
    (subst (IsDistinct (pointwise nat_eq)) (paths_of-append _ _) all) in
    let new = later_new _ _
    (subst (IsDistinct (pointwise nat_eq)) (paths_of-append _ _) prefix) in (
      subst (All (IsRightAfter earlier entry)) (sym (entry_lines_are _))
          (up_to _ _ _ _ new closed.0),
      journal_right now entries closed.1 all,
    )

-- no line of a journal is at fault
pub no_fault : (entries : List Entry) (m : ℕ) → IsJournal entries → IsNotClosedAt entries m
    ⊎ IsTwiceAt entries m → ⊥
no_fault entries m is fault =
    let w = wrong_line _ m fault in
    none_wrong _ m w _
    (subst (AreRight []) w.stands.parts (journal_right [] entries is.closed is.once))
