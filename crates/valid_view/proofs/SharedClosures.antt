-- Closures by lists that go on from one list.
use Rattle.std.proofs.Common.{◌≡◌, ℕ, List, ◌++◌, ◌∙◌, All, ap, subst, sym, rules}
use Rattle.std.proofs.lemmas.List.Elements.{All-contains, Contains-append_left}
use Rattle.valid_table.proofs.ClosureLaws.{closure_stays_after, leads_before, leads_after}
use Rattle.valid_table.proofs.Following.{one_info}
use Rattle.valid_table.proofs.JournalLists.{closed_references_valid, registered-append, still_valid}
use Rattle.valid_table.specs.Closure.{IsClosure}
use Rattle.valid_table.specs.Entries.{registered}
use Rattle.valid_table.specs.Valid.{AreReferencesValid, IsOnce, IsValid, Registers}
use Rattle.valid_table.specs.declared.entry.Entry.{Entry}
use Rattle.valid_table.specs.declared.entry.Registration.{Registration}
use Rattle.valid_view.specs.SharedClosures.{ClosureIsShared, ValidityLasts}
use Rattle.valid_view.specs.Shown.{IsShowable}
use Rattle.valid_view.proofs.Showable.{showable_prefix}

-- a closure of paths that were valid before was the same before
closure_before : (first more : List Registration) (roots all : List (List ℕ))
    → AreReferencesValid first → IsOnce (first ++ more) → All (IsValid first) roots
    → IsClosure (first ++ more) roots all → IsClosure first roots all
closure_before first more roots all closed once valid is = record {
  rising = is.rising;
  each = λ path. (
    λ has. let h = (is.each path).0 has in (
      h.0,
      h.1,
      (
        h.2.0,
        leads_before first more closed once h.0 path h.2.0
            (All-contains (IsValid first) roots h.0 valid h.1) h.2.1,
      ),
    ),
    λ h. (is.each path).1 (h.0, h.1, (h.2.0, leads_after first more h.0 path h.2.0 h.2.1)),
  );
}

-- what two lists register, one after the other, repeats no path
once_parts : (entries more : List Entry) → IsShowable (entries ++ more)
    → IsOnce (registered entries ++ registered more)
once_parts entries more showable = search (rules, registered-append)

-- in a list that may be shown each reference is valid
references_valid : (entries more : List Entry) → IsShowable (entries ++ more)
    → AreReferencesValid (registered entries)
references_valid entries more showable = search (rules, closed_references_valid, showable_prefix)

-- the law
pub closure_is_shared : ClosureIsShared
closure_is_shared common a b roots all of_a of_b in_a in_b valid is =
    let Closes : List Registration → Type 0 = λ registrations. IsClosure registrations roots all in
    let showable_a : IsShowable (common ++ in_a.0) = subst IsShowable (sym in_a.1) of_a in
    let showable_b : IsShowable (common ++ in_b.0) = subst IsShowable (sym in_b.1) of_b in
    let by_a : IsClosure (registered common ++ registered in_a.0) roots all =
    subst Closes (registered-append common in_a.0)
    (subst (λ (l : List Entry). IsClosure (registered l) roots all) (sym in_a.1) is) in
    let before : IsClosure (registered common) roots all =
    closure_before (registered common) (registered in_a.0) roots all
    (references_valid common in_a.0 showable_a) (once_parts common in_a.0 showable_a) valid by_a in
    let by_b : IsClosure (registered common ++ registered in_b.0) roots all =
    closure_stays_after (registered common) (registered in_b.0) roots all
    (references_valid common in_b.0 showable_b) (once_parts common in_b.0 showable_b) valid before
    in
    subst (λ (l : List Entry). IsClosure (registered l) roots all) in_b.1
    (subst Closes (sym (registered-append common in_b.0)) by_b)

-- the law of what is valid
pub validity_lasts : ValidityLasts
validity_lasts before after goes showable path =
    let first : List Registration = registered before in
    let more : List Registration = registered goes.0 in
    let all : first ++ more ≡ registered after =
    sym (registered-append before goes.0) ∙ ap registered goes.1 in
    let once : IsOnce (registered after) = showable.once in (
      λ valid. subst (λ (rs : List Registration). IsValid rs path) all
          (still_valid first more path valid),
      λ info has.
          let now : Registers (registered after) path info =
          subst (λ (rs : List Registration). Registers rs path info) all
          (Contains-append_left first more (record { path = path; info = info }) has) in
          (now, λ other also. one_info (registered after) once path other info also now),
    )
