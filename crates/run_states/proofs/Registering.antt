-- What the Done events of a legal history register: its entries stay a journal, and each Done is
-- allowed.
use Rattle.std.proofs.Common.{◌≡◌, ℕ, List, [], ◌++◌, refl, sym, subst, ⊎_elim, append_assoc, rules}
use Rattle.std.proofs.lemmas.List.{append-nil}
use Rattle.std.proofs.lemmas.List.Elements.{Contains-append_cases}
use Rattle.valid_table.specs.declared.entry.Entry.{Entry}
use Rattle.run_states.specs.Headline.{DonesAreAllowed, EntriesAreJournal, WasDone}
use Rattle.run_states.specs.Legal.{legal_opening, legal_begin, legal_done, legal_fail, ended}
use Rattle.run_states.specs.Runs.{History, Run}
use Rattle.run_states.specs.declared.state.Event.TheVariants.{Done as Finish}
use Rattle.run_states.proofs.Dones.{done_is_journal}
use Rattle.run_states.proofs.Seeds.{opened_with}
use Rattle.nix_names.proofs.Lists.{Contains-cons_cases, Contains-from_get, Contains-nothing}

-- ---- a journal with an allowed entry is one

pub entries_are_journal : EntriesAreJournal
entries_are_journal run _ named (legal_opening entries journal) = journal
entries_are_journal run _ named (legal_begin history d legal within wanted ready) =
    entries_are_journal run history named legal
entries_are_journal run _ named (legal_fail history d lease reason legal phase) =
    entries_are_journal run history named legal
entries_are_journal run _ named
    (legal_done history d lease node infos entry legal phase is_node allowed is_entry) =
    search (rules, done_is_journal, Contains-from_get, entries_are_journal run history named legal)

-- ---- each Done was allowed

done_with_more : (run : Run) (history after : History) (d : ℕ) (more : List Entry) → after.entries
    ≡ history.entries ++ more → after.opening ≡ history.opening → WasDone run history d
    → WasDone run after d
done_with_more run history after d more same opening was = search (rules, append_assoc)

pub dones_are_allowed : DonesAreAllowed
dones_are_allowed run _ (legal_opening entries journal) d lease has =
    absurd (Contains-nothing _ has)
dones_are_allowed run _ (legal_begin history e legal within wanted ready) d lease has =
    ⊎_elim
    (λ before. done_with_more _ _ _ d [] (sym (append-nil history.entries)) refl
    (dones_are_allowed run history legal d lease before))
    (λ last. ⊎_elim (λ same. absurd cc) (λ none. absurd (Contains-nothing _ none))
    (Contains-cons_cases _ [] (Finish d lease) last))
    (Contains-append_cases _ _ _ has)
dones_are_allowed run _ (legal_fail history e number reason legal phase) d lease has =
    ⊎_elim
    (λ before. done_with_more _ _ _ d [] (sym (append-nil history.entries)) refl
    (dones_are_allowed run history legal d lease before))
    (λ last. ⊎_elim (λ same. absurd cc) (λ none. absurd (Contains-nothing _ none))
    (Contains-cons_cases _ [] (Finish d lease) last))
    (Contains-append_cases _ _ _ has)
dones_are_allowed run _
    (legal_done history e number node infos entry legal phase is_node allowed is_entry) d lease
    has =
    let opened = opened_with _ _ legal in
    ⊎_elim
    (λ before. done_with_more _ _ _ d _ refl refl
    (dones_are_allowed run history legal d lease before))
    (λ last. ⊎_elim
    (λ same. let number_is : e ≡ d = cc in
    subst (λ n. WasDone run (ended history e number entry) n) number_is
    (record {
      node = node;
      is_node = is_node;
      before = history.entries;
      more = opened.0;
      goes_on = opened.1;
      entry = entry;
      after = [];
      parts = refl;
      infos = infos;
      allowed = allowed;
      is_entry = is_entry;
    }))
    (λ none. absurd (Contains-nothing _ none))
    (Contains-cons_cases _ [] (Finish d lease) last))
    (Contains-append_cases _ _ _ has)
