-- The entries of a journal, read one after another.
use Rattle.std.proofs.Common.{◌≡◌, true, ℕ, List, [], ◌∷◌, ◌++◌, length, ◌==◌, inl, ap, sym, ◌∙◌, rules}
use Rattle.std.proofs.lemmas.Bool.{eqb-true}
use Rattle.std.proofs.lemmas.List.{append-nil, append_assoc, nil_from_length}
use Rattle.std.proofs.lemmas.List.Concat.{flat_map-append}
use Rattle.std.proofs.lemmas.List.Elements.{All-nil, All-push}
use Rattle.valid_table.specs.private.LineTexts.{lines_text}
use Rattle.valid_table.specs.private.Readers.{HasEntry, HasToBegin, SoFarEntries, StopsInText}
use Rattle.valid_table.specs.Reading.{BeginsVersion}
use Rattle.valid_table.specs.private.Steps.{Position, Begun, Stops}
use Rattle.valid_table.specs.Texts.{IsEntryIn, IsJournalText, First, entry_lines, lines, text, version_line}
use Rattle.valid_table.specs.declared.entry.Entry.{Entry}
use Rattle.valid_table.specs.declared.path_table.version.Version.{Version}
use Rattle.valid_table.proofs.EntryLines.{lead}
use Rattle.valid_table.proofs.Leading.{text_and}
use Rattle.valid_table.proofs.LineSteps.{stop_after}

-- before the first entry the first line was read
pub version_read : (version : Version) (dir bytes : List ℕ) (entries : List Entry) (rest : List ℕ)
    → bytes
    ≡ version_line version ++ rest → entries ≡ [] → SoFarEntries version dir bytes entries rest
version_read version dir bytes entries rest begins none = rw none (record {
  parts = begins ∙ ap (λ (t : List ℕ). t ++ rest) (sym (append-nil (version_line version)));
  of_dir = All-nil (IsEntryIn version dir);
  leads = λ left goes_on. stop_after _ _ _ _ First _ _ begins tt
      (goes_on Begun tt);
})

-- the lines of entries, and of one more
lines_more : (entries : List Entry) (entry : Entry)
    → lines entries ++ entry_lines entry ≡ lines (entries ++ entry ∷ [])
lines_more entries entry = search (rules, flat_map-append, append-nil)

-- the text of entries, and of one more
text_more : (version : Version) (entries : List Entry) (entry : Entry) (rest : List ℕ)
    → lines_text version (lines entries) ++ (lines_text version (entry_lines entry) ++ rest)
    ≡ lines_text version (lines (entries ++ entry ∷ [])) ++ rest
text_more version entries entry rest =
    text_and version (lines entries) _ _
    ∙ ap (λ some. lines_text version some ++ rest) (lines_more _ _)

-- one more entry
pub entries_more : (version : Version) (dir bytes : List ℕ) (entries more : List Entry)
    (rest after : List ℕ)
    (entry : Entry) → SoFarEntries version dir bytes entries rest
    → HasEntry version dir rest entry after → more
    ≡ entries ++ entry ∷ [] → SoFarEntries version dir bytes more after
entries_more version dir bytes entries more rest after entry so_far h pushed =
    rw pushed (record {
      parts = so_far.parts ∙ ap (λ t. lines_text version (lines entries) ++ t) h.parts
          ∙ text_more _ _ _ after;
      of_dir = All-push (IsEntryIn version dir) _ _ so_far.of_dir h.of_dir;
      leads = λ left goes_on.
          so_far.leads left
          (λ from begins. lead _ _ _ _ _ _ _ h begins goes_on);
    })

-- where nothing is left, the bytes are the entries' text
pub text_read : (version : Version) (dir bytes : List ℕ) (entries : List Entry) (rest : List ℕ)
    → SoFarEntries version dir bytes entries rest → (length rest == 0) ≡ true
    → IsJournalText dir entries bytes
unfolding text
text_read version dir bytes entries rest so_far empty =
    search (rules, nil_from_length, eqb-true, append-nil)

-- the bytes begin with the line of their version
pub version_begins : (version : Version) (dir bytes : List ℕ) (entries : List Entry)
    (rest : List ℕ) → SoFarEntries version dir bytes entries rest → BeginsVersion version bytes
version_begins version dir bytes entries rest so_far = search (rules, append_assoc)

-- where the lines of an entry stop, so do those of the text
pub text_stops : (version : Version) (dir bytes : List ℕ) (entries : List Entry) (rest : List ℕ)
    (left : ℕ) → SoFarEntries version dir bytes entries rest
    → ((from : Position) → HasToBegin from rest → Stops version dir from rest left)
    → StopsInText dir bytes left
text_stops version dir bytes entries rest left so_far stops =
    inl (version, version_begins _ _ _ _ _ so_far, so_far.leads left stops)
