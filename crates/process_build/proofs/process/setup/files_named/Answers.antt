use Rattle.std.proofs.Common.{◌≡◌, ◌∙◌, ◌++◌, ◌∷◌, [], ◌+◌, ◌<◌, ℕ, Bool, Bor, List, ap, false, get_or}
use Rattle.std.proofs.Common.{if◌then◌else◌, length, map, refl, subst, sym, take, true}
use Rattle.std.specs.Prelude.{bytes_eq, filter}
use Rattle.std.specs.List.{AllZip, list_any}
use Rattle.std.proofs.lemmas.List.{append-nil, map-append}
use Rattle.std.proofs.lemmas.Slice.Zip.{all_zipped_more}
use Rattle.nix_drv.specs.Derivation.{EnvEntry}
use Rattle.nix_drv.specs.Parts.{entry_of}
use Rattle.nix_drv.specs.declared.derivation.EnvEntry.{EnvEntry as OwnEntry}
use Rattle.build_outcome.specs.declared.job.JobOutput.{JobOutput}
use Rattle.process_build.specs.Setups.{FileText, IsFileOf, file_of_entry, is_among}
use Rattle.process_build.specs.declared.process.setup.SetupFile.{SetupFile}
use Rattle.process_build.proofs.Mapped.{any_mapped, filtered_more}
use Rattle.process_build.proofs.process.setup.files_named.Goals as goal
use Rattle.process_build.proofs.process.setup.files_named.Goals.{then-is_among+in_ok-file_of+in_ok-push, else-is_among}

-- the files of those of some entries whose keys are among these names
among : List (Bor (List ℕ)) → List EnvEntry → List FileText
among names entries =
    map file_of_entry (filter (λ e. is_among (map (λ n. n.now) names) e.key) entries)

if_mapped : (b : Bool) (e : EnvEntry)
    → map file_of_entry (if b then e ∷ [] else []) ≡ (if b then file_of_entry e ∷ [] else [])
if_mapped true e = refl
if_mapped false e = refl

-- whether one more entry is among them
among_more : (names : List (Bor (List ℕ))) (entries : List OwnEntry) (i : ℕ) (e : OwnEntry)
    (key : List ℕ) → i < length entries → e ≡ get_or entries i e → key ≡ e.key.items
    → among names (map entry_of (take (i + 1) entries))
    ≡ among names (map entry_of (take i entries))
    ++ (if list_any (λ n. bytes_eq n.now key) names then file_of_entry (entry_of e) ∷ [] else [])
unfolding among
among_more names entries i e key low is key_is =
    ap (map file_of_entry)
    (filtered_more (λ (x : EnvEntry). is_among (map (λ n. n.now) names) x.key) entry_of entries i e low
    is)
    ∙ map-append file_of_entry _ _
    ∙ ap (λ l. among names (map entry_of (take i entries)) ++ l)
    (if_mapped (is_among (map (λ n. n.now) names) e.key.items) (entry_of e))
    ∙ ap (λ b. among names (map entry_of (take i entries))
    ++ (if b then file_of_entry (entry_of e) ∷ [] else []))
    (sym (any_mapped names e.key.items)
    ∙ ap (λ k. list_any (λ n. bytes_eq n.now k) names) (sym key_is))

-- one more file
one_more : (outputs : List JobOutput) (names : List (Bor (List ℕ))) (entries : List OwnEntry) (i : ℕ)
    (e : OwnEntry) (key : List ℕ) (files more : List SetupFile) (file : SetupFile)
    → i < length entries → e ≡ get_or entries i e → key ≡ e.key.items
    → list_any (λ n. bytes_eq n.now key) names ≡ true
    → AllZip (IsFileOf outputs) (among names (map entry_of (take i entries))) files
    → IsFileOf outputs (file_of_entry (entry_of e)) file → more ≡ files ++ file ∷ []
    → AllZip (IsFileOf outputs) (among names (map entry_of (take (i + 1) entries))) more
one_more outputs names entries i e key files more file low is key_is held had one is_more =
    let before : List FileText = among names (map entry_of (take i entries)) in
    subst (AllZip (IsFileOf outputs) (among names (map entry_of (take (i + 1) entries)))) (sym is_more)
    (subst (λ l. AllZip (IsFileOf outputs) l (files ++ file ∷ []))
    (sym (among_more names entries i e key low is key_is
    ∙ ap (λ b. before ++ (if b then file_of_entry (entry_of e) ∷ [] else [])) held))
    (all_zipped_more (IsFileOf outputs) before files (file_of_entry (entry_of e)) file had one))

-- no file for one more entry
none_more : (outputs : List JobOutput) (names : List (Bor (List ℕ))) (entries : List OwnEntry) (i : ℕ)
    (e : OwnEntry) (key : List ℕ) (files : List SetupFile)
    → i < length entries → e ≡ get_or entries i e → key ≡ e.key.items
    → list_any (λ n. bytes_eq n.now key) names ≡ false
    → AllZip (IsFileOf outputs) (among names (map entry_of (take i entries))) files
    → AllZip (IsFileOf outputs) (among names (map entry_of (take (i + 1) entries))) files
none_more outputs names entries i e key files low is key_is missed had =
    let before : List FileText = among names (map entry_of (take i entries)) in
    subst (λ l. AllZip (IsFileOf outputs) l files)
    (sym (among_more names entries i e key low is key_is
    ∙ ap (λ b. before ++ (if b then file_of_entry (entry_of e) ∷ [] else [])) missed ∙ append-nil before)) had

pub loop-entry-preserved : goal.loop-entry-preserved
unfolding among
loop-entry-preserved c =
    let outputs = c.args.placeholders.now.outputs.now in
    let names = c.args.names.now in
    let index = c.loop-entry.entry-index in
    elim c.if-is_among.branch [
      | then-is_among+in_ok-file_of+in_ok-push w ↦
          one_more outputs names c.args.entries.now index c.entry-item.result c.deref.result.now
          c.loop-entry.files.items c.if-is_among.files.items w.in_ok-file_of.field-0
          c.loop-entry-test.true c.entry-item.is c.deref.ensures.value
          (sym c.is_among.ensures ∙ w.if-is_among.true) c.loop-entry.invariant
          w.in_ok-file_of.ensures.file
          (ap (λ v. v.items) w.files-is ∙ w.in_ok-push.ensures.items)
      | else-is_among w ↦
          subst (λ v. AllZip (IsFileOf outputs)
          (among names (map entry_of (take (index + 1) c.args.entries.now))) v.items)
          (sym w.files-is)
          (none_more outputs names c.args.entries.now index c.entry-item.result c.deref.result.now
          c.loop-entry.files.items c.loop-entry-test.true c.entry-item.is c.deref.ensures.value
          (sym c.is_among.ensures ∙ w.if-is_among.false) c.loop-entry.invariant)
    ]
