-- The lists of lines that make a journal: just those of entries.
use Rattle.std.proofs.Common.{◌≡◌, ◌≢◌, ℕ, List, [], ◌∷◌, ◌++◌, inl, inr, refl, ap, sym, subst, ◌∙◌, All, Option, Some, None, map, rules}
use Rattle.std.specs.List.{flat_map, last_or}
use Rattle.std.proofs.lemmas.List.{append_assoc}
use Rattle.std.proofs.lemmas.List.Elements.{All-cons, All-nil, All-head, All-tail}
use Rattle.nix_names.specs.StorePaths.{IsPathOf}
use Rattle.nix_names.specs.declared.method.MethodDigest.{MethodDigest}
use Rattle.valid_table.specs.PathInfos.{NarInfo}
use Rattle.valid_table.specs.Entries.{paths_registered}
use Rattle.valid_table.specs.private.LineTexts.{lines_text}
use Rattle.valid_table.specs.private.Steps.{Position, Start, Begun, Opened, Within, Ahead, LeadsTo, MayBegin, MayBeOutputAfter, MayBeLine, position_after}
use Rattle.valid_table.specs.Texts.{IsKnownOf, IsEntryIn, IsOf, IsJournalText, Line, First, Added, Deriver, Output, Reference, entry_lines, lines, output_lines, text}
use Rattle.valid_table.specs.declared.entry.Entry.{Entry}
use Rattle.valid_table.specs.declared.entry.Entry.TheVariants.{Add, Done}
use Rattle.valid_table.specs.declared.entry.Registration.{Registration}
use Rattle.valid_table.specs.declared.path_table.version.Version.{Version}
use Rattle.valid_table.specs.declared.path_table.version.Version.TheVariants.{One}
use Rattle.valid_table.proofs.RisingPaths.{AreAbove, above_of_rising, rising_of_above}

-- ---- the lines of entries, and what comes after them

-- what holds of lines from a position on, where it holds of those after the first
abbrev pub IsBackward : Version → List ℕ → (Position → List Line → Type 0) → Type 0
IsBackward version dir Of = (from : Position) (line : Line) (more : List Line)
    → MayBeLine version dir from line
    → Of (position_after from line) more → Of from (line ∷ more)

-- references that rise after the one before them
pub references_back : (version : Version) (dir : List ℕ) (Of : Position → List Line → Type 0)
    → IsBackward version dir Of
    → (output before : Option (List ℕ)) (references : List (List ℕ)) (more : List Line)
    → All (IsPathOf dir) references → AreAbove before references
    → Of (Within output (last_or before references)) more
    → Of (Within output before) (map Reference references ++ more)
references_back version dir Of back output before [] more of_dir above of = of
references_back version dir Of back output before (path ∷ paths) more of_dir above of =
    search (
      rules,
      All-head,
      All-tail,
      (references_back version dir Of back output (Some path) paths more
          (All-tail (IsPathOf dir) _ _ of_dir) above.1 of),
    )

-- the position where an output may stand: after a deriver, or within the lines of an output before
-- it
abbrev pub position_at : Option (List ℕ) → Option (List ℕ) → Position
position_at None last = Opened
position_at (Some output) last = Within (Some output) last

pub may_stand : (version : Version) (dir : List ℕ) (before last : Option (List ℕ)) (path : List ℕ)
    (digest : Option MethodDigest) (nar : Option NarInfo)
    → MayBeOutputAfter version dir before path digest nar
    → MayBeLine version dir (position_at before last) (Output path digest nar)
may_stand version dir None last path digest nar may = may
may_stand version dir (Some output) last path digest nar may = may

-- outputs that rise after the one before them
pub outputs_back : (version : Version) (dir : List ℕ) (Of : Position → List Line → Type 0)
    → IsBackward version dir Of
    → (outputs : List Registration) (before last : Option (List ℕ)) (more : List Line)
    → All (IsOf version dir) outputs → AreAbove before (paths_registered outputs)
    → ((reference : Option (List ℕ)) → Of (position_at (last_or before (paths_registered outputs))
    reference)
    more) → Of (position_at before last) (flat_map output_lines outputs ++ more)
outputs_back version dir Of back [] before last more of_dir above of = of last
outputs_back version dir Of back (o ∷ outputs) before last more of_dir above of =
    let is : IsOf version dir o = All-head (IsOf version dir) o _ of_dir in
    let later = flat_map output_lines outputs ++ more in
    subst (λ (ls : List Line). Of (position_at before last) (Output o.path o.info.digest o.info.nar
    ∷ ls))
    (sym (append_assoc (map Reference o.info.references) (flat_map output_lines outputs) more))
    (back (position_at before last) (Output o.path o.info.digest o.info.nar)
    (map Reference o.info.references ++ later)
    (may_stand _ _ _ _ _ _ _ (is.path, (is.digest, is.nar), above.0))
    (references_back _ _ Of back _ _ _ _ is.references
    (above_of_rising _ is.rising)
    (outputs_back version dir Of back outputs (Some o.path) (last_or None o.info.references) more
    (All-tail (IsOf version dir) o _ of_dir) above.1 of)))

-- an entry may begin at a position
abbrev pub MayEnter : Version → List ℕ → Position → Type 0
MayEnter version dir position = (line : Line) → MayBegin version dir line
    → MayBeLine version dir position line

-- a position is after the lines of an entry
abbrev pub IsAfter : Entry → Position → Type 0
IsAfter (Add r) (Within None last) = Unit {0}
IsAfter (Done deriver outputs) (Within (Some output) last) = Unit {0}
IsAfter entry position = ⊥

-- after outputs is after the last of them
after_outputs : (deriver path : List ℕ) (paths : List (List ℕ)) (outputs : List Registration)
    (reference : Option (List ℕ)) → IsAfter (Done deriver outputs)
    (position_at (last_or (Some path) paths) reference)
after_outputs deriver path [] outputs reference = tt
after_outputs deriver path (next ∷ paths) outputs reference =
    after_outputs deriver next paths outputs reference

-- an entry
pub entry_back : (version : Version) (dir : List ℕ) (Of : Position → List Line → Type 0)
    → IsBackward version dir Of
    → (from : Position) (entry : Entry) (more : List Line) → MayEnter version dir from
    → IsEntryIn version dir entry
    → ((to : Position) → IsAfter entry to → Of to more)
    → Of from (entry_lines entry ++ more)
entry_back version dir Of back from (Add r) more may is of =
    back from (Added r.path r.info.digest r.info.nar) (map Reference r.info.references ++ more)
    (may (Added r.path r.info.digest r.info.nar) (is.path, (is.digest, is.nar)))
    (references_back _ _ Of back _ _ _ _ is.references
    (above_of_rising _ is.rising)
    (of (Within None (last_or None r.info.references)) tt))
entry_back version dir Of back from (Done deriver []) more may is of = absurd (is.2 refl)
entry_back version dir Of back from (Done deriver (o ∷ outputs)) more may is of =
    back from (Deriver deriver) (flat_map output_lines (o ∷ outputs) ++ more)
    (may (Deriver deriver) (is.0, is.1))
    (outputs_back _ _ Of back (o ∷ outputs) None None _ is.4
    (above_of_rising (paths_registered (o ∷ outputs)) is.3)
    (λ reference. of (position_at (last_or None (paths_registered (o ∷ outputs))) reference)
    (after_outputs deriver o.path (paths_registered outputs) (o ∷ outputs) reference)))

-- ---- lines that end a journal

-- a journal may end at a position
abbrev pub MayEnd : Position → Type 0
MayEnd Opened = ⊥
MayEnd position = Unit {0}

-- there no output has to come
pub end_ahead : (position : Position) → MayEnd position → Ahead position []
end_ahead Opened ends = absurd ends
end_ahead position ends = tt

-- from a position on these lines end a journal
abbrev pub Ends : Version → List ℕ → Position → List Line → Type 0
Ends version dir position come = LeadsTo version dir MayEnd position come

-- within the lines of an added path, or of an output, an entry may begin
pub within_enters : (version : Version) (dir : List ℕ) (output last : Option (List ℕ))
    (line : Line) → MayBegin version dir line
    → MayBeLine version dir (Within output last) line
within_enters version dir output last (Added path digest nar) may = may
within_enters version dir output last (Deriver path) may = may
within_enters version dir output last line may = absurd may

-- after the lines of an entry another may begin, and a journal may end
after_enters : (version : Version) (dir : List ℕ) (entry : Entry) (to : Position)
    → IsAfter entry to
    → MayEnter version dir to
    × MayEnd to
after_enters version dir entry (Within output last) is = (within_enters _ _ _ _, tt)
after_enters version dir (Add r) to is = absurd is
after_enters version dir (Done deriver outputs) to is = absurd is

-- the lines of entries end a journal from where an entry may begin
pub entries_end : (version : Version) (dir : List ℕ) (position : Position) (entries : List Entry)
    → MayEnter version dir position
    × MayEnd position → All (IsEntryIn version dir) entries
    → Ends version dir position (flat_map entry_lines entries)
entries_end version dir position [] begins each = begins.1
entries_end version dir position (entry ∷ entries) begins each =
    entry_back _ _ (Ends version dir) (λ from line more may ends. (may, ends)) _ _
    _ begins.0 (All-head (IsEntryIn version dir) _ _ each)
    (λ to is. entries_end version dir to entries (after_enters version dir entry to is)
    (All-tail (IsEntryIn version dir) _ _ each))

-- ---- what is still to come

-- outputs rise after one; without one there are none
abbrev RiseAfter : Option (List ℕ) → List Registration → Type 0
RiseAfter None outputs = outputs ≡ []
RiseAfter (Some before) outputs = AreAbove (Some before) (paths_registered outputs)

-- references and outputs may come at a position
abbrev MayCome : Position → List (List ℕ) → List Registration → Type 0
MayCome Start references outputs = ⊥
MayCome Begun references outputs = (references ≡ []) × (outputs ≡ [])
MayCome Opened references outputs = (references ≡ []) × (outputs ≢ [])
    × AreAbove None (paths_registered outputs)
MayCome (Within output last) references outputs = AreAbove last references
    × RiseAfter output outputs

-- At a position the lines of references come, then those of outputs, and then those of entries.
record Comes (version : Version) (dir : List ℕ) (position : Position) (come : List Line)
    : Type 0 where
  pub references : List (List ℕ)
  pub outputs : List Registration
  pub entries : List Entry
  pub are : come ≡ map Reference references
      ++ (flat_map output_lines outputs ++ flat_map entry_lines entries)
  pub paths_of_dir : All (IsPathOf dir) references
  pub outputs_of_dir : All (IsOf version dir) outputs
  pub entries_of_dir : All (IsEntryIn version dir) entries
  pub may : MayCome position references outputs

none_after : (output : Option (List ℕ)) → RiseAfter output []
none_after None = refl
none_after (Some before) = tt

-- entries alone
entries_come : (version : Version) (dir : List ℕ) (position : Position) (come : List Line)
    (entries : List Entry)
    → MayCome position [] [] → All (IsEntryIn version dir) entries
    → come ≡ flat_map entry_lines entries
    → Comes version dir position come
entries_come version dir position come entries may each are = search (rules, All-nil)

-- what a path registers with a digest and the references that come
abbrev registration : {version : Version} {dir : List ℕ} {position : Position} {come : List Line}
    (path : List ℕ)
    (digest : Option MethodDigest) (nar : Option NarInfo) → Comes version dir position come
    → Registration
registration path digest nar c =
    record { path = path; info = record { references = c.references; digest = digest; nar = nar } }

-- it is of the store folder
registration_of : {version : Version} {dir : List ℕ} {output : Option (List ℕ)} {come : List Line}
    (path : List ℕ)
    (digest : Option MethodDigest)
    (nar : Option NarInfo) (c : Comes version dir (Within output None) come) → IsPathOf dir path
    → IsKnownOf version digest nar → IsOf version dir (registration path digest nar c)
registration_of path digest nar c is_path is_known = search (rules, rising_of_above)

-- one more added path
one_added : (version : Version) (dir : List ℕ) (position : Position) (path : List ℕ)
    (digest : Option MethodDigest) (nar : Option NarInfo)
    (come : List Line) → MayCome position [] [] → IsPathOf dir path × IsKnownOf version digest nar
    → Comes version dir (Within None None) come
    → Comes version dir position (Added path digest nar ∷ come)
one_added version dir position path digest nar come may is c =
    entries_come version dir position (Added path digest nar ∷ come)
    (Add (registration path digest nar c) ∷ c.entries)
    may
    (All-cons (IsEntryIn version dir) (Add (registration path digest nar c)) c.entries
    (registration_of path digest nar c is.0 is.1) c.entries_of_dir)
    (ap (λ (tail : List Line). Added path digest nar ∷ tail)
    (c.are ∙ ap (λ (os : List Registration). map Reference c.references
    ++ (flat_map output_lines os ++ flat_map entry_lines c.entries)) c.may.1))

-- one more derivation that was built
one_done : (version : Version) (dir : List ℕ) (position : Position) (deriver : List ℕ)
    (come : List Line)
    → MayCome position [] [] → MayBegin version dir (Deriver deriver)
    → Comes version dir Opened come
    → Comes version dir position (Deriver deriver ∷ come)
one_done version dir position deriver come may is c =
    entries_come _ _ _ _ (Done deriver c.outputs ∷ c.entries) may
    (All-cons (IsEntryIn version dir) (Done deriver c.outputs) c.entries
    (is.0, is.1, c.may.1, rising_of_above _ c.may.2, c.outputs_of_dir)
    c.entries_of_dir)
    (ap (λ (tail : List Line). Deriver deriver ∷ tail)
    (c.are ∙ ap (λ (rs : List (List ℕ)). map Reference rs
    ++ (flat_map output_lines c.outputs ++ flat_map entry_lines c.entries)) c.may.0))

-- one more output
one_output : (version : Version) (dir : List ℕ) (position : Position) (path : List ℕ)
    (digest : Option MethodDigest) (nar : Option NarInfo)
    (come : List Line) → IsPathOf dir path → IsKnownOf version digest nar
    → (c : Comes version dir (Within (Some path) None) come)
    → MayCome position [] (registration path digest nar c ∷ c.outputs)
    → Comes version dir position (Output path digest nar ∷ come)
one_output version dir position path digest nar come is_path is_known c may =
    search (rules, append_assoc, All-nil, All-cons, registration_of)

-- one more reference
one_reference : (version : Version) (dir : List ℕ) (output last : Option (List ℕ)) (path : List ℕ)
    (come : List Line)
    → MayBeLine version dir (Within output last) (Reference path)
    → Comes version dir (Within output (Some path)) come
    → Comes version dir (Within output last) (Reference path ∷ come)
one_reference version dir output last path come may c = record {
  references = path ∷ c.references;
  outputs = c.outputs;
  entries = c.entries;
  are = ap (λ (tail : List Line). Reference path ∷ tail) c.are;
  paths_of_dir = All-cons (IsPathOf dir) _ _ may.0 c.paths_of_dir;
  outputs_of_dir = c.outputs_of_dir;
  entries_of_dir = c.entries_of_dir;
  may = ((may.1, c.may.0), c.may.1);
}

-- after the first line they are what is to come
abbrev ToCome : Version → List ℕ → Position → List Line → Type 0
ToCome version dir Start come = Unit {0}
ToCome version dir position come = Comes version dir position come

-- one more line
comes_back : (version : Version) (dir : List ℕ) (position : Position) (line : Line)
    (come : List Line)
    → MayBeLine version dir position line → ToCome version dir (position_after position line) come
    → ToCome version dir position (line ∷ come)
comes_back version dir Start line come may c = tt
comes_back version dir Begun (Added path digest nar) come may c = search (rules, one_added, may)
comes_back version dir Begun (Deriver path) come may c = search (rules, one_done, may)
comes_back version dir Opened (Output path digest nar) come may c =
    one_output _ _ _ _ _ _ _ may.0 may.1 c (refl, λ none. cc none, (tt, c.may.1))
comes_back version dir (Within output last) (Added path digest nar) come may c =
    search (rules, one_added, none_after)
comes_back version dir (Within output last) (Deriver path) come may c =
    search (rules, one_done, none_after, may)
comes_back version dir (Within (Some before) last) (Output path digest nar) come may c =
    one_output _ _ _ _ _ _ _ may.0 may.1 c (tt, (may.2, c.may.1))
comes_back version dir (Within output last) (Reference path) come may c =
    one_reference _ _ _ _ _ _ may c
comes_back version dir position line come may c = absurd may

-- lines that end a journal are to come
ends_come : (version : Version) (dir : List ℕ) (position : Position) (come : List Line)
    → Ends version dir position come
    → ToCome version dir position come
ends_come version dir Start [] ends = tt
ends_come version dir Begun [] ends = search (rules, entries_come, All-nil)
ends_come version dir Opened [] ends = absurd ends
ends_come version dir (Within output last) [] ends =
    entries_come _ _ _ [] [] (tt, none_after _) (All-nil (IsEntryIn version dir)) refl
ends_come version dir position (line ∷ come) ends =
    search (rules, comes_back, ends_come version dir (position_after position line) come ends.1)

-- ---- the texts of journals

-- lines that end a journal from its start are its text
pub text_of_lines : (version : Version) (dir : List ℕ) (come : List Line)
    → Ends version dir Start come → (entries : List Entry)
    × IsJournalText dir entries (lines_text version come)
unfolding text
text_of_lines version dir [] ends = ([], inr (refl, refl))
text_of_lines version dir (First ∷ come) ends =
    let c : Comes version dir Begun come = ends_come _ _ _ _ ends.1 in
    let are : come ≡ flat_map entry_lines c.entries = c.are
    ∙ ap (λ (rs : List (List ℕ)). map Reference rs
    ++ (flat_map output_lines c.outputs ++ flat_map entry_lines c.entries)) c.may.0
    ∙ ap (λ (os : List Registration). flat_map output_lines os ++ flat_map entry_lines c.entries)
    c.may.1 in (
      c.entries,
      inl (
        version,
        record {
          of_dir = c.entries_of_dir;
          bytes_are = ap (λ (ls : List Line). lines_text version (First ∷ ls)) are;
        },
      ),
    )
text_of_lines version dir (line ∷ come) ends = absurd ends.0

-- the lines of entries of the store folder end a journal from its start
pub lines_end : (version : Version) (dir : List ℕ) (entries : List Entry)
    → All (IsEntryIn version dir) entries → Ends version dir Start (lines entries)
lines_end version dir entries each = search (rules, entries_end, entries)

-- a text is that of such lines
pub lines_of_text : (dir bytes : List ℕ) (entries : List Entry) → IsJournalText dir entries bytes
    → (version : Version) × (come : List Line) × Ends version dir Start come
    × (bytes ≡ lines_text version come)
unfolding text
lines_of_text dir bytes entries (inl (version, is)) = search (rules, entries, lines_end)
lines_of_text dir bytes entries (inr none) = (One, [], tt, none.1)
