-- The lines of entries: where they lead, where they stop, and what they are.
use Rattle.std.proofs.Common.{◌≡◌, ◌≢◌, ℕ, List, [], ◌∷◌, ◌++◌, length, Some, None, inl, inr, refl, ap, ◌∙◌, rules}
use Rattle.std.proofs.lemmas.List.{append_assoc}
use Rattle.valid_table.specs.private.Readers.{HasEntry, HasOutputs, HasToBegin, IsBadFields, IsDeriverLine, IsEnd, IsNoLine, StopsInRegistration}
use Rattle.valid_table.specs.private.Steps.{Position, Start, Begun, Opened, Within, Ahead, GoesOnWith, MayBegin, MayBeLine, Stops}
use Rattle.valid_table.specs.Texts.{Line, Added, Deriver, Output, Reference, entry_lines, line_text}
use Rattle.valid_table.specs.declared.entry.Entry.{Entry}
use Rattle.valid_table.specs.declared.entry.Entry.TheVariants.{Add, Done}
use Rattle.valid_table.specs.declared.entry.Registration.{Registration}
use Rattle.valid_table.specs.declared.path_table.version.Version.{Version}
use Rattle.valid_table.proofs.Leading.{line_of}
use Rattle.valid_table.proofs.LineLists.{IsAfter, entry_back, within_enters}
use Rattle.valid_table.proofs.LineSteps.{StopsIn, first, stop_after, stop_here, stops_back, stops_in}

-- ---- where an entry has to begin

-- it may begin there
has_to_enter : (version : Version) (dir : List ℕ) (from : Position) (bytes : List ℕ)
    → HasToBegin from bytes
    → (line : Line) → MayBegin version dir line → MayBeLine version dir from line
has_to_enter version dir Begun bytes begins line may = may
has_to_enter version dir (Within output last) bytes begins line may = within_enters _ _ _ _ _ may
has_to_enter version dir from bytes begins line may = absurd begins

-- and no output has to come
nothing_ahead : (from : Position) (bytes : List ℕ) → HasToBegin from bytes → Ahead from bytes
nothing_ahead Opened bytes begins = absurd begins
nothing_ahead from bytes begins = tt

-- after the lines of an entry one has to begin, where no further line of it does
end_begins : (entry : Entry) (to : Position) (rest : List ℕ) → IsAfter entry to → IsEnd entry rest
    → HasToBegin to rest
end_begins (Add r) (Within None last) rest is ends = ends
end_begins (Done deriver outputs) (Within (Some output) last) rest is ends = ends
end_begins entry to rest is ends = absurd is

-- after an entry the lines stop where they do after a position where an entry has to begin
pub lead : (version : Version) (dir bytes : List ℕ) (entry : Entry) (rest : List ℕ)
    (from : Position)
    (left : ℕ)
    → HasEntry version dir bytes entry rest → HasToBegin from bytes
    → ((to : Position) → HasToBegin to rest → Stops version dir to rest left)
    → Stops version dir from bytes left
lead version dir bytes entry rest from left h begins goes_on =
    stops_in _ _ _ (entry_lines entry) _ rest _ h.parts
    (entry_back _ _ (StopsIn version dir rest left) (stops_back _ _ _ _) _
    _ []
    (has_to_enter _ _ _ _ begins) h.of_dir
    (λ to is. goes_on to (end_begins _ _ _ is h.ends)))

-- ---- where an entry stops

-- with an added path's letter only such a line goes on
bad_added : (version : Version) (dir : List ℕ) (from : Position) (bytes : List ℕ) (left : ℕ)
    → (h : IsBadFields version dir 65 None bytes left) → (line : Line) (rest : List ℕ)
    → GoesOnWith version dir from bytes line rest → ⊥
bad_added version dir from bytes left h (Added path digest nar) rest goes = search (rules, line_of)
bad_added version dir from bytes left h line rest goes = search (rules, first)

-- reading an added path stops where its line, or one of its references, is bad
pub added_stops : (version : Version) (dir : List ℕ) (from : Position) (bytes : List ℕ) (left : ℕ)
    → StopsInRegistration version dir 65 None bytes left → HasToBegin from bytes
    → Stops version dir from bytes left
added_stops version dir from bytes left (inl h) begins =
    search (rules, stop_here, nothing_ahead, bad_added)
added_stops version dir from bytes left (inr h) begins =
    stop_after _ _ _ _ _ _ left
    (h.begins ∙ ap (λ (f : List ℕ). 65 ∷ 32 ∷ f) h.line.parts)
    (has_to_enter version dir from bytes begins (Added h.path h.digest h.nar)
    (h.line.of_dir, h.line.is_known))
    (h.stops version None)

-- with a deriver's letter only such a line goes on
bad_deriver : (version : Version) (dir : List ℕ) (from : Position) (bytes fields : List ℕ)
    → bytes ≡ 68 ∷ 32 ∷ fields
    → ((path rest : List ℕ) → IsDeriverLine dir fields path rest → ⊥)
    → (line : Line) (rest : List ℕ) → GoesOnWith version dir from bytes line rest → ⊥
bad_deriver version dir from bytes fields begun none (Deriver path) rest goes =
    search (rules, line_of, append_assoc)
bad_deriver version dir from bytes fields begun none line rest goes = search (rules, first)

pub deriver_stops : (version : Version) (dir : List ℕ) (from : Position) (bytes fields : List ℕ)
    → bytes ≡ 68 ∷ 32 ∷ fields
    → ((path rest : List ℕ) → IsDeriverLine dir fields path rest → ⊥) → HasToBegin from bytes
    → Stops version dir from bytes (length bytes)
deriver_stops version dir from bytes fields begun none begins =
    search (rules, stop_here, nothing_ahead, bad_deriver)

-- a deriver's line, from its path on
deriver_text : (version : Version) (dir bytes fields path rest : List ℕ) → bytes ≡ 68 ∷ 32 ∷ fields
    → IsDeriverLine dir fields path rest → bytes ≡ line_text version (Deriver path) ++ rest
deriver_text version dir bytes fields path rest begun line = search (rules, append_assoc)

-- after a deriver's line the lines stop where its outputs do
pub done_stops : (version : Version) (dir : List ℕ) (from : Position)
    (bytes fields path rest : List ℕ) (left : ℕ) → bytes
    ≡ 68 ∷ 32 ∷ fields → IsDeriverLine dir fields path rest → Stops version dir Opened rest left
    → HasToBegin from bytes → Stops version dir from bytes left
done_stops version dir from bytes fields path rest left begun line h begins =
    stop_after _ _ _ _ _ _ _
    (deriver_text version dir bytes fields path rest begun line)
    (has_to_enter version dir from bytes begins (Deriver path) (line.line.of_dir, line.named)) h

-- where neither an added path nor a deriver begins, no line goes on
nothing_begins : (version : Version) (dir : List ℕ) (from : Position) (bytes : List ℕ)
    → IsNoLine 65 bytes
    → IsNoLine 68 bytes → HasToBegin from bytes → (line : Line) (rest : List ℕ)
    → GoesOnWith version dir from bytes line rest → ⊥
nothing_begins version dir Start bytes added derived begins line rest goes = absurd begins
nothing_begins version dir Opened bytes added derived begins line rest goes = absurd begins
nothing_begins version dir from bytes added derived begins (Added path digest nar) rest goes =
    added _ goes.parts
nothing_begins version dir from bytes added derived begins (Deriver path) rest goes =
    derived _ goes.parts
nothing_begins version dir (Within (Some output) last) bytes added derived begins
    (Output path digest nar) rest
    goes = begins.0 _ goes.parts
nothing_begins version dir (Within (Some output) last) bytes added derived begins (Reference path)
    rest
    goes = begins.1 _ goes.parts
nothing_begins version dir (Within None last) bytes added derived begins (Reference path) rest goes
    =
    begins _ goes.parts
nothing_begins version dir from bytes added derived begins line rest goes = absurd goes.may

pub no_entry : (version : Version) (dir : List ℕ) (from : Position) (bytes : List ℕ) → bytes ≢ []
    → IsNoLine 65 bytes
    → IsNoLine 68 bytes → HasToBegin from bytes → Stops version dir from bytes (length bytes)
no_entry version dir from [] some added derived begins = absurd (some refl)
no_entry version dir from (c ∷ more) some added derived begins =
    search (rules, stop_here, nothing_ahead, nothing_begins)

-- ---- entries that were read

pub done_found : (version : Version) (dir bytes fields deriver after rest : List ℕ)
    (read shown : List Registration)
    → bytes ≡ 68 ∷ 32 ∷ fields → IsDeriverLine dir fields deriver after
    → HasOutputs version dir after read rest → shown ≡ read
    → HasEntry version dir bytes (Done deriver shown) rest
done_found version dir bytes fields deriver after rest read shown begun line h same =
    search (rules, deriver_text, append_assoc)
