-- The lines of references: where they lead, and where they stop.
use Rattle.std.proofs.Common.{◌≡◌, ℕ, List, [], ◌∷◌, ◌++◌, length, map, Option, None, ◌-◌, ap, sym, ◌∙◌, subst, rules}
use Rattle.std.specs.List.{last_or, slice_get}
use Rattle.std.proofs.lemmas.List.{append-nil, append_assoc}
use Rattle.std.proofs.lemmas.List.Concat.{flat_map-append}
use Rattle.std.proofs.lemmas.List.Elements.{All-push}
use Rattle.nix_names.specs.StorePaths.{IsPathOf}
use Rattle.nix_names.specs.declared.method.MethodDigest.{MethodDigest}
use Rattle.valid_table.specs.private.LineTexts.{fields_text, lines_text, references_text}
use Rattle.valid_table.specs.PathInfos.{NarInfo, PathInfo}
use Rattle.valid_table.specs.private.Readers.{ReadsReferences, HasRegistration, IsFieldsLine, IsPathLine, SoFarReferences}
use Rattle.valid_table.specs.private.Steps.{IsAbove, GoesOnWith, Stops, Within}
use Rattle.valid_table.specs.Texts.{IsDigestOf, IsNarOf, Line, Reference}
use Rattle.valid_table.specs.declared.path_table.version.Version.{Version}
use Rattle.valid_table.proofs.LineTexts.{references_are, two_path_lines}
use Rattle.valid_table.proofs.LineLists.{references_back}
use Rattle.valid_table.proofs.LineSteps.{StopsIn, first, stop_here, stops_back, stops_in}
use Rattle.valid_table.proofs.RisingPaths.{above_of_rising, last_is, rising_more}

-- after references the lines stop where they do after the last one
pub references_lead : (version : Version) (dir : List ℕ) (output : Option (List ℕ)) (bytes : List ℕ)
    (references : List (List ℕ)) (rest : List ℕ) (left : ℕ)
    → SoFarReferences dir bytes references rest
    → Stops version dir (Within output (last_or None references)) rest left
    → Stops version dir (Within output None) bytes left
references_lead version dir output bytes references rest left so_far h =
    stops_in _ _ _ (map Reference references) _ rest _
    (so_far.parts ∙ ap (λ (t : List ℕ). t ++ rest) (sym (references_are version _)))
    (references_back _ _ (StopsIn version dir rest left) (stops_back _ _ _ _)
    _ _ _
    [] so_far.of_dir (above_of_rising _ so_far.rising) h)

-- from within an entry no line but a reference's goes on with a reference's letter
stuck : (version : Version) (dir : List ℕ) (output before : Option (List ℕ))
    (bytes fields : List ℕ) → bytes ≡ 82 ∷ 32
    ∷ fields
    → ((path rest : List ℕ) → IsAbove before path → IsPathLine dir fields path rest → ⊥)
    → (line : Line) (rest : List ℕ) → GoesOnWith version dir (Within output before) bytes line rest
    → ⊥
stuck version dir output before bytes fields begins none (Reference path) rest goes =
    search (rules, append_assoc)
stuck version dir output before bytes fields begins none line rest goes = search (rules, first)

-- a reference's line without a path stops
pub bad_reference : (version : Version) (dir : List ℕ) (output before : Option (List ℕ))
    (bytes fields : List ℕ) → bytes
    ≡ 82 ∷ 32 ∷ fields
    → ((path rest : List ℕ) → IsPathLine dir fields path rest → ⊥)
    → Stops version dir (Within output before) bytes (length bytes)
bad_reference version dir output before bytes fields begins none = search (rules, stop_here, stuck)

-- a reference's line with a path that isn't above the one before it stops
pub low_reference : (version : Version) (dir : List ℕ) (output before : Option (List ℕ))
    (bytes fields path rest : List ℕ) → bytes ≡ 82 ∷ 32 ∷ fields
    → IsPathLine dir fields path rest → (IsAbove before path → ⊥)
    → Stops version dir (Within output before) bytes (length bytes)
low_reference version dir output before bytes fields path rest begins line low =
    stop_here _ _ _ _ _ _ begins tt
    (stuck _ _ _ _ _ _ begins (λ other more above is.
    let same = two_path_lines _ _ _ _ _ _ is line in
    low (rw same.0 at above)))

-- the text of references, and one more line
text_more : (references : List (List ℕ)) (path after : List ℕ) → references_text references
    ++ (82 ∷ 32 ∷ (path ++ 10 ∷ after)) ≡ references_text (references ++ path ∷ []) ++ after
text_more references path after = search (rules, append_assoc, flat_map-append, append-nil)

-- one more reference
pub references_more : (dir bytes : List ℕ) (references more : List (List ℕ))
    (rest fields path after : List ℕ) → SoFarReferences dir bytes references rest
    → rest ≡ 82 ∷ 32 ∷ fields → IsPathLine dir fields path after
    → IsAbove (last_or None references) path → more ≡ references ++ path ∷ []
    → SoFarReferences dir bytes more after
references_more dir bytes references more rest fields path after so_far begins line above pushed =
    rw pushed (record {
      parts = so_far.parts ∙ ap (λ r. references_text references ++ r)
          (begins ∙ ap (λ (f : List ℕ). 82 ∷ 32 ∷ f) line.parts) ∙ text_more _ _ after;
      of_dir = All-push (IsPathOf dir) _ _ so_far.of_dir line.of_dir;
      rising = rising_more _ _ so_far.rising above;
    })

-- a path above the last element, as it was looked up
pub above_last : (paths shown : List (List ℕ)) (last : Option (List ℕ)) (path : List ℕ) → shown
    ≡ paths → last ≡ slice_get shown (length shown - 1) → IsAbove last path
    → IsAbove (last_or None paths) path
above_last paths shown last path same at above = search (rules, last_is)

pub above_looked_up : (paths shown : List (List ℕ)) (last : Option (List ℕ)) (path : List ℕ) → shown
    ≡ paths → last ≡ slice_get shown (length shown - 1) → IsAbove (last_or None paths) path
    → IsAbove last path
above_looked_up paths shown last path same at above = search (rules, last_is)

-- a registration that was read: its line and those of its references
pub registration_found : (version : Version) (dir : List ℕ) (letter : ℕ) (before : Option (List ℕ))
    (bytes fields path : List ℕ) (digest : Option MethodDigest)
    (nar : Option NarInfo) (after : List ℕ) (info : PathInfo)
    (rest : List ℕ) → bytes ≡ letter ∷ 32 ∷ fields
    → IsFieldsLine version dir fields path digest nar after → IsAbove before path
    → ReadsReferences dir after info.references rest → info.digest ≡ digest → info.nar ≡ nar
    → HasRegistration version dir letter before bytes (record { path = path; info = info }) rest
registration_found version dir letter before bytes fields path digest nar after info rest begins
    line above has same also =
    let prefix = fields_text version path info.digest info.nar in
    let lines = lines_text version (map Reference info.references) in
    let is : fields ≡ (prefix ++ lines) ++ rest = line.parts
    ∙ ap (λ d. fields_text version path d nar ++ after) (sym same)
    ∙ ap (λ n. fields_text version path info.digest n ++ after) (sym also)
    ∙ ap (λ (t : List ℕ). prefix ++ t)
    (has.so_far.parts
    ∙ ap (λ (t : List ℕ). t ++ rest) (sym (references_are _ _)))
    ∙ sym (append_assoc prefix lines rest) in
    record {
      parts = begins ∙ ap (λ (f : List ℕ). letter ∷ 32 ∷ f) is;
      of_dir = record {
        path = line.of_dir;
        digest = subst (IsDigestOf version) (sym same) line.is_known.0;
        nar = subst (IsNarOf version) (sym also) line.is_known.1;
        references = has.so_far.of_dir;
        rising = has.so_far.rising;
      };
      above = above;
      ends = has.ends;
    }
