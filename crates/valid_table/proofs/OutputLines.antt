-- The lines of outputs: where they lead, where they stop, and what they are.
use Rattle.std.proofs.Common.{◌≡◌, ℕ, List, [], ◌∷◌, ◌++◌, Option, Some, None, inl, inr, sym, ap, ◌∙◌, subst, rules}
use Rattle.std.specs.List.{flat_map, last_or}
use Rattle.std.proofs.lemmas.List.{append-nil, map-append}
use Rattle.std.proofs.lemmas.List.Concat.{flat_map-append}
use Rattle.std.proofs.lemmas.List.Elements.{All-push}
use Rattle.nix_names.specs.Rising.{IsRising}
use Rattle.nix_names.specs.declared.method.MethodDigest.{MethodDigest}
use Rattle.valid_table.specs.PathInfos.{NarInfo}
use Rattle.valid_table.specs.Entries.{paths_registered}
use Rattle.valid_table.specs.private.LineTexts.{lines_text, registration_text}
use Rattle.valid_table.specs.private.Readers.{HasRegistration, IsBadFields, SoFarOutputs, StopsInRegistration}
use Rattle.valid_table.specs.private.Steps.{Ahead, IsAbove, Opened, GoesOnWith, MayBeOutputAfter, MayBeLine, Stops}
use Rattle.valid_table.specs.Texts.{IsOf, Line, Output, output_lines}
use Rattle.valid_table.specs.declared.entry.Registration.{Registration}
use Rattle.valid_table.specs.declared.path_table.version.Version.{Version}
use Rattle.valid_table.proofs.Leading.{text_and}
use Rattle.valid_table.proofs.LineLists.{may_stand, outputs_back, position_at}
use Rattle.valid_table.proofs.LineSteps.{StopsIn, first, stop_after, stop_here, stops_back, stops_in}
use Rattle.valid_table.proofs.RisingPaths.{above_of_rising, rising_more}

-- the lines of outputs, and of one more
lines_more : (outputs : List Registration) (o : Registration)
    → flat_map output_lines outputs ++ output_lines o
    ≡ flat_map output_lines (outputs ++ o ∷ [])
lines_more outputs o = search (rules, flat_map-append, append-nil)

-- the text of outputs, and of one more
text_more : (version : Version) (outputs : List Registration) (o : Registration) (after : List ℕ)
    → lines_text version (flat_map output_lines outputs) ++
    (registration_text version 79 o ++ after)
    ≡ lines_text version (flat_map output_lines (outputs ++ o ∷ [])) ++ after
text_more version outputs o after =
    text_and version (flat_map output_lines outputs) (output_lines o) after
    ∙ ap (λ some. lines_text version some ++ after) (lines_more _ o)

-- ---- where an output stops

may_follow : (version : Version) (dir : List ℕ) (before last : Option (List ℕ)) (path : List ℕ)
    (digest : Option MethodDigest) (nar : Option NarInfo)
    → MayBeLine version dir (position_at before last) (Output path digest nar)
    → MayBeOutputAfter version dir before path digest nar
may_follow version dir None last path digest nar may = may
may_follow version dir (Some output) last path digest nar may = may

-- there an output's letter comes
letter_ahead : (before last : Option (List ℕ)) (bytes fields : List ℕ) → bytes ≡ 79 ∷ 32 ∷ fields
    → Ahead (position_at before last) bytes
letter_ahead None last bytes fields begins = (fields, begins)
letter_ahead (Some output) last bytes fields begins = tt

-- with an output's letter only an output's line goes on
stuck : (version : Version) (dir : List ℕ) (before last : Option (List ℕ)) (bytes : List ℕ)
    (left : ℕ)
    → (h : IsBadFields version dir 79 before bytes left) → (line : Line) (rest : List ℕ)
    → GoesOnWith version dir (position_at before last) bytes line rest → ⊥
stuck version dir before last bytes left h (Output path digest nar) rest go =
    search (rules, may_follow)
stuck version dir before last bytes left h line rest go = search (rules, first)

-- reading an output stops where its line, or one of its references, is bad
output_stops : (version : Version) (dir : List ℕ) (before last : Option (List ℕ)) (bytes : List ℕ)
    (left : ℕ)
    → StopsInRegistration version dir 79 before bytes left
    → Stops version dir (position_at before last) bytes left
output_stops version dir before last bytes left (inl h) =
    search (rules, position_at, stop_here, letter_ahead, stuck)
output_stops version dir before last bytes left (inr h) =
    stop_after _ _ _ _ _ _ _
    (h.begins ∙ ap (λ (f : List ℕ). 79 ∷ 32 ∷ f) h.line.parts)
    (may_stand _ _ _ _ _ _ _ (h.line.of_dir, h.line.is_known, h.above))
    (h.stops version (Some h.path))

pub outputs_stop : (version : Version) (dir bytes : List ℕ) (outputs : List Registration)
    (rest : List ℕ)
    (before : Option (List ℕ)) (left : ℕ) → SoFarOutputs version dir bytes outputs rest → before
    ≡ last_or None (paths_registered outputs)
    → StopsInRegistration version dir 79 before rest left → Stops version dir Opened bytes left
outputs_stop version dir bytes outputs rest before left so_far is h =
    stops_in _ _ _ (flat_map output_lines outputs) _ rest _ so_far.parts
    (outputs_back _ _ (StopsIn version dir rest left) (stops_back _ _ _ _)
    _ _ None []
    so_far.of_dir (above_of_rising _ so_far.rising)
    (λ reference. output_stops _ _ _ _ _ _
    (subst (λ o. StopsInRegistration version dir 79 o rest left) is h)))

-- ---- outputs that were read

-- one more output
pub outputs_more : (version : Version) (dir bytes : List ℕ) (outputs more : List Registration)
    (rest after : List ℕ)
    (before : Option (List ℕ)) (o : Registration) → SoFarOutputs version dir bytes outputs rest
    → before
    ≡ last_or None (paths_registered outputs)
    → HasRegistration version dir 79 before rest o after → more ≡ outputs ++ o ∷ []
    → SoFarOutputs version dir bytes more after
outputs_more version dir bytes outputs more rest after before o so_far is h pushed =
    rw pushed (record {
      parts = so_far.parts ∙ ap (λ t. lines_text version (flat_map output_lines outputs) ++ t)
          h.parts
          ∙ text_more _ _ o after;
      of_dir = All-push (IsOf version dir) _ o so_far.of_dir h.of_dir;
      rising = subst IsRising (sym (map-append (λ (r : Registration). r.path) outputs (o ∷ [])))
          (rising_more _ _ so_far.rising
          (subst (λ b. IsAbove b o.path) is h.above));
      ended = inr h.ends;
    })
