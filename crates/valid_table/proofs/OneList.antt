-- The bytes of a journal's text tell its lines, and these tell its entries.
use Rattle.std.proofs.Common.{◌≡◌, ℕ, List, [], ◌∷◌, ◌++◌, inl, inr, map, refl, ap, sym, subst, ◌∙◌, Option, ◌≢◌, rules}
use Rattle.std.specs.List.{flat_map}
use Rattle.std.proofs.lemmas.List.{append-nil, append_assoc, length-append}
use Rattle.nix_names.specs.declared.method.MethodDigest.{MethodDigest}
use Rattle.valid_table.specs.PathInfos.{NarInfo}
use Rattle.valid_table.specs.private.LineTexts.{lines_text}
use Rattle.valid_table.specs.Reading.{BeginsVersion}
use Rattle.valid_table.specs.ReadingLaws.{TextHasOneList}
use Rattle.valid_table.specs.private.Steps.{Position, Start}
use Rattle.valid_table.specs.Texts.{IsTextIn, Line, First, Added, Deriver, Output, Reference, entry_lines, lines, output_lines, text}
use Rattle.valid_table.specs.declared.entry.Entry.{Entry}
use Rattle.valid_table.specs.declared.entry.Entry.TheVariants.{Add, Done}
use Rattle.valid_table.specs.declared.entry.Registration.{Registration}
use Rattle.valid_table.specs.declared.path_table.version.Version.{Version}
use Rattle.valid_table.specs.declared.path_table.version.Version.TheVariants.{One, Two, Three}
use Rattle.valid_table.proofs.Leading.{aligned, lines_of}
use Rattle.valid_table.proofs.LineLists.{Ends, MayEnd, lines_end}
use Rattle.valid_table.proofs.LineTexts.{body, line_and}
use Rattle.valid_table.proofs.Versions.{one_version, text_begins}

-- ---- bytes tell lines

-- lines that end a journal from one position are the same where their bytes are
lines_told : (version : Version) (dir : List ℕ) (from : Position) (a b : List Line)
    → Ends version dir from a → Ends version dir from b
    → lines_text version a ≡ lines_text version b → a ≡ b
lines_told version dir from a b one two e =
    elim (aligned _ _ a b [] [] (lines_of _ _ MayEnd _ a one)
    (lines_of _ _ MayEnd _ b two)
    (ap (λ (t : List ℕ). t ++ []) e)) [
      | inl d ↦ sym
          (d.1 ∙ ap (λ (c : List Line). a ++ c) (none d.0
          (d.2 ∙ append-nil (lines_text version d.0)))
          ∙ append-nil a)
      | inr d ↦ d.1 ∙ ap (λ (c : List Line). b ++ c)
          (none d.0 (d.2 ∙ append-nil (lines_text version d.0)))
          ∙ append-nil b
    ]
  where
    none : (c : List Line) → [] ≡ lines_text version c → c ≡ []
    none [] e = refl
    none (line ∷ c) e = search (rules, line_and, length-append, body)

-- ---- lines tell entries

-- What lines tell: their entries and, at their beginning, the references and the outputs of what
-- begins before them.
record Told : Type 0 where
  pub references : List (List ℕ)
  pub outputs : List Registration
  pub entries : List Entry

-- what a path registers with a digest and the references after it
abbrev registration : List ℕ → Option MethodDigest → Option NarInfo → Told → Registration
registration path digest nar later =
    record {
      path = path;
      info = record {
        references = later.references;
        digest = digest;
        nar =
            nar;
      };
    }

-- what a line tells with what those after it tell
abbrev with_line : Line → Told → Told
with_line First later = later
with_line (Added path digest nar) later =
    record {
      references = [];
      outputs = [];
      entries = Add (registration path digest nar later)
          ∷ later.entries;
    }
with_line (Deriver path) later = record {
  references = [];
  outputs = [];
  entries = Done path later.outputs ∷ later.entries;
}
with_line (Output path digest nar) later =
    record {
      references = [];
      outputs = registration path digest nar later ∷ later.outputs;
      entries = later.entries;
    }
with_line (Reference path) later =
    record {
      references = path ∷ later.references;
      outputs = later.outputs;
      entries = later.entries;
    }

-- what lines tell
abbrev told : List Line → Told
told [] = record { references = []; outputs = []; entries = [] }
told (line ∷ come) = with_line line (told come)

-- the lines of references tell these
references_told :
    (references : List (List ℕ)) (come : List Line) (outputs : List Registration)
    (entries : List Entry) →
    told come ≡ record { references = []; outputs = outputs; entries = entries } →
    told (map Reference references ++ come) ≡ record {
      references = references;
      outputs = outputs;
      entries = entries;
    }
references_told [] come outputs entries e = e
references_told (path ∷ references) come outputs entries e =
    ap (with_line (Reference path)) (references_told _ _ _ _ e)

-- those of outputs tell these
outputs_told :
    (outputs : List Registration) (come : List Line) (entries : List Entry) →
    told come ≡ record { references = []; outputs = []; entries = entries } →
    told (flat_map output_lines outputs ++ come)
    ≡ record { references = []; outputs = outputs; entries = entries }
outputs_told [] come entries e = e
outputs_told (r ∷ outputs) come entries e =
    let start = Output r.path r.info.digest r.info.nar in
    let later = flat_map output_lines outputs ++ come in
    ap (λ (some : List Line). with_line start (told some))
    (append_assoc (map Reference r.info.references) (flat_map output_lines outputs) come)
    ∙ ap (with_line start)
    (references_told _ _ _ _
    (outputs_told _ _ _ e))

-- those of entries tell these
entries_told : (entries : List Entry) → told (flat_map entry_lines entries)
    ≡ record { references = []; outputs = []; entries = entries }
entries_told [] = refl
entries_told (Add r ∷ entries) =
    ap (with_line (Added r.path r.info.digest r.info.nar)) (references_told _ _ [] entries
    (entries_told _))
entries_told (Done deriver outputs ∷ entries) =
    ap (with_line (Deriver deriver)) (outputs_told _ _ _ (entries_told _))

-- entries with the same lines are the same
same_entries : (a b : List Entry) → lines a ≡ lines b → a ≡ b
same_entries a b e =
    sym (ap (λ (t : Told). t.entries) (entries_told a))
    ∙ ap (λ (some : List Line). (told some).entries) e
    ∙ ap (λ (t : Told). t.entries) (entries_told b)

-- ---- the law

-- in a version one text is that of one list of entries
one_in : (version : Version) (dir bytes : List ℕ) (a b : List Entry)
    → IsTextIn version dir a bytes → IsTextIn version dir b bytes → a ≡ b
unfolding text
one_in version dir bytes a b one two =
    same_entries a b
    (lines_told _ _ Start _ _ (lines_end _ _ a one.of_dir)
    (lines_end _ _ b two.of_dir) (sym one.bytes_are ∙ two.bytes_are))

-- a text with a version's line isn't empty
not_empty : (version : Version) (bytes : List ℕ) → BeginsVersion version bytes → bytes ≢ []
not_empty One bytes (rest, begins) none = search (rules, none)
not_empty Two bytes (rest, begins) none = search (rules, none)
not_empty Three bytes (rest, begins) none = search (rules, none)

-- one text is that of one list of entries
pub text_has_one_list : TextHasOneList
text_has_one_list dir bytes a b (inl (version, one)) (inl (other, two)) =
    let same = one_version _ _ _ (text_begins _ _ _ b two)
    (text_begins _ _ _ a one) in
    one_in _ _ _ a b one (subst (λ v. IsTextIn v dir b bytes) same two)
text_has_one_list dir bytes a b (inl (version, one)) (inr none) =
    search (rules, not_empty, text_begins)
text_has_one_list dir bytes a b (inr none) (inl (version, two)) =
    search (rules, not_empty, text_begins)
text_has_one_list dir bytes a b (inr none) (inr also) = none.0 ∙ sym also.0
