-- The texts of structured attributes, put together.
use Rattle.std.proofs.Common.{◌≡◌, ◌∙◌, ◌⊎◌, ℕ, List, [], ◌∷◌, ap, codes, inr, map, refl, string_bytes, subst, sym}
use Rattle.std.specs.List.{AllZip}
use Rattle.serde_json.specs.Data.{Members, no_members, object, put, string}
use Rattle.valid_table.specs.declared.entry.Registration.{Registration}
use Rattle.structured_attrs.specs.Attributes.{attributes}
use Rattle.structured_attrs.specs.Graphs.{outputs_data, shown_request, with_outputs}
use Rattle.structured_attrs.specs.JsonTexts.{IsJsonText}
use Rattle.structured_attrs.specs.ShellTexts.{shell_text}
use Rattle.structured_attrs.specs.declared.graph.GraphRow.{GraphRow}
use Rattle.structured_attrs.specs.declared.outputs.OutputPath.{OutputPath}
use Rattle.build_outcome.specs.declared.job.Job.{Job}
use Rattle.build_outcome.specs.declared.job.JobOutput.{JobOutput}
use Rattle.build_outcome.specs.declared.preparation.AttributeTexts.{AttributeTexts}
use Rattle.build_outcome.specs.declared.reason.Reason.{Reason}
use Rattle.build_outcome.specs.declared.reason.Reason.TheVariants.{BadGraph, UnknownNar}
use Rattle.builder_start.specs.Structured.{AreGoodRequests, AreTexts, IsFirstWithoutNar, IsGraphOf, with_all, with_graphs, with_paths}
use Rattle.builder_start.specs.declared.given.Given.{Given}
use Rattle.builder_start.specs.private.Shown.{IsGiven, IsUntold, IsWhy, output_of, shown_output}

heads : {A : Type 0} (x y : A) (xs ys : List A) → x ∷ xs ≡ y ∷ ys → x ≡ y
heads x y xs ys same = cc

tails : {A : Type 0} (x y : A) (xs ys : List A) → x ∷ xs ≡ y ∷ ys → xs ≡ ys
tails x y xs ys same = cc

nothing_first : {A : Type 0} (x : A) (xs : List A) → [] ≡ x ∷ xs → ⊥
nothing_first x xs same = cc

-- the outputs that are set are the job's
outputs_alike : (paths : List OutputPath) (outputs : List JobOutput) (found : Members)
    → map shown_output paths ≡ map output_of outputs
    → with_outputs paths found ≡ with_paths outputs found
outputs_alike [] [] found same = refl
outputs_alike [] (o ∷ outputs) found same =
    absurd (nothing_first (output_of o) (map output_of outputs) same)
outputs_alike (p ∷ paths) [] found same =
    absurd (nothing_first (shown_output p) (map shown_output paths) (sym same))
outputs_alike (p ∷ paths) (o ∷ outputs) found same =
    let first : shown_output p ≡ output_of o =
    heads (shown_output p) (output_of o) (map shown_output paths) (map output_of outputs) same in
    outputs_alike paths outputs (put (shown_output p).0 (string (shown_output p).1) found)
    (tails (shown_output p) (output_of o) (map shown_output paths) (map output_of outputs) same)
    ∙ ap (λ (q : List ℕ × List ℕ). with_paths outputs (put q.0 (string q.1) found)) first

pub texts_made : (rows : List Registration) (job : Job) (text : List ℕ) (given : Given)
    (before after : Members) (texts : AttributeTexts) (is : IsGiven job text given)
    → AreGoodRequests rows job.whole_inputs.items (map shown_request given.requests.items)
    → before ≡ put (codes "outputs") (outputs_data given.outputs.items) (attributes given.attributes)
    → ((graphs : List (List ℕ × List GraphRow))
    × AllZip (IsGraphOf rows job.whole_inputs.items) (map shown_request given.requests.items) graphs
    × (after ≡ with_graphs graphs before))
    → IsJsonText (object after) texts.json.items → texts.shell.items ≡ shell_text after
    → texts.impure ≡ given.impure
    → AreTexts rows job text texts
texts_made rows job text given before after texts is good outputs graphs json shell impure =
    let first : before ≡ put (codes "outputs") (object (with_paths job.outputs.items no_members)) is.taken.given =
    outputs
    ∙ ap (λ (ms : Members). put (codes "outputs") (object ms) (attributes given.attributes))
    (outputs_alike given.outputs.items job.outputs.items no_members is.outputs)
    ∙ ap (put (codes "outputs") (object (with_paths job.outputs.items no_members))) is.attributes in
    let all : after ≡ with_all job graphs.0 is.taken.given =
    graphs.2 ∙ ap (with_graphs graphs.0) first in
    record {
      taken = is.taken;
      good = subst (AreGoodRequests rows job.whole_inputs.items) is.requests good;
      graphs = graphs.0;
      are_graphs = subst (λ rs. AllZip (IsGraphOf rows job.whole_inputs.items) rs graphs.0) is.requests graphs.1;
      json = subst (λ (ms : Members). IsJsonText (object ms) texts.json.items) all json;
      shell = shell ∙ ap shell_text all;
      impure = ap (λ v. map (λ s. string_bytes s) v.items) impure ∙ is.impure;
    }

-- a graph may not be asked for, or an archive is not known
pub untold : (rows : List Registration) (job : Job) (text : List ℕ) (given : Given)
    (reason : Reason) (is : IsGiven job text given)
    → IsWhy BadGraph (AreGoodRequests rows job.whole_inputs.items (map shown_request given.requests.items) → ⊥) reason
    ⊎ ((index : ℕ) × (reason ≡ UnknownNar index)
    × AreGoodRequests rows job.whole_inputs.items (map shown_request given.requests.items)
    × IsFirstWithoutNar rows job (map shown_request given.requests.items) index)
    → IsUntold rows job text reason
untold rows job text given reason is why =
    inr (
      is.taken,
      subst
          (λ asked. IsWhy BadGraph (AreGoodRequests rows job.whole_inputs.items asked → ⊥) reason
          ⊎ ((index : ℕ) × (reason ≡ UnknownNar index)
          × AreGoodRequests rows job.whole_inputs.items asked
          × IsFirstWithoutNar rows job asked index))
          is.requests why,
    )
