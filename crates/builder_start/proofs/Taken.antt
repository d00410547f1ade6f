-- Structured attributes that are taken, and those that are not.
use Rattle.std.proofs.Common.{◌≡◌, ◌∙◌, ℕ, List, All, Contains, Some, None, ap, codes, map, refl, string_bytes, subst, sym}
use Rattle.std.specs.Str.{IsUtf8}
use Rattle.std.proofs.lemmas.List.Elements.{All-contains, All-contains_itself, All-map, All-weaker}
use Rattle.std.proofs.lemmas.Option.{none-some, same_Some}
use Rattle.serde_json.specs.Data.{Members}
use Rattle.serde_json.specs.Find.{get_member}
use Rattle.nix_names.proofs.Lists.{Contains-map}
use Rattle.structured_attrs.specs.Attributes.{attributes}
use Rattle.structured_attrs.specs.Checks.{said_of}
use Rattle.structured_attrs.specs.Graphs.{graph_requests, shown_request}
use Rattle.structured_attrs.specs.Reading.{attributes_of}
use Rattle.structured_attrs.specs.declared.outputs.OutputPath.{OutputPath}
use Rattle.build_outcome.specs.declared.job.Job.{Job}
use Rattle.build_outcome.specs.declared.job.JobOutput.{JobOutput}
use Rattle.builder_start.specs.Structured.{AreAttributes, SayChecks, strings_of}
use Rattle.builder_start.specs.declared.given.Given.{Given}
use Rattle.builder_start.specs.private.Shown.{IsGiven, output_of, shown_output, texts_of}

pub not_read : (job : Job) (text : List ℕ) → (IsUtf8 text → attributes_of text ≡ None)
    → AreAttributes job text → ⊥
not_read job text none a = none-some a.given (sym (none a.utf8) ∙ a.read)

same_given : (job : Job) (text : List ℕ) (given : Members) → attributes_of text ≡ Some given
    → (a : AreAttributes job text) → given ≡ a.given
same_given job text given read a = same_Some given a.given (sym read ∙ a.read)

pub not_impure : (job : Job) (text : List ℕ) (given : Members) → attributes_of text ≡ Some given
    → strings_of (get_member (codes "impureEnvVars") given) ≡ None → AreAttributes job text → ⊥
not_impure job text given read none a =
    none-some a.impure (sym none
    ∙ ap (λ (ms : Members). strings_of (get_member (codes "impureEnvVars") ms))
    (same_given job text given read a) ∙ a.are_impure)

pub not_features : (job : Job) (text : List ℕ) (given : Members) → attributes_of text ≡ Some given
    → strings_of (get_member (codes "requiredSystemFeatures") given) ≡ None
    → AreAttributes job text → ⊥
not_features job text given read none a =
    none-some a.features (sym none
    ∙ ap (λ (ms : Members). strings_of (get_member (codes "requiredSystemFeatures") ms))
    (same_given job text given read a) ∙ a.are_features)

pub not_asked : (job : Job) (text : List ℕ) (given : Members) → attributes_of text ≡ Some given
    → graph_requests given ≡ None → AreAttributes job text → ⊥
not_asked job text given read none a =
    none-some a.asked (sym none ∙ ap graph_requests (same_given job text given read a) ∙ a.are_asked)

pub not_named : (job : Job) (text : List ℕ)
    → (All (λ (o : JobOutput). IsUtf8 o.name.items) job.outputs.items → ⊥)
    → AreAttributes job text → ⊥
not_named job text none a = none a.named

-- ---- checks

-- checks are said of an output, by its name
abbrev pub SaysOf : Members → OutputPath → Type 0
SaysOf given output = SayChecks (said_of (string_bytes output.name) given)

-- what holds of what a list is mapped to
all_from_map : {A B : Type 0} (P : B → Type 0) (f : A → B) (xs : List A) → All P (map f xs)
    → All (λ x. P (f x)) xs
all_from_map P f xs all =
    All-weaker (Contains xs) (λ x. P (f x))
    (λ x has. All-contains P (map f xs) (f x) all (Contains-map f xs x has))
    xs (All-contains_itself xs)

-- what is said of outputs with their paths is said of the job's
checked_of_outputs : (given : Members) (paths : List OutputPath) (outputs : List JobOutput)
    → map shown_output paths ≡ map output_of outputs → All (SaysOf given) paths
    → All (λ (o : JobOutput). SayChecks (said_of o.name.items given)) outputs
checked_of_outputs given paths outputs same all =
    all_from_map (λ (q : List ℕ × List ℕ). SayChecks (said_of q.0 given)) output_of outputs
    (subst (All (λ (q : List ℕ × List ℕ). SayChecks (said_of q.0 given))) same
    (All-map (λ (q : List ℕ × List ℕ). SayChecks (said_of q.0 given)) shown_output paths all))

pub not_checked : (job : Job) (text : List ℕ) (given : Members) (paths : List OutputPath)
    → attributes_of text ≡ Some given → map shown_output paths ≡ map output_of job.outputs.items
    → (All (SaysOf given) paths → ⊥) → AreAttributes job text → ⊥
not_checked job text given paths read same none a =
    none (all_from_map (λ (q : List ℕ × List ℕ). SayChecks (said_of q.0 given)) shown_output paths
    (subst (All (λ (q : List ℕ × List ℕ). SayChecks (said_of q.0 given))) (sym same)
    (All-map (λ (q : List ℕ × List ℕ). SayChecks (said_of q.0 given)) output_of job.outputs.items
    (subst (λ (ms : Members). All (λ (o : JobOutput). SayChecks (said_of o.name.items ms)) job.outputs.items)
    (sym (same_given job text given read a)) a.checked))))

pub all_taken : (job : Job) (text : List ℕ) (given : Given) (features : List (List ℕ))
    → IsUtf8 text → attributes_of text ≡ Some (attributes given.attributes)
    → strings_of (get_member (codes "impureEnvVars") (attributes given.attributes))
    ≡ Some (texts_of given.impure.items)
    → strings_of (get_member (codes "requiredSystemFeatures") (attributes given.attributes))
    ≡ Some features
    → graph_requests (attributes given.attributes) ≡ Some (map shown_request given.requests.items)
    → All (λ (o : JobOutput). IsUtf8 o.name.items) job.outputs.items
    → map shown_output given.outputs.items ≡ map output_of job.outputs.items
    → All (SaysOf (attributes given.attributes)) given.outputs.items
    → IsGiven job text given
all_taken job text given features utf8 read impure features' asked named outputs checked = record {
  taken = record {
    given = attributes given.attributes;
    utf8 = utf8;
    read = read;
    impure = texts_of given.impure.items;
    are_impure = impure;
    features = features;
    are_features = features';
    asked = map shown_request given.requests.items;
    are_asked = asked;
    named = named;
    checked = checked_of_outputs (attributes given.attributes) given.outputs.items
        job.outputs.items outputs checked;
  };
  attributes = refl;
  impure = refl;
  requests = refl;
  outputs = outputs;
}
