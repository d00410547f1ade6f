-- The start of a job that asks for the graph of base.
use Rattle.std.proofs.Common.{◌≡◌, ◌∙◌, ◌<◌, inl, inr, ⊎_elim, ℕ, zero, suc, true, List, [], ◌∷◌, map, Some, None, Option, Result, Ok, Err, ap, refl, sym, subst, arith, rules}
use Rattle.std.specs.Fmt.{digits}
use Rattle.std.specs.Prelude.{All, Contains, codes, find, option_map}
use Rattle.std.proofs.lemmas.List.Elements.{All-contains}
use Rattle.std.proofs.lemmas.Option.{none-some}
use Rattle.nix_names.specs.Names.{same_bytes}
use Rattle.nix_names.specs.StorePaths.{IsDrvPath}
use Rattle.nix_names.proofs.Lists.{Contains-cons_cases, Contains-first, Contains-nothing}
use Rattle.nix_drv.specs.Derivation.{EnvEntry}
use Rattle.drv_graph.specs.declared.profile.Profile.{Profile}
use Rattle.valid_table.specs.Closure.{IsClosure, LeadsByReferences, Reaches}
use Rattle.valid_table.specs.Entries.{paths_registered, registered}
use Rattle.valid_table.specs.PathInfos.{PathInfo}
use Rattle.valid_table.specs.Valid.{IsValid, RefersTo, Registers}
use Rattle.valid_table.specs.declared.entry.Entry.{Entry}
use Rattle.valid_table.specs.declared.entry.Registration.{Registration}
use Rattle.valid_view.specs.Answers.{AreRecords}
use Rattle.structured_attrs.specs.Registrations.{registrations_text}
use Rattle.build_outcome.specs.Attributes.{json_of, value_under}
use Rattle.build_outcome.specs.Tokens.{tokens}
use Rattle.build_outcome.specs.declared.job.Job.{Job}
use Rattle.build_outcome.specs.declared.job.WholeInput.{WholeInput}
use Rattle.build_outcome.specs.declared.preparation.Prepared.{Prepared}
use Rattle.build_outcome.specs.declared.preparation.Prepared.TheVariants.{Entries, Structured}
use Rattle.build_outcome.specs.declared.preparation.PreparedFile.{PreparedFile}
use Rattle.build_outcome.specs.declared.reason.Reason.{Reason}
use Rattle.builder_start.specs.Asked.{AsksForRecords, graphs_of, tokens_or_none}
use Rattle.builder_start.specs.Entries.{AreFiles, IsFileOf, IsGoodPair, is_file_name, pairs_of, root_of}
use Rattle.builder_start.specs.Graphs.{IsGraph, IsInGraph, IsOutputReached, IsReached, MayBeGraph}
use Rattle.sched_core.specs.Books.{AreSeedsValid}
use Rattle.store_run.specs.DiamondExample.{base, base_out, file_of, left, left_out}
use Rattle.store_run.specs.GraphExample.{AsksForBase, HasBaseGraph, IsBaseGraph, asking, base_alone, base_and_left, base_text}
use Rattle.store_run.specs.Starts.{IsPreparing, IsStart}
use Rattle.store_run.specs.TwinExample.{of_empty}
use Rattle.store_run.proofs.AlonePlans.{all_one, all_two}

-- ---- closures of paths without references

-- no record of some registrations has references
abbrev AreLone : List Registration → Type 0
AreLone rows = (path : List ℕ) (info : PathInfo) → Registers rows path info → info.references ≡ []

module _ (rows : List Registration) (lone : AreLone rows) where
  leads_nowhere : (from to : List ℕ) (steps : List (List ℕ))
      → LeadsByReferences rows from to steps → from ≡ to
  leads_nowhere from to [] (valid, same) = same
  leads_nowhere from to (next ∷ steps) ((info, is, has), more) =
      absurd (Contains-nothing next
      (subst (λ references. Contains references next) (lone from info is) has))

  reaches_itself : (root path : List ℕ) → Reaches rows root path → root ≡ path
  reaches_itself root path (steps, leads) = leads_nowhere root path steps leads

  pub lone_closure : (root : List ℕ) → IsValid rows root → IsClosure rows (root ∷ []) (root ∷ [])
  lone_closure root valid = record {
    rising = tt;
    each = λ path. (
      (λ has. (
        root,
        Contains-first root [],
        subst (λ p. Reaches rows root p) (⊎_elim (λ same. same)
            (λ none. absurd (Contains-nothing path none)) (Contains-cons_cases root [] path has))
            ([], (valid, refl)),
      )),
      (λ reached. subst (λ p. Contains (root ∷ []) p)
          (⊎_elim (λ same. same) (λ none. absurd (Contains-nothing reached.0 none))
          (Contains-cons_cases root [] reached.0 reached.1)
          ∙ reaches_itself reached.0 path reached.2) (Contains-first root [])),
    );
  }

-- ---- the records of base and of left

abbrev row_of : List ℕ → Registration
row_of path = record {
  path = path;
  info = record { references = []; digest = Some of_empty; nar = None };
}

abbrev HasNoReferences : Registration → Type 0
HasNoReferences row = row.info.references ≡ []

row_lone : (rows : List Registration) → All HasNoReferences rows → AreLone rows
row_lone rows all path info is =
    All-contains HasNoReferences rows (record { path = path; info = info }) all is

base_lone : AreLone (row_of base_out ∷ [])
base_lone = row_lone (row_of base_out ∷ []) (all_one HasNoReferences (row_of base_out) refl)

both_lone : AreLone (row_of base_out ∷ row_of left_out ∷ [])
both_lone = row_lone (row_of base_out ∷ row_of left_out ∷ [])
    (all_two HasNoReferences (row_of base_out) (row_of left_out) refl refl)

-- ---- what the job asks for

-- the value at a key among some entries
abbrev value_in : (key : List ℕ) → List EnvEntry → Option (List ℕ)
value_in key entries = option_map (λ (e : EnvEntry). e.value)
    (find (λ (e : EnvEntry). same_bytes e.key key) entries)

module _ (job : Job) (asks : AsksForBase job) where
  value_is : (key : List ℕ) → value_under job.profile key job ≡ value_in key (asking ∷ [])
  value_is key = ap (λ (p : Profile). value_under p key job) asks.profile
      ∙ ap (value_in key) asks.env

  pub no_json : json_of job ≡ None
  no_json = value_is (codes "__json")

  pub one_graph : graphs_of job ≡ Some asking.value
  one_graph = value_is (codes "exportReferencesGraph")

  pub asks_for_records : AsksForRecords job
  asks_for_records = inr (λ none. none-some asking.value (sym none ∙ one_graph))

-- ---- the graph of base, by its own record

abbrev base_rows : List Registration
base_rows = row_of base_out ∷ []

base_valid : IsValid base_rows base_out
base_valid = Contains-first base_out []

-- nothing is reached from base but base
base_reached : (path : List ℕ) → IsReached base_rows (base_out ∷ []) path → base_out ≡ path
base_reached path (root, is_root, reaches) =
    ⊎_elim (λ same. same) (λ none. absurd (Contains-nothing root none))
    (Contains-cons_cases base_out [] root is_root)
    ∙ reaches_itself base_rows base_lone root path reaches

no_outputs : (path : List ℕ) → IsOutputReached base_rows [] (base_out ∷ []) path → ⊥
no_outputs path (input, is_input, reached, is_output) = Contains-nothing input is_input

base_is_no_file : IsDrvPath base_out → ⊥
base_is_no_file is = absurd cc

base_may_be : MayBeGraph base_rows [] (base_out ∷ [])
base_may_be = record {
  drvs = λ path reached is_file. absurd (base_is_no_file
      (subst IsDrvPath (sym (base_reached path reached)) is_file));
  outputs = λ path reached. absurd (no_outputs path reached);
}

base_graph : IsGraph base_rows [] (base_out ∷ []) base_rows
base_graph = record {
  paths = record {
    rising = tt;
    each = λ path. (
      (λ has. (
        base_out,
        inl (Contains-first base_out []),
        subst (λ p. Reaches base_rows base_out p) (⊎_elim (λ same. same)
            (λ none. absurd (Contains-nothing path none)) (Contains-cons_cases base_out [] path has))
            ([], (base_valid, refl)),
      )),
      (λ (start, among, reaches). ⊎_elim
          (λ is_root. subst (λ p. Contains (base_out ∷ []) p)
          (base_reached path (start, is_root, reaches)) (Contains-first base_out []))
          (λ output. absurd (no_outputs start output)) among),
    );
  };
  known = all_one (Contains base_rows) (row_of base_out) (Contains-first (row_of base_out) []);
}

-- ---- the file

abbrev base_pair : List ℕ × List ℕ
base_pair = (codes "graph", base_out)

words_are : tokens_or_none (Some asking.value) ≡ codes "graph" ∷ base_out ∷ []
words_are = refl

text_is : registrations_text base_rows ≡ base_text
unfolding digits
text_is = refl

good_pair : IsGoodPair base_rows [] base_pair
good_pair = record { name = refl; root = base_out; is_root = refl; may_be = base_may_be }

module _ (file : PreparedFile) (is : IsBaseGraph file) where
  is_file : IsFileOf base_rows [] base_pair file
  is_file = record {
    name = is.name;
    root = base_out;
    is_root = refl;
    graph = base_rows;
    is_graph = base_graph;
    contents = is.contents ∙ sym text_is;
  }

  are_files : AreFiles base_rows [] (codes "graph" ∷ base_out ∷ []) (file ∷ [])
  are_files = (
    base_pair ∷ [],
    record { even = refl; each = all_one (IsGoodPair base_rows []) base_pair good_pair },
    (is_file, tt),
  )

-- ---- starts

module _ (job : Job) (asks : AsksForBase job) where
  prepared : (start : Result Prepared Reason) → HasBaseGraph start
      → IsPreparing base_rows job start
  prepared (Ok (Entries files)) (file, are, is) = (
    no_json job asks,
    subst (λ (whole : List WholeInput). AreFiles base_rows whole (tokens_or_none (graphs_of job))
        files.items) (sym asks.whole_inputs)
        (subst (λ (text : Option (List ℕ)). AreFiles base_rows [] (tokens_or_none text) files.items)
        (sym (one_graph job asks))
        (subst (λ (fs : List PreparedFile). AreFiles base_rows [] (codes "graph" ∷ base_out ∷ []) fs)
        (sym are) (are_files file is))),
  )
  prepared (Ok (Structured texts)) has = absurd has
  prepared (Err why) has = absurd has

  module _ (entries : List Entry) (lone : AreLone (registered entries))
      (registers : Registers (registered entries) base_out (row_of base_out).info)
      (valid : IsValid (registered entries) base_out) where
    records : AreRecords (registered entries) job.seeds.items base_rows
    records = subst (λ (seeds : List (List ℕ)). AreRecords (registered entries) seeds base_rows)
        (sym asks.seeds) (record {
          closure = lone_closure (registered entries) lone base_out valid;
          known = all_one (λ (r : Registration). Registers (registered entries) r.path r.info)
              (row_of base_out) registers;
        })

    seeds_valid : AreSeedsValid entries job
    seeds_valid = subst (All (IsValid (registered entries))) (sym asks.seeds)
        (all_one (IsValid (registered entries)) base_out valid)

    starts : (start : Result Prepared Reason) → HasBaseGraph start → IsStart entries job start
    starts start has = inr (
      asks_for_records job asks,
      record { rows = base_rows; are_rows = records; is = prepared start has },
    )

  pub seeds_alone : AreSeedsValid base_alone job
  seeds_alone = seeds_valid base_alone base_lone
      (Contains-first (row_of base_out) []) (Contains-first base_out [])

  pub starts_alone : (start : Result Prepared Reason) → HasBaseGraph start
      → IsStart base_alone job start
  starts_alone = starts base_alone base_lone
      (Contains-first (row_of base_out) []) (Contains-first base_out [])

  pub starts_with_left : (start : Result Prepared Reason) → HasBaseGraph start
      → IsStart base_and_left job start
  starts_with_left = starts base_and_left both_lone
      (Contains-first (row_of base_out) (row_of left_out ∷ []))
      (Contains-first base_out (left_out ∷ []))
