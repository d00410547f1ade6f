-- The text of the entries of a run over a plan of a store folder is read as these entries.
use Rattle.std.proofs.Common.{◌≡◌, ◌∙◌, ℕ, Bool, true, false, List, [], ◌∷◌, All, Err, Ok, Result, ap, inl, inr, length, map, refl, subst, sym, ⊎_elim}
use Rattle.std.specs.Prelude.{◌≢◌, Contains, IfSome, None, Some, slice_get}
use Rattle.std.specs.List.{list_any}
use Rattle.std.proofs.lemmas.List.{length-map}
use Rattle.std.proofs.lemmas.List.Elements.{All-append, All-cons, All-contains, All-nil}
use Rattle.nix_names.specs.Rising.{IsRising}
use Rattle.nix_names.specs.StorePaths.{IsPathOf, IsStorePath}
use Rattle.nix_names.specs.declared.method.Method.TheVariants.{Flat}
use Rattle.nix_names.specs.declared.method.MethodDigest.{MethodDigest}
use Rattle.nix_names.proofs.Lists.{All-from_contains, Contains-first, Contains-from_get, Contains-nothing, get_from_contains, same_element}
use Rattle.nix_drv.specs.Derivation.{Output}
use Rattle.nix_drv.specs.Sources.{Answer as SourceAnswer}
use Rattle.drv_graph.specs.Nodes.{Node}
use Rattle.drv_graph.specs.PlanNodes.{output_paths_of}
use Rattle.drv_graph.specs.Plans.{Graph, IsPlan}
use Rattle.drv_graph.specs.declared.profile.Profile.{Profile}
use Rattle.drv_graph.specs.declared.profile.Profile.TheVariants.{Plain, Nix}
use Rattle.valid_table.specs.Closure.{LeadsByReferences}
use Rattle.valid_table.specs.Entries.{paths_registered, registered, registered_by}
use Rattle.valid_table.specs.PathInfos.{PathInfo}
use Rattle.valid_table.specs.Texts.{IsEntryIn, IsJournalText, IsKnownOf, IsOf, IsTextIn, text}
use Rattle.valid_table.specs.Written.{entry_needs_three, least_version, written_text, written_version}
use Rattle.valid_table.specs.declared.entry.Entry.{Entry}
use Rattle.valid_table.specs.declared.entry.Entry.TheVariants.{Add, Done}
use Rattle.valid_table.specs.declared.entry.Registration.{Registration}
use Rattle.valid_table.specs.declared.path_table.version.Version.{Version}
use Rattle.valid_table.specs.declared.path_table.version.Version.TheVariants.{One, Two, Three}
use Rattle.valid_table.proofs.OneAnswer.{journal_texts_are_read}
use Rattle.valid_table.proofs.VersionLaws.{versions_have_the_same_entries}
use Rattle.valid_table.proofs.WrittenTexts.{written_texts_are_texts}
use Rattle.build_outcome.specs.Jobs.{IsJob, seeds_of}
use Rattle.build_outcome.specs.Verdicts.{IsVerdict, outputs_of}
use Rattle.build_outcome.specs.declared.job.Answer.{Answer}
use Rattle.build_outcome.specs.declared.job.Job.{Job}
use Rattle.build_outcome.specs.declared.job.JobOutput.{JobOutput}
use Rattle.build_outcome.specs.declared.reason.Reason.{Reason}
use Rattle.build_outcome.specs.declared.reason.Reason.TheVariants.{OutOfMemory}
use Rattle.run_states.specs.Legal.{IsEntryOf, IsLegal, MayRefer}
use Rattle.run_states.specs.Runs.{History, Run, precondition_at, terms_of}
use Rattle.run_states.specs.States.{phase_of}
use Rattle.run_states.specs.declared.precondition.Precondition.TheVariants.{Free}
use Rattle.run_states.proofs.Dones.{output_registered, part_with, registered_output}
use Rattle.run_states.proofs.OtherEvents.{begun_not_idle}
use Rattle.run_states.proofs.Registering.{entries_are_journal}
use Rattle.store_run.specs.Builders.{IsAnswered, IsOutcomeVerdict, IsVerdictAfter}
use Rattle.store_run.specs.Keeping.{interim_version}
use Rattle.store_run.specs.RunJournals.{AreReadAs, IsOverStore, JournalsOfRunsAreRead, KeptTextsAreRead, LeftJournalsAreRead}
use Rattle.store_run.proofs.DigestSizes.{record_in_three, record_in_two}
use Rattle.store_run.proofs.FlatRecords.{begun_free, records_are_flat}
use Rattle.store_run.proofs.StorePlans.{makes_in_store, makes_some, seed_in_store, stands_in_store, stands_named}
use Rattle.store_run.proofs.ToldRuns.{IsTold, told_begin, told_done, told_fail, told_from, told_opening}

-- ---- what entries of a folder register

registration_is : (version : Version) (dir : List ℕ) (entry : Entry) (r : Registration)
    → IsEntryIn version dir entry → Contains (registered_by entry) r → IsOf version dir r
registration_is version dir (Add own) r is has =
    All-contains (IsOf version dir) (own ∷ []) r
    (All-cons (IsOf version dir) own [] is (All-nil (IsOf version dir))) has
registration_is version dir (Done deriver outputs) r is has =
    All-contains (IsOf version dir) outputs r is.4 has

-- a path that is reached by references is one of the folder, where the first is
reached_in_store : (version : Version) (dir : List ℕ) (entries : List Entry)
    → All (IsEntryIn version dir) entries
    → (from to : List ℕ) (steps : List (List ℕ)) → IsPathOf dir from
    → LeadsByReferences (registered entries) from to steps → IsPathOf dir to
reached_in_store version dir entries all from to [] is leads = subst (IsPathOf dir) leads.1 is
reached_in_store version dir entries all from to (next ∷ steps) is leads =
    let info = leads.0.0 in
    let part = part_with registered_by entries (record { path = from; info = info }) leads.0.1 in
    let own = registration_is version dir part.0 (record { path = from; info = info })
    (All-contains (IsEntryIn version dir) entries part.0 all part.1) part.2 in
    reached_in_store version dir entries all next to steps
    (All-contains (IsPathOf dir) info.references next own.references leads.0.2) leads.1

-- ---- what records of verdicts tell

-- a derivation stands free after the entries that a run opened with
abbrev IsFree : Run → (opening : List Entry) → ℕ → Type 0
IsFree run opening d = precondition_at (terms_of run) opening (slice_get run.graph.nodes d) ≡ Free

-- what the records of a verdict on such a derivation tell can be written in a version
abbrev AreTold : Run → Version → Type 0
AreTold run version = (opening : List Entry) (d : ℕ) (job : Job) (permitted : List (List ℕ))
    (answer : Answer) (infos : List PathInfo) → IsFree run opening d → IsJob run.graph d job
    → IsVerdict job permitted answer (Ok infos) → (info : PathInfo) → Contains infos info
    → IsKnownOf version info.digest info.nar

told_in_three : (run : Run) → AreTold run Three
told_in_three run opening d job permitted answer infos free is_job verdict info has =
    let (n, index) = get_from_contains infos info has in
    let (tree, at_tree, is) = verdict.1.each n info index in
    record_in_three job permitted tree info is

told_in_two : (dir : List ℕ) (gives : List ℕ → SourceAnswer → Type 0) (roots : List (List ℕ))
    (run : Run) → IsPlan dir gives roots run.graph → All IsStorePath roots
    → run.graph.profile ≡ Plain → AreTold run Two
told_in_two dir gives roots run plan are_paths plain opening d job permitted answer infos free
    is_job verdict info has =
    let flat = All-contains (λ (i : PathInfo). (i.nar ≡ None)
    × IfSome i.digest (λ (kept : MethodDigest). kept.method ≡ Flat)) infos info
    (records_are_flat dir gives roots run plan are_paths plain opening d job permitted answer infos
    free is_job verdict) has in
    record_in_two info flat.0 flat.1
    (told_in_three run opening d job permitted answer infos free is_job verdict info has)

-- ---- the entry of a Done

module _ (may : Job → Result Answer Reason → Type 0) (dir : List ℕ)
    (gives : List ℕ → SourceAnswer → Type 0) (roots : List (List ℕ)) (run : Run)
    (plan : IsPlan dir gives roots run.graph) (are_paths : All IsStorePath roots)
    (version : Version) (tells : AreTold run version) where
  -- what an output of a derivation may refer to is of the folder
  may_refer_in_store : (entries : List Entry) → All (IsEntryIn version dir) entries → (node : Node)
      → Contains run.graph.nodes node → (path : List ℕ)
      → MayRefer (registered entries) (seeds_of run.graph.nodes node.drv)
      (output_paths_of node.drv) path → IsPathOf dir path
  may_refer_in_store entries all node has path may =
      ⊎_elim
      (λ reached. reached_in_store version dir entries all reached.0 path reached.2.0
      (seed_in_store dir gives roots run.graph plan are_paths node has reached.0 reached.1)
      reached.2.1)
      (λ own. All-contains (IsPathOf dir) (output_paths_of node.drv) path
      (makes_in_store dir gives roots run.graph plan are_paths node has) own)
      may

  -- A record can be written, and its references are of the folder.
  record IsRecordIn (info : PathInfo) : Type 0 where
    known : IsKnownOf version info.digest info.nar
    references : All (IsPathOf dir) info.references
    rising : IsRising info.references

  -- so are the records of a verdict, one for each output
  record AreRecordsIn (node : Node) (infos : List PathInfo) : Type 0 where
    count : length infos ≡ length (output_paths_of node.drv)
    each : (info : PathInfo) → Contains infos info → IsRecordIn info

  records_in : (opening entries : List Entry) → All (IsEntryIn version dir) entries → (d : ℕ)
      (node : Node) (infos : List PathInfo) → slice_get run.graph.nodes d ≡ Some node
      → IsFree run opening d → IsVerdictAfter may run entries d (Ok infos)
      → AreRecordsIn node infos
  records_in opening entries all d node infos at free ending =
      by ending.ends_as.0 ending.ends_as.2
    where
      job : Job
      job = ending.job

      same : ending.is_job.node ≡ node
      same = same_element run.graph.nodes d ending.is_job.node node ending.is_job.is_node at

      seeds : job.seeds.items ≡ seeds_of run.graph.nodes node.drv
      seeds = ending.is_job.seeds ∙ ap (λ (n : Node). seeds_of run.graph.nodes n.drv) same

      outputs : outputs_of job ≡ output_paths_of node.drv
      outputs = ending.is_job.paths ∙ ap (λ (n : Node). output_paths_of n.drv) same

      in_store : (path : List ℕ)
          → MayRefer (registered entries) job.seeds.items (outputs_of job) path
          → IsPathOf dir path
      in_store path may = may_refer_in_store entries all node
          (Contains-from_get run.graph.nodes d node at) path
          (subst (λ (s : List (List ℕ)). MayRefer (registered entries) s
          (output_paths_of node.drv) path) seeds
          (subst (λ (o : List (List ℕ)). MayRefer (registered entries) job.seeds.items o path)
          outputs may))

      by : (outcome : Result Answer Reason)
          → IsOutcomeVerdict entries job outcome (Ok infos) → AreRecordsIn node infos
      by (Err reason) verdict = let clash : Ok infos ≡ Err reason = verdict.2 in cc
      by (Ok answer) (permitted, are, (verdict, passed)) = record {
        count = verdict.1.count
            ∙ sym (length-map job.outputs.items (λ (o : JobOutput). o.path))
            ∙ ap length outputs;
        each = λ info has.
            let (n, index) = get_from_contains infos info has in
            let (tree, at_tree, is) = verdict.1.each n info index in record {
              known = tells opening d job permitted answer infos free ending.is_job verdict info
                  has;
              references = All-from_contains (IsPathOf dir) info.references
                  (λ path refers. in_store path
                  ((are.each path).0 ((is.found.each path).0 refers).0));
              rising = is.found.rising;
            };
      }

  entry_in : (opening entries : List Entry) → All (IsEntryIn version dir) entries → (d : ℕ)
      (node : Node) (infos : List PathInfo) (entry : Entry)
      → slice_get run.graph.nodes d ≡ Some node → IsFree run opening d
      → IsVerdictAfter may run entries d (Ok infos) → IsEntryOf node infos entry
      → IsEntryIn version dir entry
  entry_in opening entries all d node infos entry at free ending is =
      subst (IsEntryIn version dir) (sym is.is_done) (
        stands_in_store dir gives roots run.graph plan are_paths node has,
        stands_named dir gives roots run.graph plan are_paths node has,
        some,
        is.rising,
        All-from_contains (IsOf version dir) is.outputs each,
      )
    where
      has : Contains run.graph.nodes node
      has = Contains-from_get run.graph.nodes d node at

      records : AreRecordsIn node infos
      records = records_in opening entries all d node infos at free ending

      each : (r : Registration) → Contains is.outputs r → IsOf version dir r
      each r there =
          let own = registered_output node infos entry is r there in
          let info = records.each r.info own.1 in record {
            path = All-contains (IsPathOf dir) (output_paths_of node.drv) r.path
                (makes_in_store dir gives roots run.graph plan are_paths node has) own.0;
            digest = info.known.0;
            nar = info.known.1;
            references = info.references;
            rising = info.rising;
          }

      some : is.outputs ≢ []
      some none = makes_some dir gives roots run.graph plan are_paths node has
          (no_outputs node.drv.outputs refl)
        where
          no_outputs : (outputs : List Output) → node.drv.outputs ≡ outputs
              → node.drv.outputs ≡ []
          no_outputs [] same = same
          no_outputs (o ∷ os) same =
              let path : Contains (output_paths_of node.drv) o.path = subst
              (λ (l : List Output). Contains (map (λ (x : Output). x.path) l) o.path) (sym same)
              (Contains-first o.path (map (λ (x : Output). x.path) os)) in
              let valid = output_registered node infos is.outputs entry is records.count o.path
              path in
              absurd (Contains-nothing o.path
              (subst (λ (rs : List Registration). Contains (paths_registered rs) o.path) none
              valid))

  -- ---- the entries of a history

  pub entries_in : (history : History) → IsTold (λ reason. reason ≡ OutOfMemory) may run history
      → All (IsEntryIn version dir) history.opening → All (IsEntryIn version dir) history.entries
  entries_in _ (told_opening entries journal) all = all
  entries_in _ (told_begin history d told legal can) all = entries_in history told all
  entries_in _ (told_done history d lease node infos entry told legal phase at came is_entry) all =
      let before = entries_in history told all in
      let free = begun_free (λ reason. reason ≡ OutOfMemory) may run history told d
      (λ idle. begun_not_idle (phase_of history.events d) lease phase idle) in
      All-append (IsEntryIn version dir) history.entries (entry ∷ []) before
      (All-cons (IsEntryIn version dir) entry []
      (entry_in history.opening history.entries before d node infos entry at free came is_entry)
      (All-nil (IsEntryIn version dir)))
  entries_in _ (told_fail history d lease reason told legal phase why) all =
      entries_in history told all

-- ---- the opening entries

text_in_three : (version : Version) (dir bytes : List ℕ) (entries : List Entry)
    → IsTextIn version dir entries bytes → All (IsEntryIn Three dir) entries
text_in_three One dir bytes entries is =
    (versions_have_the_same_entries One Three dir bytes entries tt is).0.of_dir
text_in_three Two dir bytes entries is =
    (versions_have_the_same_entries Two Three dir bytes entries tt is).0.of_dir
text_in_three Three dir bytes entries is = is.of_dir

-- the entries of a text can be written in version 3
opening_in_three : (dir bytes : List ℕ) (entries : List Entry) → IsJournalText dir entries bytes
    → All (IsEntryIn Three dir) entries
opening_in_three dir bytes entries (inl (version, is)) =
    text_in_three version dir bytes entries is
opening_in_three dir bytes entries (inr none) =
    subst (All (IsEntryIn Three dir)) (sym none.0) (All-nil (IsEntryIn Three dir))

-- and in the version in which they are written
opening_in_written : (dir bytes : List ℕ) (entries : List Entry) → IsJournalText dir entries bytes
    → All (IsEntryIn (written_version entries) dir) entries
opening_in_written dir bytes entries (inl (version, is)) =
    (written_texts_are_texts version dir bytes entries is).of_dir
opening_in_written dir bytes entries (inr none) =
    subst (λ (es : List Entry). All (IsEntryIn (written_version es) dir) es) (sym none.0)
    (All-nil (IsEntryIn Two dir))

-- ---- the laws

module _ {S : Type 0} (may : Job → Result Answer Reason → Type 0)
    (gives : S → List ℕ → SourceAnswer → Type 0) (source : S) (dir : List ℕ)
    (roots : List (List ℕ)) (run : Run) (history : History)
    (over : IsOverStore dir (gives source) roots run.graph history.opening)
    (legal : IsLegal run history) (answered : IsAnswered may run history) where
  all_in : (version : Version) → AreTold run version
      → All (IsEntryIn version dir) history.opening → All (IsEntryIn version dir) history.entries
  all_in version tells all =
      entries_in may dir (gives source) roots run over.is_plan over.are_paths version tells history
      (told_from may run history legal answered) all

  -- all entries can be written in version 3
  all_in_three : All (IsEntryIn Three dir) history.entries
  all_in_three =
      all_in Three (told_in_three run)
      (opening_in_three dir over.written.0 history.opening over.written.1)

  -- and under `plain` in the version in which the opening ones are written
  all_in_least : run.graph.profile ≡ Plain → (needed : Bool)
      → All (IsEntryIn (least_version needed) dir) history.opening
      → All (IsEntryIn (least_version needed) dir) history.entries
  all_in_least plain true all = all_in Three (told_in_three run) all
  all_in_least plain false all =
      all_in Two (told_in_two dir (gives source) roots run over.is_plan over.are_paths plain) all

  all_in_interim : (profile : Profile) → run.graph.profile ≡ profile
      → All (IsEntryIn (interim_version profile history.opening) dir) history.entries
  all_in_interim Nix is = all_in_three
  all_in_interim Plain is =
      all_in_least is (list_any entry_needs_three history.opening)
      (opening_in_written dir over.written.0 history.opening over.written.1)

  text_is_read : (version : Version) (bytes : List ℕ) → IsTextIn version dir history.entries bytes
      → AreReadAs dir bytes history.entries
  text_is_read version bytes is answer within reads =
      journal_texts_are_read dir bytes history.entries answer over.is_dir within
      (inl (version, is))
      (entries_are_journal run history
      (stands_named dir (gives source) roots run.graph over.is_plan over.are_paths) legal)
      reads

  written_is_read : AreReadAs dir (written_text history.entries) history.entries
  written_is_read =
      text_is_read (written_version history.entries) (written_text history.entries)
      (written_texts_are_texts Three dir (text Three history.entries) history.entries
      (record { of_dir = all_in_three; bytes_are = refl }))

  interim_is_read : (bytes : List ℕ)
      → bytes ≡ text (interim_version run.graph.profile history.opening) history.entries
      → AreReadAs dir bytes history.entries
  interim_is_read bytes is =
      text_is_read (interim_version run.graph.profile history.opening) bytes
      (record { of_dir = all_in_interim run.graph.profile refl; bytes_are = is })

module _ {S : Type 0} (may : Job → Result Answer Reason → Type 0)
    (gives : S → List ℕ → SourceAnswer → Type 0) where
  pub journals_of_runs_are_read : JournalsOfRunsAreRead may gives
  journals_of_runs_are_read source dir roots run history over legal answered =
      written_is_read may gives source dir roots run history over legal answered

  pub kept_texts_are_read : (was_shown : List Entry → Type 0)
      → KeptTextsAreRead may was_shown gives
  kept_texts_are_read was_shown source dir roots run opening shown bytes over kept =
      interim_is_read may gives source dir roots run kept.history
      (subst (IsOverStore dir (gives source) roots run.graph) (sym kept.opening_is) over)
      kept.legal kept.answered bytes
      (kept.text_is
      ∙ ap (λ (o : List Entry). text (interim_version run.graph.profile o) kept.history.entries)
      (sym kept.opening_is))

  pub left_journals_are_read : LeftJournalsAreRead may gives
  left_journals_are_read source dir roots plan system opening book over left =
      journals_of_runs_are_read source dir roots book.run book.history
      (subst (IsOverStore dir (gives source) roots book.run.graph) (sym left.over.opening_is)
      (subst (λ (g : Graph). IsOverStore dir (gives source) roots g opening)
      (sym left.over.plan_is) over))
      left.legal left.answered
