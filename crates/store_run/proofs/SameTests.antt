-- The verdict on an answer, with the tests of its outputs, is one for all jobs of a derivation.
use Rattle.std.proofs.Common.{◌≡◌, ◌∙◌, ◌<◌, ◌++◌, inl, inr, ℕ, List, length, map, Result, Ok, Err, Some, ap, subst, sym, rules}
use Rattle.std.specs.Prelude.{Contains, codes, slice_get, zip}
use Rattle.nix_names.specs.Firsts.{IsFirstWhere}
use Rattle.nix_names.proofs.Lists.{Contains-from_get, Contains-nothing, get_from_contains, get_mapped, get_source, same_element}
use Rattle.nix_drv.specs.Derivation.{Output}
use Rattle.nix_drv.specs.Parts.{entry_of}
use Rattle.drv_graph.specs.Nodes.{Node}
use Rattle.drv_graph.specs.PlanNodes.{output_paths_of}
use Rattle.drv_graph.specs.Plans.{Graph, LeadsBy}
use Rattle.drv_graph.specs.declared.profile.Profile.{Profile}
use Rattle.drv_graph.specs.declared.profile.Profile.TheVariants.{Plain}
use Rattle.drv_graph.proofs.KindAnswers.{one_kind}
use Rattle.valid_table.specs.PathInfos.{PathInfo}
use Rattle.valid_table.specs.declared.entry.Registration.{Registration}
use Rattle.build_outcome.specs.Checks.{ArePassed, AreSpecifiers, Forbids, IsFirstPath, IsFirstTestFault, IsClosurePast, IsRequisite, IsTestFault, IsTestedVerdict, IsUnmeasured, IsUsed, LeadsAmong, Lists, Of, OfAttributes, OfClosureSize, OfFixed, OfSize, Specifies, Test, nar_at, registration_of, size_of_all, tests_of, tests_under, with_outputs}
use Rattle.build_outcome.specs.Jobs.{IsJob}
use Rattle.build_outcome.specs.Verdicts.{IsVerdict, OutputRefersTo, outputs_of}
use Rattle.build_outcome.specs.declared.checks.check.Check.{Check}
use Rattle.build_outcome.specs.declared.checks.check.Check.TheVariants.{AllowedReferences, AllowedRequisites, DisallowedReferences, DisallowedRequisites}
use Rattle.build_outcome.specs.declared.job.Answer.{Answer}
use Rattle.build_outcome.specs.declared.job.Job.{Job}
use Rattle.build_outcome.specs.declared.job.JobOutput.{JobOutput}
use Rattle.build_outcome.specs.declared.reason.Reason.{Reason}
use Rattle.build_outcome.specs.declared.reason.Reason.TheVariants.{NotAllowed, BadAttributes, BadSpecifier, PastMaxClosureSize, PastMaxSize, UnknownNar}
use Rattle.build_outcome.proofs.TestedVerdicts.{has_one_tested_verdict}
use Rattle.store_run.proofs.SameChecks.{can_read_too, counted_too, limit_same, list_same, names_of}
use Rattle.store_run.proofs.SameVerdicts.{all_weaker, counts, first_same, verdict_too}

-- under `plain` nothing is tested
pub plain_tested : (registrations : List Registration) (job : Job) (permitted : List (List ℕ))
    (answer : Answer) (verdict : Result (List PathInfo) Reason) → job.profile ≡ Plain
    → IsVerdict job permitted answer verdict
    → IsTestedVerdict registrations job permitted answer verdict
plain_tested registrations job permitted answer (Ok infos) plain is = (
  is,
  λ test why has fault. Contains-nothing test
      (subst (λ (p : Profile). Contains (tests_under p (length job.outputs.items)) test) plain has),
)
plain_tested registrations job permitted answer (Err reason) plain is = inl is

-- ---- from one job to another

-- a list names the same for two jobs whose outputs have the same names and paths
module _ (job again : Job) (outputs : outputs_of job ≡ outputs_of again)
    (names : names_of job ≡ names_of again) where
  its_output : (output : JobOutput) → Contains job.outputs.items output
      → (other : JobOutput) × Contains again.outputs.items other
      × (other.name.items ≡ output.name.items) × (other.path ≡ output.path)
  its_output output has =
      let (n, at) = get_from_contains job.outputs.items output has in
      let path_at : slice_get (outputs_of again) n ≡ Some output.path =
      subst (λ (paths : List (List ℕ)). slice_get paths n ≡ Some output.path) outputs
      (get_mapped (λ (o : JobOutput). o.path) job.outputs.items n output at) in
      let name_at : slice_get (names_of again) n ≡ Some output.name.items =
      subst (λ (all : List (List ℕ)). slice_get all n ≡ Some output.name.items) names
      (get_mapped (λ (o : JobOutput). o.name.items) job.outputs.items n output at) in
      let other = get_source (λ (o : JobOutput). o.path) again.outputs.items n output.path path_at
      in (
        other.0,
        Contains-from_get again.outputs.items n other.0 other.1,
        same_element (names_of again) n other.0.name.items output.name.items
            (get_mapped (λ (o : JobOutput). o.name.items) again.outputs.items n other.0 other.1)
            name_at,
        other.2,
      )

  specifies_too : (own specifier path : List ℕ) → Specifies job own specifier path
      → Specifies again own specifier path
  specifies_too own specifier path (inl is) = inl is
  specifies_too own specifier path (inr (none, (output, has, named, at))) =
      let other = its_output output has in
      inr (none, (other.0, other.1, other.2 ∙ named, other.3 ∙ at))

  lists_too : (own : List ℕ) (list : List (List ℕ)) (path : List ℕ) → Lists job own list path
      → Lists again own list path
  lists_too own list path (specifier, has, is) =
      (specifier, has, specifies_too own specifier path is)

  specifiers_too : (own : List ℕ) (list : List (List ℕ)) → AreSpecifiers job own list
      → AreSpecifiers again own list
  specifiers_too own list are =
      all_weaker (λ s. (path : List ℕ) × Specifies job own s path)
      (λ s. (path : List ℕ) × Specifies again own s path)
      (λ s is. (is.0, specifies_too own s is.0 is.1)) list are

-- an output leads to the same by two jobs with the same outputs
module _ (registrations : List Registration) (job again : Job)
    (outputs : outputs_of job ≡ outputs_of again) (infos : List PathInfo) where
  leads_too : (from to : List ℕ) → LeadsAmong job infos from to → LeadsAmong again infos from to
  leads_too from to (steps, leads) = (
    steps,
    subst (λ (paths : List (List ℕ)). LeadsBy (OutputRefersTo paths infos) from to steps) outputs
        leads,
  )

  requisite_too : (own path : List ℕ) → IsRequisite registrations job infos own path
      → IsRequisite registrations again infos own path
  requisite_too own path (inl (is, leads)) = inl (
    subst (λ (paths : List (List ℕ)). Contains paths path) outputs is,
    leads_too own path leads,
  )
  requisite_too own path (inr (outside, (n, last, leads, at, refers, foreign), reaches)) = inr (
    outside,
    (
      n,
      last,
      leads_too own last leads,
      subst (λ (paths : List (List ℕ)). slice_get paths n ≡ Some last) outputs at,
      refers,
      λ inner. foreign
          (subst (λ (paths : List (List ℕ)). Contains paths outside) (sym outputs) inner),
    ),
    reaches,
  )

  -- and each path has the same archive
  nar_too : (path : List ℕ) → nar_at (with_outputs registrations job infos) path
      ≡ nar_at (with_outputs registrations again infos) path
  nar_too path = ap (λ (paths : List (List ℕ)).
      nar_at (map registration_of (zip paths infos) ++ registrations) path) outputs

  unmeasured_too : (own path : List ℕ) → IsUnmeasured registrations job infos own path
      → IsUnmeasured registrations again infos own path
  unmeasured_too own path is = (requisite_too own path is.0, sym (nar_too path) ∙ is.1)

module _ (registrations : List Registration) (job again : Job)
    (outputs : outputs_of job ≡ outputs_of again) (infos : List PathInfo) where
  past_too : (own : List ℕ) (limit : ℕ) → IsClosurePast registrations job infos own limit
      → IsClosurePast registrations again infos own limit
  past_too own limit (all, are, none, past) = (
    all,
    record {
      rising = are.rising;
      each = λ path. (
        λ has. requisite_too registrations job again outputs infos own path ((are.each path).0 has),
        λ is. (are.each path).1
            (requisite_too registrations again job (sym outputs) infos own path is),
      );
    },
    λ path is. none path
        (unmeasured_too registrations again job (sym outputs) infos own path is),
    subst (λ (paths : List (List ℕ)).
        limit < size_of_all (map registration_of (zip paths infos) ++ registrations) all) outputs
        past,
  )

-- the first for which something holds is the first for which the same holds
first_where_same : {X : Type 0} (P Q : X → Type 0) → ((x : X) → P x → Q x)
    → ((x : X) → Q x → P x) → (xs : List X) (x : X) → IsFirstWhere P xs x → IsFirstWhere Q xs x
first_where_same P Q there back xs x first = record {
  before = first.before;
  after = first.after;
  parts = first.parts;
  others = all_weaker (λ y. P y → ⊥) (λ y. Q y → ⊥) (λ y none holds. none (back y holds))
      first.before first.others;
  is = there x first.is;
}

first_path_same : (permitted : List (List ℕ)) (P Q : List ℕ → Type 0)
    → ((path : List ℕ) → P path → Q path) → ((path : List ℕ) → Q path → P path) → (index : ℕ)
    → IsFirstPath permitted P index → IsFirstPath permitted Q index
first_path_same permitted P Q there back index first =
    first_same (λ n. (path : List ℕ) × (slice_get permitted n ≡ Some path) × P path)
    (λ n. (path : List ℕ) × (slice_get permitted n ≡ Some path) × Q path)
    (λ n is. (is.0, is.1, there is.0 is.2)) (λ n is. (is.0, is.1, back is.0 is.2))
    (length permitted) index first

-- a test has the same fault by two jobs that are alike
module _ (registrations : List Registration) (job again : Job)
    (outputs : outputs_of job ≡ outputs_of again) (names : names_of job ≡ names_of again)
    (profiles : job.profile ≡ again.profile)
    (envs : map entry_of job.env.items ≡ map entry_of again.env.items) where
  uses_too : (infos : List PathInfo) (check : Check) (n : ℕ) (own path : List ℕ)
      → IsUsed registrations job infos check n own path
      → IsUsed registrations again infos check n own path
  uses_too infos AllowedReferences n own path is = is
  uses_too infos DisallowedReferences n own path is = is
  uses_too infos AllowedRequisites n own path is = (
    requisite_too registrations job again outputs infos own path is.0,
    counted_too job again names profiles envs own path is.1,
  )
  uses_too infos DisallowedRequisites n own path is = (
    requisite_too registrations job again outputs infos own path is.0,
    counted_too job again names profiles envs own path is.1,
  )

  forbids_too : (own : List ℕ) (check : Check) (list : List (List ℕ)) (path : List ℕ)
      → Forbids job own check list path → Forbids again own check list path
  forbids_too own AllowedReferences list path none =
      λ listed. none (lists_too again job (sym outputs) (sym names) own list path listed)
  forbids_too own AllowedRequisites list path none =
      λ listed. none (lists_too again job (sym outputs) (sym names) own list path listed)
  forbids_too own DisallowedReferences list path listed =
      lists_too job again outputs names own list path listed
  forbids_too own DisallowedRequisites list path listed =
      lists_too job again outputs names own list path listed

  -- what a check with a list finds of a path
  abbrev IsBad : Job → List PathInfo → (n : ℕ) → Check → (own : List ℕ) → (list : List (List ℕ))
      → List ℕ → Type 0
  IsBad for infos n check own list path = IsUsed registrations for infos check n own path
      × Forbids for own check list path

  bad_too : (infos : List PathInfo) (n : ℕ) (check : Check) (own : List ℕ)
      (list : List (List ℕ)) (path : List ℕ) → IsBad job infos n check own list path
      → IsBad again infos n check own list path
  bad_too infos n check own list path is = (
    uses_too infos check n own path is.0,
    forbids_too own check list path is.1,
  )

module _ (registrations : List Registration) (job again : Job)
    (outputs : outputs_of job ≡ outputs_of again) (names : names_of job ≡ names_of again)
    (kinds : job.kind ≡ again.kind) (profiles : job.profile ≡ again.profile)
    (envs : map entry_of job.env.items ≡ map entry_of again.env.items)
    (permitted : List (List ℕ)) (infos : List PathInfo) where
  test_fault_too : (test : Test) (why : Reason)
      → IsTestFault registrations job permitted infos test why
      → IsTestFault registrations again permitted infos test why
  test_fault_too OfAttributes BadAttributes unread = λ can. unread
      (can_read_too again job (sym names) (sym profiles) (sym envs) can)
  test_fault_too (OfFixed n) (NotAllowed output index) (is, (method, digest, fixed), first) =
      (is, (method, digest, sym kinds ∙ fixed), first)
  test_fault_too (OfSize n) (PastMaxSize output) (is, (limit, limited, past)) = (
    is,
    (limit, sym (limit_same job again names profiles envs n (codes "maxSize")) ∙ limited, past),
  )
  test_fault_too (OfClosureSize n) (PastMaxClosureSize output) (is, (own, limit, at, limited, past))
      = (
        is,
        (
          own,
          limit,
          subst (λ (paths : List (List ℕ)). slice_get paths n ≡ Some own) outputs at,
          sym (limit_same job again names profiles envs n (codes "maxClosureSize")) ∙ limited,
          past_too registrations job again outputs infos own limit past,
        ),
      )
  test_fault_too (OfClosureSize n) (UnknownNar index) (own, limit, at, limited, first) = (
    own,
    limit,
    subst (λ (paths : List (List ℕ)). slice_get paths n ≡ Some own) outputs at,
    sym (limit_same job again names profiles envs n (codes "maxClosureSize")) ∙ limited,
    first_path_same permitted (IsUnmeasured registrations job infos own)
        (IsUnmeasured registrations again infos own)
        (unmeasured_too registrations job again outputs infos own)
        (unmeasured_too registrations again job (sym outputs) infos own) index first,
  )
  test_fault_too (Of n check) (BadSpecifier output) (is, (own, list, at, listed, bad)) = (
    is,
    (
      own,
      list,
      subst (λ (paths : List (List ℕ)). slice_get paths n ≡ Some own) outputs at,
      sym (list_same job again names profiles envs n check) ∙ listed,
      λ are. bad (specifiers_too again job (sym outputs) (sym names) own list are),
    ),
  )
  test_fault_too (Of n check) (NotAllowed output index) (is, (own, list, at, listed, are, first)) = (
    is,
    (
      own,
      list,
      subst (λ (paths : List (List ℕ)). slice_get paths n ≡ Some own) outputs at,
      sym (list_same job again names profiles envs n check) ∙ listed,
      specifiers_too job again outputs names own list are,
      first_path_same permitted
          (λ path. IsUsed registrations job infos check n own path
          × Forbids job own check list path)
          (λ path. IsUsed registrations again infos check n own path
          × Forbids again own check list path)
          (bad_too registrations job again outputs names profiles envs infos n check own list)
          (bad_too registrations again job (sym outputs) (sym names) (sym profiles) (sym envs)
          infos n check own list) index first,
    ),
  )
  test_fault_too test why fault = absurd fault

-- ---- verdicts

module _ (registrations : List Registration) (job again : Job)
    (outputs : outputs_of job ≡ outputs_of again) (names : names_of job ≡ names_of again)
    (kinds : job.kind ≡ again.kind) (profiles : job.profile ≡ again.profile)
    (envs : map entry_of job.env.items ≡ map entry_of again.env.items)
    (permitted : List (List ℕ)) where
  tests_same : (answer : Answer) → tests_of job ≡ tests_of again
  tests_same answer =
      ap (λ (p : Profile). tests_under p (length job.outputs.items)) profiles
      ∙ ap (tests_under again.profile) (counts job again outputs kinds profiles answer)

  there : (infos : List PathInfo) (test : Test) (why : Reason)
      → IsTestFault registrations job permitted infos test why
      → IsTestFault registrations again permitted infos test why
  there infos = test_fault_too registrations job again outputs names kinds profiles envs permitted infos

  back : (infos : List PathInfo) (test : Test) (why : Reason)
      → IsTestFault registrations again permitted infos test why
      → IsTestFault registrations job permitted infos test why
  back infos = test_fault_too registrations again job (sym outputs) (sym names) (sym kinds)
      (sym profiles) (sym envs) permitted infos

  first_fault_too : (answer : Answer) (infos : List PathInfo) (reason : Reason)
      → IsFirstTestFault registrations job permitted infos reason
      → IsFirstTestFault registrations again permitted infos reason
  first_fault_too answer infos reason (test, first, fault) = (
    test,
    subst (λ (tests : List Test). IsFirstWhere (λ t. (why : Reason)
        × IsTestFault registrations again permitted infos t why) tests test)
        (tests_same answer)
        (first_where_same
        (λ t. (why : Reason) × IsTestFault registrations job permitted infos t why)
        (λ t. (why : Reason) × IsTestFault registrations again permitted infos t why)
        (λ t is. (is.0, there infos t is.0 is.1)) (λ t is. (is.0, back infos t is.0 is.1))
        (tests_of job) test first),
    there infos test reason fault,
  )

  tested_too : (answer : Answer) (verdict : Result (List PathInfo) Reason)
      → IsTestedVerdict registrations job permitted answer verdict
      → IsTestedVerdict registrations again permitted answer verdict
  tested_too answer (Ok infos) (is, passed) = (
    verdict_too job again outputs kinds profiles answer permitted (Ok infos) is,
    λ test why has fault. passed test why
        (subst (λ (tests : List Test). Contains tests test) (sym (tests_same answer)) has)
        (back infos test why fault),
  )
  tested_too answer (Err reason) (inl is) =
      inl (verdict_too job again outputs kinds profiles answer permitted (Err reason) is)
  tested_too answer (Err reason) (inr (infos, is, first)) = inr (
    infos,
    verdict_too job again outputs kinds profiles answer permitted (Ok infos) is,
    first_fault_too answer infos reason first,
  )

-- two jobs of a derivation have the same outputs and environment, and are of one kind and under one
-- profile, so an answer has one verdict for both
module _ (graph : Graph) (d : ℕ) (job again : Job) (is : IsJob graph d job)
    (is' : IsJob graph d again) where
  same_node : is.node ≡ is'.node
  same_node = search (rules, same_element)

  same_outputs : outputs_of job ≡ outputs_of again
  same_outputs = is.paths ∙ ap (λ (node : Node). output_paths_of node.drv) same_node
      ∙ sym is'.paths

  same_names : names_of job ≡ names_of again
  same_names = is.names
      ∙ ap (λ (node : Node). map (λ (o : Output). o.name) node.drv.outputs) same_node
      ∙ sym is'.names

  same_env : map entry_of job.env.items ≡ map entry_of again.env.items
  same_env = is.env ∙ ap (λ (node : Node). node.drv.env) same_node ∙ sym is'.env

  same_kind : job.kind ≡ again.kind
  same_kind = search (rules, one_kind, same_node)

  same_profile : job.profile ≡ again.profile
  same_profile = is.profile ∙ sym is'.profile

  pub one_for_both : (registrations : List Registration) (permitted : List (List ℕ))
      (answer : Answer) (a b : Result (List PathInfo) Reason)
      → IsTestedVerdict registrations job permitted answer a
      → IsTestedVerdict registrations again permitted answer b → a ≡ b
  one_for_both registrations permitted answer a b of of' =
      has_one_tested_verdict registrations again permitted answer a b
      (tested_too registrations job again same_outputs same_names same_kind same_profile same_env
      permitted answer a of) of'
