-- How the jobs of the diamond end.
use Rattle.std.proofs.Common.{◌≡◌, inl, inr, ◌<◌, ◌^◌, ℕ, true, false, List, [], ◌∷◌, length, map, Some, Ok, Err, refl, sym, ap, subst, ⊎_elim, arith, rules}
use Rattle.std.specs.Prelude.{All, Contains, codes, pos, slice_get}
use Rattle.std.proofs.lemmas.List.{length-map}
use Rattle.std.proofs.lemmas.List.Elements.{All-contains}
use Rattle.nix_names.specs.Rising.{IsRising}
use Rattle.nix_names.specs.StorePaths.{hash_part_of}
use Rattle.nix_names.proofs.Lists.{Contains-cons_cases, Contains-first, Contains-from_map, Contains-later, Contains-map, Contains-nothing, same_element}
use Rattle.nix_drv.specs.Derivation.{Input}
use Rattle.drv_graph.specs.Kinds.{HasKind}
use Rattle.drv_graph.specs.Nodes.{Node}
use Rattle.drv_graph.specs.PlanNodes.{output_paths_of}
use Rattle.drv_graph.proofs.KindAnswers.{one_kind}
use Rattle.ref_scan.specs.Scan.{IsFound, IsFoundIn}
use Rattle.ref_scan.specs.declared.tree.Tree.{Tree}
use Rattle.valid_table.specs.Closure.{LeadsByReferences}
use Rattle.valid_table.specs.Entries.{registered}
use Rattle.valid_table.specs.PathInfos.{PathInfo}
use Rattle.valid_table.specs.Valid.{IsValid}
use Rattle.valid_table.specs.declared.entry.Entry.{Entry}
use Rattle.valid_table.specs.declared.entry.Registration.{Registration}
use Rattle.sched_core.specs.Books.{ArePermittedPaths}
use Rattle.build_outcome.specs.Jobs.{IsJob, seeds_of}
use Rattle.build_outcome.specs.Verdicts.{IsVerdict, outputs_of}
use Rattle.build_outcome.specs.declared.job.Answer.{Answer}
use Rattle.build_outcome.specs.declared.job.Job.{Job}
use Rattle.build_outcome.specs.declared.reason.Reason.TheVariants.{ExitStatus}
use Rattle.run_states.specs.Legal.{ArePermitted, MayRefer}
use Rattle.store_run.specs.Builders.{IsVerdictAfter}
use Rattle.store_run.specs.DiamondExample.{base, base_out, diamond, drv_of, file_of, left, left_out, may_make, right, right_out, top, top_out}
use Rattle.store_run.specs.TwinExample.{IsEmptyFile, LeavesWith}
use Rattle.store_run.proofs.AlonePlans.{all_one, all_two, one_of}
use Rattle.store_run.proofs.DiamondPlan.{kind_of, recipe_of}
use Rattle.store_run.proofs.ExampleJobs.{is_job_of, job_of, left_answer, left_leaves, left_verdict}
use Rattle.store_run.proofs.OneOutcome.{job_outputs, job_seeds}
use Rattle.store_run.proofs.SameTests.{plain_tested}
use Rattle.store_run.proofs.TwinJobs.{file_in, file_verdict, none_occurs, script_args, second_answer, second_leaves}
use Rattle.store_run.proofs.TwinPlans.{all_three, empty_kind}

-- ---- what is permitted where nothing refers to anything

abbrev file_on : List ℕ → Registration
file_on out = record { path = out; info = file_in }

no_leads : (outs : List (List ℕ)) (from to : List ℕ) (steps : List (List ℕ))
    → LeadsByReferences (map file_on outs) from to steps → from ≡ to
no_leads outs from to [] leads = leads.1
no_leads outs from to (next ∷ steps) leads =
    let found = Contains-from_map file_on outs
    (record { path = from; info = leads.0.0 }) leads.0.1 in
    let info_is : file_in ≡ leads.0.0 = ap (λ (r : Registration). r.info) found.2 in
    absurd (Contains-nothing next
    (subst (λ (i : PathInfo). Contains i.references next) (sym info_is) leads.0.2))

is_valid_out : (outs : List (List ℕ)) (path : List ℕ) → Contains outs path
    → IsValid (map file_on outs) path
is_valid_out outs path has =
    Contains-map (λ (r : Registration). r.path) (map file_on outs) (file_on path)
    (Contains-map file_on outs path has)

permitted_of : (outs seeds permitted : List (List ℕ)) (own : List ℕ) → IsRising permitted
    → ((path : List ℕ) → Contains seeds path → Contains outs path)
    → ((path : List ℕ) → Contains permitted path → Contains (own ∷ seeds) path)
    → ((path : List ℕ) → Contains (own ∷ seeds) path → Contains permitted path)
    → ArePermitted (map file_on outs) seeds (own ∷ []) permitted
permitted_of outs seeds permitted own rises valid there back = record {
  rising = rises;
  each = λ path. (forward path, backward path);
}
  where
    forward : (path : List ℕ) → Contains permitted path
        → MayRefer (map file_on outs) seeds (own ∷ []) path
    forward path has =
        ⊎_elim
        (λ is. inr (subst (Contains (own ∷ [])) is (Contains-first own [])))
        (λ seed. inl (path, seed, ([], (is_valid_out outs path (valid path seed), refl))))
        (Contains-cons_cases own seeds path (there path has))

    backward : (path : List ℕ) → MayRefer (map file_on outs) seeds (own ∷ []) path
        → Contains permitted path
    backward path may =
        ⊎_elim
        (λ reached. back path (Contains-later own seeds path
        (subst (Contains seeds) (no_leads outs reached.0 path reached.2.0 reached.2.1)
        reached.1)))
        (λ is_own. back path
        (subst (Contains (own ∷ seeds)) (one_of own path is_own) (Contains-first own seeds)))
        may

swapped : (a b path : List ℕ) (xs : List (List ℕ)) → Contains (a ∷ b ∷ xs) path
    → Contains (b ∷ a ∷ xs) path
swapped a b path xs has =
    ⊎_elim
    (λ is. subst (Contains (b ∷ a ∷ xs)) is (Contains-later b (a ∷ xs) a (Contains-first a xs)))
    (λ rest. ⊎_elim
    (λ is. subst (Contains (b ∷ a ∷ xs)) is (Contains-first b (a ∷ xs)))
    (λ last. Contains-later b (a ∷ xs) path (Contains-later a xs path last))
    (Contains-cons_cases b xs path rest))
    (Contains-cons_cases a (b ∷ xs) path has)

permitted_for : (entries : List Entry) (d : ℕ) (job : Job) (node : Node)
    (permitted : List (List ℕ)) → IsJob diamond.graph d job
    → slice_get diamond.graph.nodes d ≡ Some node
    → ArePermitted (registered entries) (seeds_of diamond.graph.nodes node.drv)
    (output_paths_of node.drv) permitted
    → ArePermittedPaths entries job permitted
permitted_for entries d job node permitted is at are =
    subst (λ (seeds : List (List ℕ)). ArePermitted (registered entries) seeds (outputs_of job)
    permitted) (sym (job_seeds diamond.graph d job node is at))
    (subst (λ (outputs : List (List ℕ)). ArePermitted (registered entries)
    (seeds_of diamond.graph.nodes node.drv) outputs permitted)
    (sym (job_outputs diamond.graph d job node is at)) are)

-- ---- verdicts

abbrev HasLongPart : List ℕ → Type 0
HasLongPart path = length (hash_part_of path) ≡ 32

found_in : (permitted : List (List ℕ)) → All HasLongPart permitted → (tree : Tree)
    → IsEmptyFile tree → IsFound tree permitted []
found_in permitted long tree is =
    subst (λ (lists : List (List ℕ)). IsFoundIn lists permitted []) (sym is.1) (record {
      rising = tt;
      each = λ path. (
        λ none. absurd (Contains-nothing path none),
        λ some. absurd
            (none_occurs (hash_part_of path) (All-contains HasLongPart permitted path long some.0)
            some.1),
      );
    })

module _ (d : ℕ) (name out : List ℕ) (inputs : List Input) (path : List ℕ)
    (at : slice_get diamond.graph.nodes d
    ≡ Some (record { path = path; drv = drv_of name out inputs }))
    (job : Job) (is_job : IsJob diamond.graph d job) where
  abbrev node : Node
  node = record { path = path; drv = drv_of name out inputs }

  node_is : is_job.node ≡ node
  node_is = search (rules, same_element)

  one_output : length job.outputs.items ≡ 1
  one_output = search (rules, length-map, node_is)

  kind_is : job.kind ≡ empty_kind
  kind_is = one_kind node.drv _ _
      (subst (λ (n : Node). HasKind n.drv job.kind) node_is is_job.kind)
      (kind_of name out inputs)

  makes : (permitted : List (List ℕ)) → All HasLongPart permitted → (answer : Answer)
      → LeavesWith true false answer → IsVerdict job permitted answer (Ok (file_in ∷ []))
  makes permitted long answer ending =
      file_verdict job is_job.profile kind_is one_output permitted (found_in permitted long) answer
      ending

-- ---- jobs

module _ (name out : List ℕ) (short : length name < 256) (out_few : length out < 1000)
    (seeds : List (List ℕ)) (few : length seeds < 2 ^ 63) (d : ℕ) where
  job_for : Job
  job_for = job_of (recipe_of name) short (omega arith) script_args (omega arith) out out_few
      empty_kind d seeds few

  is_job_for : (inputs : List Input) (path : List ℕ)
      → slice_get diamond.graph.nodes d
      ≡ Some (record { path = path; drv = drv_of name out inputs })
      → seeds ≡ seeds_of diamond.graph.nodes (drv_of name out inputs)
      → IsJob diamond.graph d job_for
  unfolding job_for
  is_job_for inputs path at are =
      is_job_of (recipe_of name) short (omega arith) script_args (omega arith) out out_few
      empty_kind d seeds few diamond.graph (record { path = path; drv = drv_of name out inputs })
      refl at
      refl refl refl refl refl (kind_of name out inputs) are

  comes : (entries : List Entry) (inputs : List Input) (path : List ℕ)
      → slice_get diamond.graph.nodes d
      ≡ Some (record { path = path; drv = drv_of name out inputs })
      → seeds ≡ seeds_of diamond.graph.nodes (drv_of name out inputs)
      → (permitted : List (List ℕ)) → All HasLongPart permitted
      → ArePermitted (registered entries) (seeds_of diamond.graph.nodes (drv_of name out inputs))
      (out ∷ []) permitted
      → IsVerdictAfter may_make diamond entries d (Ok (file_in ∷ []))
  comes entries inputs path at are permitted long permits =
      let is_job = is_job_for inputs path at are in
      record {
        job = job_for;
        is_job = is_job;
        ends_as = (
          Ok second_answer,
          inr second_leaves,
          (
            permitted,
            permitted_for entries d job_for _ permitted is_job at permits,
            plain_tested (registered entries) job_for permitted second_answer
                (Ok (file_in ∷ [])) is_job.profile
                (makes d name out inputs path at job_for is_job permitted long second_answer
                second_leaves),
          ),
        );
      }

pub base_comes : IsVerdictAfter may_make diamond [] 0 (Ok (file_in ∷ []))
base_comes =
    comes (codes "base") base_out (omega arith) (omega arith) [] (omega arith) 0 [] [] base.path
    refl refl (base_out ∷ []) (all_one HasLongPart base_out refl)
    (permitted_of [] [] (base_out ∷ []) base_out tt (λ path has. has) (λ path has. has)
    (λ path has. has))

abbrev two_left : List (List ℕ)
two_left = left_out ∷ base_out ∷ []

pub left_comes : IsVerdictAfter may_make diamond (file_of base base_out ∷ []) 1 (Ok (file_in ∷ []))
left_comes =
    comes (codes "left") left_out (omega arith) (omega arith) (base_out ∷ []) (omega arith) 1
    (file_of base base_out ∷ []) left.drv.inputs left.path refl refl two_left
    (all_two HasLongPart left_out base_out refl refl)
    (permitted_of (base_out ∷ []) (base_out ∷ []) two_left left_out (refl, tt) (λ path has. has)
    (λ path has. has) (λ path has. has))

-- the entries that the first run leaves
abbrev pub left_behind : List Entry
left_behind = file_of base base_out ∷ file_of left left_out ∷ []

pub right_comes : IsVerdictAfter may_make diamond left_behind 2 (Ok (file_in ∷ []))
right_comes =
    comes (codes "right") right_out (omega arith) (omega arith) (base_out ∷ []) (omega arith) 2
    left_behind right.drv.inputs right.path refl refl (base_out ∷ right_out ∷ [])
    (all_two HasLongPart base_out right_out refl refl)
    (permitted_of (base_out ∷ left_out ∷ []) (base_out ∷ []) (base_out ∷ right_out ∷ []) right_out
    (refl, tt)
    (λ path has. subst (Contains (base_out ∷ left_out ∷ [])) (one_of base_out path has)
    (Contains-first base_out (left_out ∷ [])))
    (λ path has. swapped base_out right_out path [] has)
    (λ path has. swapped right_out base_out path [] has))

abbrev pub three_after : List Entry
three_after = file_of base base_out ∷ file_of left left_out ∷ file_of right right_out ∷ []

pub top_comes : IsVerdictAfter may_make diamond three_after 3 (Ok (file_in ∷ []))
top_comes =
    comes (codes "top") top_out (omega arith) (omega arith) (left_out ∷ right_out ∷ [])
    (omega arith) 3 three_after top.drv.inputs top.path refl refl
    (left_out ∷ top_out ∷ right_out ∷ [])
    (all_three HasLongPart left_out top_out right_out refl refl refl)
    (permitted_of (base_out ∷ left_out ∷ right_out ∷ []) (left_out ∷ right_out ∷ [])
    (left_out ∷ top_out ∷ right_out ∷ []) top_out (refl, (refl, tt))
    (λ path has. Contains-later base_out (left_out ∷ right_out ∷ []) path has)
    (λ path has. swapped left_out top_out path (right_out ∷ []) has)
    (λ path has. swapped top_out left_out path (right_out ∷ []) has))

-- right fails the first time
right_fails : (entries : List Entry) (permitted : List (List ℕ))
    → ArePermitted (registered entries) (base_out ∷ []) (right_out ∷ []) permitted
    → IsVerdictAfter may_make diamond entries 2 (Err (ExitStatus (pos 1)))
right_fails entries permitted permits =
    let job = job_for (codes "right") right_out (omega arith) (omega arith) (base_out ∷ [])
    (omega arith) 2 in
    let is_job = is_job_for (codes "right") right_out (omega arith) (omega arith) (base_out ∷ [])
    (omega arith) 2 right.drv.inputs right.path refl refl in
    record {
      job = job;
      is_job = is_job;
      ends_as = (
        Ok left_answer,
        inl left_leaves,
        (
          permitted,
          permitted_for entries 2 job right permitted is_job refl permits,
          inl (left_verdict job permitted left_answer left_leaves),
        ),
      );
    }

pub right_fails_there : IsVerdictAfter may_make diamond (file_of base base_out ∷ []) 2
    (Err (ExitStatus (pos 1)))
right_fails_there = right_fails (file_of base base_out ∷ []) (base_out ∷ right_out ∷ [])
    (permitted_of (base_out ∷ []) (base_out ∷ []) (base_out ∷ right_out ∷ []) right_out (refl, tt)
    (λ path has. has)
    (λ path has. swapped base_out right_out path [] has)
    (λ path has. swapped right_out base_out path [] has))
