-- A job, and parts of jobs, compared.
use Rattle.std.proofs.Common.{◌≡◌, ◌∙◌, ◌↔◌, ◌+◌, ◌<◌, ℕ, Bool, true, List, [], ◌∷◌, ◌++◌, length, map, take, get_or, Option, Some, None, IsTrue, IfSome, refl, sym, ap, subst, rules}
use Rattle.std.specs.Prelude.{slice_get}
use Rattle.std.specs.Option.{option_map}
use Rattle.std.proofs.lemmas.List.{length-map, map-append, map-id, take_more}
use Rattle.std.proofs.lemmas.Option.{slice_get-map, slice_get_read}
use Rattle.std.proofs.lemmas.Simd.{map-map}
use Rattle.nix_drv.specs.Derivation.{Drv, Output}
use Rattle.nix_drv.specs.Parts.{output_of}
use Rattle.nix_drv.specs.declared.derivation.Output.{Output as OutputStruct}
use Rattle.drv_graph.specs.Kinds.{HasKind}
use Rattle.drv_graph.specs.Nodes.{Node}
use Rattle.drv_graph.specs.PlanNodes.{drvs_of, output_paths_of}
use Rattle.drv_graph.specs.Plans.{Graph}
use Rattle.drv_graph.specs.declared.kinds.Kind.{Kind}
use Rattle.drv_graph.proofs.KindAnswers.{one_kind}
use Rattle.build_outcome.specs.Jobs.{IsJob, seeds_of, shown_whole, whole_inputs_of}
use Rattle.sched_core.specs.private.SameJobs.{HasRecipe, MakesAt}
use Rattle.build_outcome.specs.declared.job.Job.{Job}
use Rattle.build_outcome.specs.declared.job.JobOutput.{JobOutput}
use Rattle.run_report.proofs.PlanDrvs.{drv_is}
use Rattle.nix_names.proofs.Lists.{element_at, same_element}

-- ---- lists, element by element

-- lists that are the same by two maps are so at each index
pub same_there : {X Y V : Type 0} (f : X → V) (g : Y → V) (xs : List X) (ys : List Y) (n : ℕ)
    (x : X) (y : Y) → n < length xs → n < length ys
    → x ≡ get_or xs n x → y ≡ get_or ys n y → map f xs ≡ map g ys → f x ≡ g y
same_there f g xs ys n x y low low' is is' same =
    let left = slice_get-map f xs n ∙ ap (option_map f)
    (slice_get_read _ _ n x refl low is) in
    let right = slice_get-map g ys n ∙ ap (option_map g)
    (slice_get_read _ _ n y refl low' is') in
    let both : Some (f x) ≡ Some (g y) = sym left ∙ ap (λ l. slice_get l n) same ∙ right in
    cc

-- one index more
pub same_more : {X Y V : Type 0} (f : X → V) (g : Y → V) (xs : List X) (ys : List Y) (n : ℕ) (x : X)
    (y : Y) → n < length xs → n < length ys
    → x ≡ get_or xs n x → y ≡ get_or ys n y → f x ≡ g y → map f (take n xs) ≡ map g (take n ys)
    → map f (take (n + 1) xs) ≡ map g (take (n + 1) ys)
same_more f g xs ys n x y low low' is is' here before =
    ap (map f) (take_more _ n x low ∙ ap (λ z. take n xs ++ z ∷ []) (sym is))
    ∙ map-append f (take n xs) (x ∷ [])
    ∙ rw (before, here) refl
    ∙ sym (ap (map g) (take_more _ n y low' ∙ ap (λ z. take n ys ++ z ∷ []) (sym is'))
    ∙ map-append g (take n ys) (y ∷ []))

-- one more output, and the path beside it
pub path_there : (made : List JobOutput) (paths : List (List ℕ)) (n : ℕ) (output : JobOutput)
    (path : List ℕ) → n < length made → n < length paths
    → output ≡ get_or made n output → path ≡ get_or paths n path
    → map (λ (o : JobOutput). o.path) made ≡ paths → output.path ≡ path
path_there made paths n output path low low' is is' same =
    same_there (λ (o : JobOutput). o.path) (λ (p : List ℕ). p) _ _ n _ _ low low' is
    is' (same ∙ sym (map-id paths))

pub paths_more : (made : List JobOutput) (paths : List (List ℕ)) (n : ℕ) (output : JobOutput)
    (path : List ℕ) → n < length made → n < length paths
    → output ≡ get_or made n output → path ≡ get_or paths n path → output.path ≡ path
    → map (λ (o : JobOutput). o.path) (take n made) ≡ take n paths
    → map (λ (o : JobOutput). o.path) (take (n + 1) made) ≡ take (n + 1) paths
paths_more made paths n output path low low' is is' here before =
    same_more (λ (o : JobOutput). o.path) (λ (p : List ℕ). p) _ _ n _ _ low low' is
    is' here (before ∙ sym (map-id (take n paths)))
    ∙ map-id (take (n + 1) paths)

-- ---- a job

pub recipe_of : (graph : Graph) (d : ℕ) (job : Job) (drv : Drv) → slice_get (drvs_of graph.nodes) d
    ≡ Some drv → IsJob graph d job → HasRecipe drv job
recipe_of graph d job drv at is = search (rules, drv_is)

pub kind_of_job : (graph : Graph) (d : ℕ) (job : Job) (kind : Kind)
    → IfSome (slice_get graph.nodes d) (λ (n : Node). HasKind n.drv kind) → IsJob graph d job
    → job.kind ≡ kind
kind_of_job graph d job kind told is = search (rules, one_kind)

names_of : (outs : List OutputStruct) (drv : Drv) → map output_of outs ≡ drv.outputs
    → map (λ (o : OutputStruct). o.name.items) outs ≡ map (λ (o : Output). o.name) drv.outputs
names_of outs drv view = search (rules, map-map)

pub makes_of : (graph : Graph) (d : ℕ) (job : Job) (drv : Drv) (outs : List OutputStruct)
    (paths : List (List ℕ)) → slice_get (drvs_of graph.nodes) d ≡ Some drv
    → map output_of outs ≡ drv.outputs → IfSome (slice_get graph.nodes d)
    (λ (n : Node). paths ≡ output_paths_of n.drv) → IsJob graph d job
    → MakesAt outs paths job.outputs.items
makes_of graph d job drv outs paths at view told is = search (rules, drv_is, names_of)

pub as_many_paths : (graph : Graph) (d : ℕ) (drv : Drv) (outs : List OutputStruct)
    (paths : List (List ℕ)) → d < length graph.nodes → slice_get (drvs_of graph.nodes) d ≡ Some drv
    → map output_of outs ≡ drv.outputs → IfSome (slice_get graph.nodes d)
    (λ (n : Node). paths ≡ output_paths_of n.drv) → length paths ≡ length outs
as_many_paths graph d drv outs paths low at view told =
    let own = element_at _ d low in
    let same : drv ≡ own.0.drv = drv_is _ d _ _ own.1 at in
    let are : paths ≡ output_paths_of own.0.drv =
    subst (λ o. IfSome o (λ (n : Node). paths ≡ output_paths_of n.drv)) own.1 told in
    ap (length {A = List ℕ}) are ∙ length-map own.0.drv.outputs (λ (o : Output). o.path)
    ∙ ap (λ (x : Drv). length x.outputs) (sym same) ∙ ap (length {A = Output}) (sym view)
    ∙ length-map outs output_of

-- it is the derivation's where its parts are, its seeds, and its whole inputs
pub job_by_parts : (graph : Graph) (d : ℕ) (job : Job) (drv : Drv) (kind : Kind)
    (outs : List OutputStruct) (paths : List (List ℕ)) (told : Bool) → d < length graph.nodes
    → slice_get (drvs_of graph.nodes) d ≡ Some drv → job.derivation ≡ d
    → IfSome (slice_get graph.nodes d) (λ (n : Node). HasKind n.drv kind) → job.kind ≡ kind
    → job.profile ≡ graph.profile
    → HasRecipe drv job
    → map output_of outs ≡ drv.outputs → IfSome (slice_get graph.nodes d)
    (λ (n : Node). paths ≡ output_paths_of n.drv) → MakesAt outs paths job.outputs.items
    → IfSome (slice_get graph.nodes d)
    (λ (n : Node). job.seeds.items ≡ seeds_of graph.nodes n.drv)
    → IfSome (slice_get graph.nodes d) (λ (n : Node). IsTrue told
    ↔ (map shown_whole job.whole_inputs.items ≡ whole_inputs_of graph.profile graph.nodes n.drv))
    → IsTrue told ↔ IsJob graph d job
job_by_parts graph d job drv kind outs paths told low at number kinds kind_is profile recipe view
    path makes seeds whole =
    let own = element_at _ d low in
    let node : Node = own.0 in
    let same : drv ≡ node.drv = drv_is _ d _ _ own.1 at in
    let both = subst (λ o.
    IfSome o (λ (n : Node). IsTrue told ↔ (map shown_whole job.whole_inputs.items
    ≡ whole_inputs_of graph.profile graph.nodes n.drv))) own.1 whole in
    let its = subst (λ (x : Drv). HasRecipe x job) same recipe in (
      λ yes. record {
        node = node;
        is_node = own.1;
        derivation = number;
        builder = its.builder;
        args = its.args;
        env = its.env;
        names = makes.names ∙ names_of _ node.drv (view ∙ ap (λ (x : Drv). x.outputs) same);
        paths = makes.paths_are
            ∙ subst (λ o. IfSome o (λ (n : Node). paths ≡ output_paths_of n.drv)) own.1 path;
        kind = rw kind_is (subst (λ o. IfSome o (λ (n : Node). HasKind n.drv kind)) own.1 kinds);
        profile = profile;
        seeds = subst (λ o.
            IfSome o (λ (n : Node). job.seeds.items ≡ seeds_of graph.nodes n.drv)) own.1 seeds;
        whole_inputs = both.0 yes;
      },
      λ is.
          both.1 (subst (λ (n : Node). map shown_whole job.whole_inputs.items
          ≡ whole_inputs_of graph.profile graph.nodes n.drv)
          (same_element _ d _ _ is.is_node own.1) is.whole_inputs),
    )

-- a job of the derivation has its seeds, as a test tells
pub job_has_seeds : (graph : Graph) (d : ℕ) (job : Job) (told : Bool) → IsJob graph d job
    → IfSome (slice_get graph.nodes d)
    (λ (n : Node). IsTrue told ↔ (job.seeds.items ≡ seeds_of graph.nodes n.drv))
    → told ≡ true
job_has_seeds graph d job told is test =
    (subst (λ o. IfSome o
    (λ (n : Node). IsTrue told ↔ (job.seeds.items ≡ seeds_of graph.nodes n.drv))) is.is_node
    test).1 is.seeds

pub seeds_hold : (graph : Graph) (d : ℕ) (job : Job) (told : Bool) → told ≡ true
    → IfSome (slice_get graph.nodes d)
    (λ (n : Node). IsTrue told ↔ (job.seeds.items ≡ seeds_of graph.nodes n.drv))
    → IfSome (slice_get graph.nodes d)
    (λ (n : Node). job.seeds.items ≡ seeds_of graph.nodes n.drv)
seeds_hold graph d job told holds test = by (slice_get graph.nodes d) test
  where
    by : (o : Option Node)
        → IfSome o (λ (n : Node). IsTrue told ↔ (job.seeds.items ≡ seeds_of graph.nodes n.drv))
        → IfSome o (λ (n : Node). job.seeds.items ≡ seeds_of graph.nodes n.drv)
    by None its = tt
    by (Some node) its = its.0 holds
