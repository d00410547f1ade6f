-- The parts of the job of a plan's derivation.
use Rattle.std.proofs.Common.{◌≡◌, ◌∙◌, ℕ, ◌+◌, ◌<◌, ◌≤◌, List, [], ◌∷◌, ◌++◌, length, map, take, get_or, Option, Some, IfSome, sym, ap, subst, arith, rules}
use Rattle.std.specs.Prelude.{slice_get}
use Rattle.std.proofs.lemmas.List.{length-map, map_push, take_all}
use Rattle.std.proofs.lemmas.Simd.{map-map}
use Rattle.nix_drv.specs.Derivation.{Drv, Output}
use Rattle.nix_drv.specs.Parts.{drv_of, output_of}
use Rattle.nix_drv.specs.declared.derivation.Output.{Output as OutputStruct}
use Rattle.nix_drv.specs.declared.derivation.Parts.{Parts}
use Rattle.drv_graph.specs.Kinds.{HasKind}
use Rattle.drv_graph.specs.Nodes.{Node}
use Rattle.drv_graph.specs.Plans.{Graph}
use Rattle.drv_graph.specs.PlanNodes.{drvs_of, output_paths_of}
use Rattle.build_outcome.specs.Jobs.{IsJob, seeds_of, shown_whole, whole_inputs_of}
use Rattle.sched_core.specs.private.Seeding.{named_texts, output_texts}
use Rattle.build_outcome.specs.declared.job.Job.{Job}
use Rattle.build_outcome.specs.declared.job.JobOutput.{JobOutput}
use Rattle.run_report.proofs.PlanDrvs.{drv_is}
use Rattle.sched_core.proofs.SeedParts.{read_at, take_next}
use Rattle.nix_names.proofs.Lists.{element_at}

-- The first `count` outputs, with their paths.
pub record AreMade (outputs : List OutputStruct) (paths : List (List ℕ)) (made : List JobOutput)
    (count : ℕ) : Type 0 where
  pub names : named_texts made ≡ output_texts (take count outputs)
  pub paths_are : map (λ (o : JobOutput). o.path) made ≡ take count paths

pub made_more : (outputs : List OutputStruct) (paths : List (List ℕ)) (made : List JobOutput)
    (n : ℕ) (output : OutputStruct) (path : List ℕ) (one : JobOutput)
    → n < length paths → length paths ≡ length outputs → output ≡ get_or outputs n output → path
    ≡ get_or paths n path
    → one.name.items ≡ output.name.items → one.path ≡ path → AreMade outputs paths made n
    → AreMade outputs paths (made ++ one ∷ []) (n + 1)
made_more outputs paths made n output path one low same is_output is_path name its before =
    let name_of = λ (o : OutputStruct). o.name.items in
    let at_output : slice_get outputs n ≡ Some output =
    read_at _ n _ (omega (arith, low, same)) is_output in
    let at_path : slice_get paths n ≡ Some path = read_at _ n _ low is_path in
    record {
      names = map_push (λ (o : JobOutput). o.name.items) _ _
          ∙ ap (λ l. l ++ one.name.items ∷ []) before.names
          ∙ ap (λ t. output_texts (take n outputs) ++ t ∷ []) name
          ∙ sym (ap output_texts (take_next _ n _ at_output)
          ∙ map_push name_of _ _);
      paths_are = map_push (λ (o : JobOutput). o.path) _ _
          ∙ ap (λ l. l ++ one.path ∷ []) before.paths_are
          ∙ ap (λ p. take n paths ++ p ∷ []) its
          ∙ sym (take_next _ n _ at_path);
    }

pub made_all : (outputs : List OutputStruct) (paths : List (List ℕ)) (made : List JobOutput) (n : ℕ)
    → length paths ≤ n → length paths ≡ length outputs → AreMade outputs paths made n
    → (named_texts made ≡ output_texts outputs) × (map (λ (o : JobOutput). o.path) made ≡ paths)
made_all outputs paths made n all same are = search (rules, take_all)

-- there is a path for each output
pub paths_count : (nodes : List Node) (d : ℕ) (drv : Drv) (outs : List OutputStruct)
    (paths : List (List ℕ)) → d < length nodes → slice_get (drvs_of nodes) d ≡ Some drv
    → map output_of outs ≡ drv.outputs → IfSome (slice_get nodes d)
    (λ node. paths ≡ output_paths_of node.drv) → length paths ≡ length outs
paths_count nodes d drv outs paths low is_drv view are =
    let there = element_at _ d low in
    let its : paths ≡ output_paths_of there.0.drv =
    subst (λ (o : Option Node). IfSome o (λ (n : Node). paths ≡ output_paths_of n.drv)) there.1
    are in
    let same : drv ≡ there.0.drv = drv_is _ d _ _ there.1 is_drv in
    let many : length paths ≡ length (output_paths_of there.0.drv) = ap length its in
    let size : length drv.outputs ≡ length there.0.drv.outputs =
    ap (λ (x : Drv). length x.outputs) same in
    let outs_size : length (map output_of outs) ≡ length drv.outputs = ap length view in
    omega (
      arith,
      many,
      size,
      outs_size,
      length-map outs output_of,
      length-map there.0.drv.outputs (λ (o : Output). o.path),
    )

-- a job whose parts are those of the derivation is its job
pub job_is : (graph : Graph) (d : ℕ) (drv : Drv) (outs : List OutputStruct) (paths : List (List ℕ))
    (copy : Parts) (job : Job)
    → d < length graph.nodes → slice_get (drvs_of graph.nodes) d ≡ Some drv
    → map output_of outs ≡ drv.outputs → IfSome (slice_get graph.nodes d)
    (λ node. paths ≡ output_paths_of node.drv)
    → named_texts job.outputs.items ≡ output_texts outs
    → map (λ (o : JobOutput). o.path) job.outputs.items ≡ paths
    → drv_of copy ≡ drv → job.derivation ≡ d → job.builder ≡ copy.builder → job.args ≡ copy.args
    → job.env ≡ copy.env → job.profile ≡ graph.profile
    → IfSome (slice_get graph.nodes d) (λ node. HasKind node.drv job.kind)
    → IfSome (slice_get graph.nodes d) (λ node. job.seeds.items ≡ seeds_of graph.nodes node.drv)
    → IfSome (slice_get graph.nodes d) (λ node. map shown_whole job.whole_inputs.items
    ≡ whole_inputs_of graph.profile graph.nodes node.drv)
    → IsJob graph d job
job_is graph d drv outs paths copy job low is_drv view are names made same number builder args env
    profile kind seeds whole =
    let there = element_at _ d low in
    let is_node : drv_of copy ≡ there.0.drv = same ∙ drv_is _ d _ _ there.1 is_drv
    in
    let own : drv ≡ there.0.drv = drv_is _ d _ _ there.1 is_drv in
    record {
      node = there.0;
      is_node = there.1;
      derivation = number;
      builder = ap (λ v. v.items) builder ∙ ap (λ (x : Drv). x.builder) is_node;
      args = ap (λ v. (drv_of (record copy { args = v })).args) args
          ∙ ap (λ (x : Drv). x.args) is_node;
      env = ap (λ v. (drv_of (record copy { env = v })).env) env ∙ ap (λ (x : Drv). x.env) is_node;
      names = names ∙ sym (map-map (λ (o : Output). o.name) output_of outs)
          ∙ ap (map (λ (o : Output). o.name)) (view ∙ ap (λ (x : Drv). x.outputs) own);
      paths = made ∙ subst (λ (o : Option Node).
          IfSome o (λ (n : Node). paths ≡ output_paths_of n.drv)) there.1 are;
      kind = subst (λ (o : Option Node). IfSome o (λ (n : Node). HasKind n.drv job.kind)) there.1
          kind;
      profile = profile;
      seeds = subst (λ (o : Option Node). IfSome o
          (λ (n : Node). job.seeds.items ≡ seeds_of graph.nodes n.drv)) there.1 seeds;
      whole_inputs = subst (λ (o : Option Node). IfSome o
          (λ (n : Node). map shown_whole job.whole_inputs.items
          ≡ whole_inputs_of graph.profile graph.nodes n.drv)) there.1 whole;
    }
