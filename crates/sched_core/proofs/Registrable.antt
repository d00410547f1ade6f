-- What a verdict on a derivation's job gives.
use Rattle.std.proofs.Common.{◌≡◌, ◌∙◌, ℕ, List, length, sym, ap, subst, arith}
use Rattle.std.proofs.lemmas.List.{length-map}
use Rattle.std.proofs.lemmas.Option.{slice_get_within}
use Rattle.drv_graph.proofs.KindAnswers.{one_kind}
use Rattle.nix_drv.specs.Derivation.{Output}
use Rattle.drv_graph.specs.Nodes.{Node}
use Rattle.sched_core.specs.VerdictLaws.{AreRegistrable, VerdictsAreRegistrable}
use Rattle.build_outcome.specs.Verdicts.{IsCyclic, IsTreeFault}
use Rattle.build_outcome.specs.declared.job.JobOutput.{JobOutput}
use Rattle.build_outcome.specs.declared.reason.Reason.{Reason}
use Rattle.nix_names.proofs.Lists.{get_from_contains, same_element}
use Rattle.build_outcome.proofs.FixedDigests.{taken_fixed}

-- ---- a fixed output's digest

-- ---- the records of a verdict

pub verdicts_are_registrable : VerdictsAreRegistrable
verdicts_are_registrable graph d job node permitted answer infos of at (taken, records, acyclic) =
    let same : of.node ≡ node = same_element _ d _ _ of.is_node at in
    subst (λ (n : Node). AreRegistrable n permitted infos) same (record {
      records = record {
        own = record {
          count =
              records.count ∙ sym (length-map job.outputs.items (λ (o : JobOutput). o.path))
              ∙ ap length of.paths
              ∙ length-map of.node.drv.outputs (λ (o : Output). o.path);
          fixed = λ method digest kind info has.
              let index = get_from_contains _ _ has in
              let is_record = records.each index.0 info index.1 in
              let below = slice_get_within infos index.0 info index.1 in
              let fixed = one_kind of.node.drv _ _ of.kind kind in
              let fault = λ (why : Reason) (h : IsTreeFault job.profile job.kind is_record.0 why).
              taken.2 index.0 why (omega (arith, records.count)) (is_record.0, is_record.1, h) in
              taken_fixed _ _ is_record.0 _ _ _ fixed fault is_record.2.digest;
        };
        acyclic = λ cyclic.
            acyclic (subst (λ (paths : List (List ℕ)). IsCyclic paths infos) (sym of.paths) cyclic);
      };
      among = λ info path has refers.
          let index = get_from_contains _ _ has in
          let is_record = records.each index.0 info index.1 in
          ((is_record.2.found.each path).0 refers).0;
    })
