use Rattle.std.proofs.Common.{◌∙◌, ◌+◌, ◌<◌, ap, length, sym, rules}
use Rattle.std.proofs.lemmas.List.{length_push}
use Rattle.nix_drv.specs.declared.derivation.Output.{Output}
use Rattle.sched_core.proofs.JobParts.{made_all, made_more}
use Rattle.sched_core.proofs.job_of.outputs_of.Goals as goal

pub loop-n-preserved : goal.loop-n-preserved
loop-n-preserved c =
    let low : c.loop-n.n < length c.args.paths.now = c.loop-n-test.true in
    record {
      count = ap length c.push_reserved.ensures.items
          ∙ length_push _ _ ∙ ap (λ n. n + 1) c.loop-n.invariant.count;
      made = rw c.push_reserved.ensures.items
          (made_more _ _ _ _
          _ _ _ low c.requires
          c.index-outputs-n.is c.index-paths-n.is (c.in_ok-name.ensures.items ∙ c.deref.ensures.value
          ∙ ap (λ (o : Output). o.name.items) (sym c.index-outputs-n.is)) c.in_ok-path.ensures.same
          c.loop-n.invariant.made);
      room = c.push_reserved.ensures.capacity ∙ c.loop-n.invariant.room;
    }

pub returns-clause-names : goal.returns-clause-names
returns-clause-names c = search (rules, made_all)

pub returns-clause-paths : goal.returns-clause-paths
returns-clause-paths c = (made_all _ _ _ _ c.loop-n-test.false c.requires c.loop-n.invariant.made).1
