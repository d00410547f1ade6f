use Rattle.std.proofs.Common.{◌≡◌, ◌∙◌, ◌-◌, ◌<◌, ap, arith, drop, length, map, refl, subst, suc, sym}
use Rattle.std.specs.Prelude.{zip}
use Rattle.std.proofs.lemmas.List.{length-map}
use Rattle.std.proofs.lemmas.Option.{slice_get_read}
use Rattle.nix_names.proofs.Lists.{get_mapped}
use Rattle.build_outcome.specs.Checks.{registration_of}
use Rattle.build_outcome.specs.declared.job.JobOutput.{JobOutput}
use Rattle.build_outcome.specs.private.Sizing.{AreNars, kept_nar}
use Rattle.build_outcome.proofs.Sizes.{kept_none, kept_set, nars_more, nars_none, own_all, own_from}
use Rattle.build_outcome.proofs.checks.sizes.ClosureNars.new.Goals as goal

pub loop-n-init : goal.loop-n-init
loop-n-init c = record {
  within = omega arith;
  nars = subst (AreNars (kept_nar c.new-own.result))
      (sym (own_all (map (λ (o : JobOutput). o.path) c.args.outputs.now) c.args.records.now
      (length c.args.outputs.now)
      (omega (arith, length-map c.args.outputs.now (λ (o : JobOutput). o.path)))))
      (nars_none (kept_nar c.new-own.result) (kept_none c.new-own.result c.new-own.ensures.empty));
}

pub loop-n-preserved : goal.loop-n-preserved
loop-n-preserved c =
    let paths = map (λ (o : JobOutput). o.path) c.args.outputs.now in
    let n = c.loop-n.n - 1 in
    let low : n < length c.args.outputs.now =
    omega (arith, c.loop-n-test.true, c.loop-n.invariant.within) in
    let low' : n < length c.args.records.now = omega (arith, low, c.requires) in
    let same : suc n ≡ c.loop-n.n = omega (arith, c.loop-n-test.true) in
    record {
      within = omega (arith, low);
      nars = subst (AreNars (kept_nar c.insert.new.self))
          (sym (own_from paths c.args.records.now n c.index-outputs-n.result.path
          c.index-records-n.result
          (get_mapped (λ (o : JobOutput). o.path) c.args.outputs.now n c.index-outputs-n.result
          (slice_get_read _ _ _ _ refl low c.index-outputs-n.is))
          (slice_get_read _ _ _ _ refl low' c.index-records-n.is)))
          (nars_more (kept_nar c.loop-n.own) (kept_nar c.insert.new.self)
          (record { path = c.index-outputs-n.result.path; info = c.index-records-n.result })
          (drop (suc n) (map registration_of (zip paths c.args.records.now)))
          (subst (λ k. AreNars (kept_nar c.loop-n.own)
          (drop k (map registration_of (zip paths c.args.records.now)))) (sym same)
          c.loop-n.invariant.nars)
          (kept_set c.loop-n.own c.insert.new.self _ _ _ _
          (c.in_ok-copy.ensures.same
          ∙ ap (λ (o : JobOutput). o.path) (sym c.index-outputs-n.is))
          c.nar.ensures
          c.in_ok-insert.ensures.updates));
    }

pub returns-clause-own : goal.returns-clause-own
returns-clause-own c =
    let paths = map (λ (o : JobOutput). o.path) c.args.outputs.now in
    let none : c.loop-n.n ≡ 0 = omega (arith, c.loop-n-test.false) in
    subst (λ k. AreNars (kept_nar c.loop-n.own)
    (drop k (map registration_of (zip paths c.args.records.now)))) none c.loop-n.invariant.nars
