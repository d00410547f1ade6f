use Rattle.std.proofs.Common.{◌∙◌, List, ℕ, Some, ap, refl, sym}
use Rattle.std.specs.Prelude.{slice_get}
use Rattle.std.proofs.lemmas.Option.{slice_get_past, slice_get_read}
use Rattle.sched_core.proofs.Naming.{at_index, seeds_of_job}
use Rattle.sched_core.proofs.named_paths.permitted_at.Goals as goal

pub permitted_to-requires : goal.permitted_to-requires
permitted_to-requires c =
    seeds_of_job c.args.plan.now c.args.journal.now.entries c.args.d c.in_ok-job.job
    c.in_ok-job.ensures.ok c.requires.seeds

pub returns-in-Some : goal.returns-in-Some
returns-in-Some c = record {
  ok = (let at = slice_get_read _ _ _ _ refl c.in-Some.ensures.lookup.3.0 c.in-Some.ensures.lookup.1 in
      at_index c.args.plan.now c.args.journal.now.entries c.args.d c.args.index c.in_ok-job.job
      c.in_ok-permitted.permitted.items _ c.in_ok-job.ensures.ok c.in_ok-permitted.ensures.ok
      (ap Some c.in_ok-copy-in-Some.ensures.same ∙ sym at
      ∙ ap (λ (paths : List (List ℕ)). slice_get paths c.args.index) c.deref.ensures.value));
}

pub returns : goal.returns
returns c = record {
  ok = at_index c.args.plan.now c.args.journal.now.entries c.args.d c.args.index c.in_ok-job.job
      c.in_ok-permitted.permitted.items _ c.in_ok-job.ensures.ok c.in_ok-permitted.ensures.ok
      (sym (slice_get_past _ _ c.in-None.ensures.lookup.3)
      ∙ ap (λ (paths : List (List ℕ)). slice_get paths c.args.index) c.deref.ensures.value);
}
