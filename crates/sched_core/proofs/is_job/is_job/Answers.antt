use Rattle.std.proofs.Common.{◌∙◌, subst, sym, rules}
use Rattle.std.proofs.lemmas.Bool.{false≢true}
use Rattle.sched_core.specs.private.SameJobs.{MakesAt}
use Rattle.sched_core.proofs.Comparing.{as_many_paths, job_by_parts, kind_of_job, makes_of, recipe_of, job_has_seeds, seeds_hold}
use Rattle.sched_core.proofs.is_job.is_job.Goals as goal

pub returns-then-not-same_kind : goal.returns-then-not-same_kind
returns-then-not-same_kind c = (
  λ told. absurd (false≢true told),
  λ is. absurd (false≢true (sym c.if-not-same_kind.true
      ∙ c.same_kind.ensures.1
      (kind_of_job _ _ _ _ c.kind.ensures is))),
)

pub returns-then-not-same_profile : goal.returns-then-not-same_profile
returns-then-not-same_profile c = (
  λ told. absurd (false≢true told),
  λ is. absurd (false≢true (sym c.if-not-same_profile.true
      ∙ c.same_profile.ensures.1 (is.profile ∙ sym c.profile.ensures))),
)

pub returns-then-not-has_recipe : goal.returns-then-not-has_recipe
returns-then-not-has_recipe c = search (rules, recipe_of)

pub makes-requires : goal.makes-requires
makes-requires c = search (rules, as_many_paths)

pub returns-then-not-makes : goal.returns-then-not-makes
returns-then-not-makes c = (
  λ told. absurd (false≢true told),
  λ is.
      absurd
      (false≢true
      (sym c.if-not-makes.true
      ∙ c.makes.ensures.1
      (rw c.deref.ensures.value
      (makes_of _ _ _ _ _ _ c.drv-drv.ensures
      c.outputs.ensures c.output_paths.ensures.value is)))),
)

pub returns-then-not-has_seeds : goal.returns-then-not-has_seeds
returns-then-not-has_seeds c = (
  λ told. absurd (false≢true told),
  λ is. absurd (false≢true (sym c.if-not-has_seeds.true
      ∙ job_has_seeds _ _ _ _ is (rw (← c.deref-2.ensures.value) c.has_seeds.ensures))),
)

pub returns : goal.returns
returns c =
    job_by_parts _ _ _ _ _ _ _ _ c.requires
    c.drv-drv.ensures c.if-job-d.false c.kind.ensures
    (c.same_kind.ensures.0 c.if-not-same_kind.false)
    (c.same_profile.ensures.0 c.if-not-same_profile.false ∙ c.profile.ensures)
    (c.has_recipe.ensures.0 c.if-not-has_recipe.false) c.outputs.ensures
    c.output_paths.ensures.value
    (subst (MakesAt c.outputs.result.now c.output_paths.result.now) c.deref.ensures.value
    (c.makes.ensures.0 c.if-not-makes.false))
    (seeds_hold c.args.plan.now c.args.d c.args.job.now _ c.if-not-has_seeds.false
    (rw (← c.deref-2.ensures.value) c.has_seeds.ensures))
    (rw (← c.deref-3.ensures.value) c.has_whole_inputs.ensures)
