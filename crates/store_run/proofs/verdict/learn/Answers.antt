use Rattle.std.proofs.Common.{◌∙◌, List, subst, sym}
use Rattle.std.specs.Prelude.{MatchOption}
use mathlib.Core.List.{IsPrefix}
use Rattle.valid_table.specs.declared.entry.Entry.{Entry}
use Rattle.sched_core.specs.Books.{AreSeedsValid}
use Rattle.store_run.proofs.Permits.{seeds_stay}
use Rattle.store_run.proofs.verdict.learn.Goals as goal

-- src/verdict.rt:22:1
pub returns-clause-seeds : goal.returns-clause-seeds
returns-clause-seeds g c =
    let named = subst (λ o. MatchOption o ⊥ (λ told. (entries : List Entry)
    × g.O.Outlet.names told entries × AreSeedsValid entries c.args.lease.now.job))
    (sym c.told.ensures.told ∙ c.in-Some.is) c.requires in
    seeds_stay named.0 _ c.told.new.self.job
    (subst (λ (front : List Entry). IsPrefix front c.learn.new.self.told)
    (c.prefix.ensures named.0 named.1) c.learn.ensures.told)
    (subst (AreSeedsValid named.0) (sym c.told.ensures.job) named.2)
