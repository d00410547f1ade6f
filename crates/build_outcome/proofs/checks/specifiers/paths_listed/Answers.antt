use Rattle.std.proofs.Common.{Bor, List, ℕ, refl, rules, subst, sym}
use Rattle.build_outcome.specs.private.Listing.{AreListedSoFar}
use Rattle.build_outcome.proofs.Specifiers.{all_mapped, listed_all, listed_more, listed_none, one_mapped, taken_mapped, unlisted}
use Rattle.build_outcome.proofs.checks.specifiers.paths_listed.Goals as goal

pub loop-specifier-init : goal.loop-specifier-init
loop-specifier-init c = search (rules, listed_none)

pub returns-then-not-branch : goal.returns-then-not-branch
returns-then-not-branch c =
    let adds = c.in_ok-add_specified.ensures c.args.own.now c.in_ok-dir.ensures in
    unlisted _ _ _ _ _ _ _
    (one_mapped (λ (t : Bor (List ℕ)). t.now) c.args.list.now
    c.loop-specifier.specifier-index _ _ c.loop-specifier-test.true refl) adds
    c.if-not-branch.true

pub loop-specifier-preserved : goal.loop-specifier-preserved
loop-specifier-preserved c =
    let adds = c.in_ok-add_specified.ensures c.args.own.now c.in_ok-dir.ensures in
    subst (λ l. AreListedSoFar c.args.job.now c.args.own.now l c.add_specified.new.named.items)
    (sym (taken_mapped (λ (t : Bor (List ℕ)). t.now) c.args.list.now
    c.loop-specifier.specifier-index _ c.loop-specifier-test.true))
    (listed_more _ _ _ _ _ _ _ c.loop-specifier.invariant adds c.if-not-branch.false)

pub returns : goal.returns
returns c =
    let all = all_mapped (λ (t : Bor (List ℕ)). t.now) c.args.list.now
    c.loop-specifier.specifier-index _ c.loop-specifier-test.false refl in
    listed_all _ _ _ _ _
    (subst (λ l. AreListedSoFar c.args.job.now c.args.own.now l c.loop-specifier.named.items) all
    c.loop-specifier.invariant) c.sort_paths.ensures.rising c.sort_paths.ensures.same
