use Rattle.std.proofs.Common.{◌∙◌, ap, length, rules}
use Rattle.std.specs.Cmp.Lexicographic.{slice_cmp}
use Rattle.std.specs.Ordering.{is_lt, nat_cmp}
use Rattle.std.proofs.lemmas.Cmp.{nat_list_cmp_total}
use Rattle.std.proofs.lemmas.List.Sorted.{answers_always, ranks_by}
use Rattle.run_report.specs.Listing.{IsMarked, listed_in}
use Rattle.run_report.specs.declared.report.listing.Listed.{Listed}
use Rattle.run_report.proofs.Listings.{by_path_within, keyed_by_path}
use Rattle.run_report.proofs.report.listing.marked_by_path.Goals as goal

pub returns-clause-by_path : goal.returns-clause-by_path
returns-clause-by_path c =
    let sorted = c.sort_unstable_by.ensures.sorted
    (λ (a b : Listed). is_lt (slice_cmp nat_cmp a.path.now b.path.now))
    (ranks_by nat_list_cmp_total (λ (l : Listed). l.path.now))
    (answers_always _ _ _ (λ f a r g h. search rules)) in
    keyed_by_path _
    (IsMarked c.args.marks.now (length c.args.plan.now.nodes)) _ _ _ _
    c.in_ok-keyed.ensures c.sort_unstable_by_key.ensures.permutation
    (c.in_ok-listed.ensures.listed ∙ ap listed_in c.deref.ensures.value)
    c.sort_unstable_by.ensures.permutation sorted

pub returns-clause-within : goal.returns-clause-within
returns-clause-within c =
    let sorted = c.sort_unstable_by.ensures.sorted
    (λ (a b : Listed). is_lt (slice_cmp nat_cmp a.path.now b.path.now))
    (ranks_by nat_list_cmp_total (λ (l : Listed). l.path.now))
    (answers_always _ _ _ (λ f a r g h. search rules)) in
    by_path_within _ _ _ _
    (keyed_by_path _
    (IsMarked c.args.marks.now (length c.args.plan.now.nodes)) _ _ _ _
    c.in_ok-keyed.ensures c.sort_unstable_by_key.ensures.permutation
    (c.in_ok-listed.ensures.listed ∙ ap listed_in c.deref.ensures.value)
    c.sort_unstable_by.ensures.permutation sorted)
