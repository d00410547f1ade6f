use Rattle.std.proofs.Common.{◌∙◌, [], ap, map, refl, rules, subst, sym}
use Rattle.std.specs.Borrow.{Bor}
use Rattle.std.specs.List.Sorted.{IsPermutation}
use Rattle.std.proofs.lemmas.Bool.{false≢true}
use Rattle.std.proofs.lemmas.Cmp.{nat_list_cmp_total}
use Rattle.std.proofs.lemmas.List.Sorted.{IsPermutation-map, answers_always, ranks_by}
use Rattle.ref_scan.specs.private.Telling.{AreNames, IsOrderOf, order_of}
use Rattle.ref_scan.specs.declared.tree.Member.{Member}
use Rattle.ref_scan.proofs.Orders.{by_ref, is_order, no_order, of_ref, order_of_reverse, sorted_refs}
use Rattle.ref_scan.proofs.tree_archive.order.put_in_order.Goals as goal

pub returns-then-not-are_names : goal.returns-then-not-are_names
returns-then-not-are_names c =
    let sorted = c.sort_unstable_by.new.self.items in
    let up = c.sort_unstable_by.ensures.sorted by_ref
    (ranks_by nat_list_cmp_total (λ (r : Bor Member). r.now.name.items))
    (answers_always _ _ _ (λ f a r g h. search rules)) in
    no_order c.args.members.now (map of_ref sorted)
    (subst (λ l. IsPermutation l (map of_ref sorted)) c.in_ok-order.ensures
    (IsPermutation-map of_ref c.in_ok-order.order.items sorted c.sort_unstable_by.ensures.permutation))
    (sorted_refs sorted up)
    (λ names. false≢true (c.if-not-are_names.ensures.1
    (subst (λ l. AreNames [] (map of_ref l)) (sym c.deref.ensures.value) names)))

pub returns : goal.returns
returns c =
    let sorted = c.sort_unstable_by.new.self.items in
    let up = c.sort_unstable_by.ensures.sorted by_ref
    (ranks_by nat_list_cmp_total (λ (r : Bor Member). r.now.name.items))
    (answers_always _ _ _ (λ f a r g h. search rules)) in
    subst (IsOrderOf c.args.members.now) (sym (ap order_of c.reverse.ensures.items
    ∙ order_of_reverse sorted))
    (is_order c.args.members.now (map of_ref sorted)
    (subst (λ l. IsPermutation l (map of_ref sorted)) c.in_ok-order.ensures
    (IsPermutation-map of_ref c.in_ok-order.order.items sorted c.sort_unstable_by.ensures.permutation))
    (sorted_refs sorted up)
    (subst (λ l. AreNames [] (map of_ref l)) c.deref.ensures.value (c.if-not-are_names.ensures.0 refl)))
