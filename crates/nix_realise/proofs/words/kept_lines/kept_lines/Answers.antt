use Rattle.std.specs.Cmp.Lexicographic.{slice_cmp}
use Rattle.std.specs.List.{flat_map}
use Rattle.std.specs.Ordering.{is_lt, nat_cmp}
use Rattle.std.proofs.Common.{◌∙◌, ◌++◌, ap, ap₂, rules, subst}
use Rattle.std.proofs.lemmas.Cmp.{nat_list_cmp_total}
use Rattle.std.specs.List.Sorted.{IsPermutation}
use Rattle.std.proofs.lemmas.List.Sorted.{answers_always, ranks_by}
use Rattle.drv_graph.proofs.Gathering.{sorted_map}
use Rattle.nix_realise.specs.declared.words.kept_lines.KeptLease.{KeptLease}
use Rattle.nix_realise.specs.LastLines.{kept_lease, kept_line}
use Rattle.nix_realise.proofs.words.kept_lines.kept_lines.Goals as goal

pub returns : goal.returns
returns g c = record {
  sorted = c.sort_unstable_by.new.self.items;
  same = subst (λ leases. IsPermutation leases c.sort_unstable_by.new.self.items)
      (c.in_ok-leases.ensures ∙ ap (λ kept. flat_map (kept_lease c.args.book.now.run.graph.nodes kept)
      c.args.book.now.history.events) c.deref.ensures.value)
      c.sort_unstable_by.ensures.permutation;
  by_path = sorted_map (λ (k : KeptLease). k.drv) _
      (c.sort_unstable_by.ensures.sorted
      (λ (a b : KeptLease). is_lt (slice_cmp nat_cmp a.drv b.drv))
      (ranks_by nat_list_cmp_total (λ (k : KeptLease). k.drv))
      (answers_always _ _ _ (λ f a r g h. search rules)));
  is_text = c.in_ok-write_kept.ensures
      ∙ ap₂ (λ front kept. front
      ++ flat_map (kept_line c.args.run.now c.args.kept.now.build_dir.now) kept)
      c.new-lines.ensures.items c.deref-2.ensures.value;
}
