use Rattle.std.proofs.Common.{◌∙◌, rules, sym}
use Rattle.std.specs.Cmp.Lexicographic.{slice_cmp}
use Rattle.std.specs.Ordering.{is_lt, nat_cmp}
use Rattle.std.proofs.lemmas.Bool.{false≢true}
use Rattle.std.proofs.lemmas.Cmp.{nat_list_cmp_total}
use Rattle.std.proofs.lemmas.Fn.{always_returns_same}
use Rattle.std.proofs.lemmas.List.Sorted.{ranks_by}
use Rattle.valid_table.specs.declared.entry.Registration.{Registration}
use Rattle.valid_table.proofs.SortedOutputs.{sorted_rises}
use Rattle.valid_table.proofs.entry.Outputs.sorted.Goals as goal

pub returns-then-not-is_rising : goal.returns-then-not-is_rising
returns-then-not-is_rising c =
    λ outputs.
    let Less : Registration → Registration → _ = λ a b. is_lt (slice_cmp nat_cmp a.path b.path) in
    let sorted = c.sort_unstable_by.ensures.sorted Less
    (ranks_by nat_list_cmp_total (λ (r : Registration). r.path))
    (always_returns_same _ _ _ (λ a r f k. (search rules, search rules))) in
    false≢true (sym c.if-not-is_rising.true ∙ c.is_rising.ensures.1
    (rw c.as_slice.ensures.value
    (sorted_rises _ _ c.sort_unstable_by.ensures.permutation sorted
    outputs.1)))
