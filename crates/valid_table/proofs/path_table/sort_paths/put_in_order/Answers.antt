use Rattle.std.proofs.Common.{rules}
use Rattle.valid_table.proofs.Sorting.{sorted_from_test}
use Rattle.valid_table.proofs.path_table.sort_paths.put_in_order.Goals as goal

pub returns-else-not-is_sorted-clause-sorted : goal.returns-else-not-is_sorted-clause-sorted
returns-else-not-is_sorted-clause-sorted c = search (rules, sorted_from_test)
