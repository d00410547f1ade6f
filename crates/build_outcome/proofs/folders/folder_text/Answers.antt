use Rattle.std.proofs.Common.{ap, arith, length, refl}
use Rattle.build_outcome.proofs.Specifiers.{folder_front, folder_is}
use Rattle.build_outcome.proofs.folders.folder_text.Goals as goal

pub overflow_sub-result : goal.overflow_sub-result
overflow_sub-result c =
    let front = folder_front _ c.text-text.ensures.is_path _ _ c.hash_part.ensures.value
    c.name.ensures.value in
    omega (arith, front.0, ap length c.text-text.ensures.value)

pub slice_bounds-result-count : goal.slice_bounds-result-count
slice_bounds-result-count c =
    let front = folder_front _ c.text-text.ensures.is_path _ _ c.hash_part.ensures.value
    c.name.ensures.value in
    omega (arith, front.0, ap length c.text-text.ensures.value)

pub returns-clause-dir : goal.returns-clause-dir
returns-clause-dir c =
    (folder_is c.args.path.now c.text-text.result.now _ c.hash_part.result.now c.name.result.now
    c.text-text.ensures.is_path c.text-text.ensures.value c.hash_part.ensures.value
    c.name.ensures.value refl).0

pub returns-clause-path : goal.returns-clause-path
returns-clause-path c =
    (folder_is c.args.path.now c.text-text.result.now _ c.hash_part.result.now c.name.result.now
    c.text-text.ensures.is_path c.text-text.ensures.value c.hash_part.ensures.value
    c.name.ensures.value refl).1
