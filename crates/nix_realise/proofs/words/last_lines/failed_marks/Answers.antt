use Rattle.std.proofs.Common.{◌∙◌, ◌++◌, ◌∷◌, [], ap, ap₂, arith, sym}
use Rattle.std.proofs.lemmas.List.FromFn.{map-range_with_len_more}
use Rattle.run_states.specs.Runs.{state_in}
use Rattle.nix_realise.specs.LastLines.{is_failed}
use Rattle.nix_realise.proofs.words.last_lines.failed_marks.Goals as goal

pub loop-number-preserved : goal.loop-number-preserved
loop-number-preserved g c =
    let n = c.loop-number.number in
    c.in_ok-push.ensures.items
    ∙ ap₂ (λ marks mark. marks ++ mark ∷ []) c.loop-number.invariant
    (c.is_failed.ensures ∙ ap is_failed c.state.ensures)
    ∙ sym (map-range_with_len_more
    (λ d. is_failed (state_in c.args.book.now.run c.args.book.now.history d)) 0 n n (omega arith))
