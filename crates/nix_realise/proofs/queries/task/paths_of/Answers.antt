use Rattle.std.proofs.Common.{◌∙◌, ap, refl, sym, ◌++◌, ◌∷◌, [], ℕ, List, Bor}
use Rattle.std.proofs.lemmas.Result.{err_from_is_err_and}
use Rattle.nix_realise.proofs.Reports.{words_more}
use Rattle.nix_realise.proofs.Tasks.{first_stray, paths_push}
use Rattle.nix_realise.proofs.queries.task.paths_of.Goals as goal

-- what stands past the end of a list
abbrev none : Bor (List ℕ)
none = record { ref_ptr = (0, 0); now = [] }

pub returns-in_err-path_of : goal.returns-in_err-path_of
returns-in_err-path_of c =
    let e = err_from_is_err_and c.from_residual.result c.from_residual.ensures.1 in
    let stray = first_stray c.args.dir.now c.args.words.now c.loop-word.word-index none
    c.in_err-path_of.field-0.0 c.loop-word-test.true c.loop-word.invariant.paths
    c.in_err-path_of.ensures in
    rw (e.1, e.2) stray

pub loop-word-preserved : goal.loop-word-preserved
loop-word-preserved c =
    let given = c.in_ok-path_of.ensures in
    let more = words_more c.args.words.now c.loop-word.word-index none c.in_ok-path_of.field-0
    c.loop-word-test.true given.0 in
    record {
      same =
          c.in_ok-push.ensures.items
          ∙ ap (λ l. l ++ c.in_ok-path_of.field-0 ∷ []) c.loop-word.invariant.same ∙ sym more;
      paths =
          paths_push c.args.dir.now c.args.words.now c.loop-word.word-index none _
          c.loop-word-test.true refl given.1 c.loop-word.invariant.paths;
    }
