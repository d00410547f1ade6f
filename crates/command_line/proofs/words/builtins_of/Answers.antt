use Rattle.std.proofs.Common.{◌≡◌, ◌⊎◌, ℕ, List, Bor, codes, map, rules, subst}
use Rattle.std.specs.Prelude.{IfErr}
use Rattle.clap.specs.Words.{found_of, kind_of, rows_of}
use Rattle.clap.specs.declared.error.kind.ErrorKind.TheVariants.{OutOfMemory}
use Rattle.command_line.proofs.Rows.{all_row}
use Rattle.command_line.specs.Builtins.{IsBuiltinFault}
use Rattle.command_line.specs.Requests.{words_in}
use Rattle.command_line.proofs.words.builtins_of.Goals as goal

pub returns-clause-err : goal.returns-clause-err
returns-clause-err c =
    let same : map (λ (w : Bor (List ℕ)). w.now) c.unwrap_or.result.now
    ≡ words_in (codes "builtin") (rows_of (found_of c.args.found.now)) = search (all_row, rules) in
    subst
    (λ words. IfErr c.builtins_in.result
    (λ e. (kind_of e ≡ OutOfMemory) ⊎ IsBuiltinFault words (kind_of e))) same
    c.builtins_in.ensures.err
