use Rattle.nix_names.proofs.DigestTexts.{no_colon, no_name, none_answer}
use Rattle.nix_names.proofs.digest.Digest.of_text.Goals as goal

pub returns-in_err-name : goal.returns-in_err-name
returns-in_err-name c =
    none_answer c.args.text.now c.from_residual.result c.from_residual.ensures
    (no_colon c.args.text.now c.in_err-name.ensures)

pub returns-in_err-algorithm : goal.returns-in_err-algorithm
returns-in_err-algorithm c =
    none_answer c.args.text.now c.from_residual-in_err-algorithm.result
    c.from_residual-in_err-algorithm.ensures
    (no_name c.args.text.now c.in_ok-name.name.now c.in_ok-name.digits.now c.in_ok-name.ensures.0
    c.in_ok-name.ensures.1 c.in_err-algorithm.ensures)
