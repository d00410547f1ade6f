use Rattle.std.proofs.Common.{◌∷◌, [], ◌++◌, to_z-of_z, ap, ◌∙◌}
use Rattle.std.proofs.lemmas.Result.{on_ok_weaker}
use Rattle.std.specs.Fmt.{signed_decimal}
use Rattle.json.specs.Token.{number}
use Rattle.structured_attrs.proofs.Numbers.{number_of-below_zero}
use Rattle.structured_attrs.proofs.writing.write_negative.Goals as goal

pub returns-clause-ok : goal.returns-clause-ok
returns-clause-ok c =
    on_ok_weaker c.i64.result
    (λ e. (e ∙ ap (λ z. c.args.out.now.tokens ++ number (signed_decimal z) ∷ []) (to_z-of_z c.ranges.n), number_of-below_zero c.args.n c.requires c.ranges.n)) c.i64.ensures.ok
