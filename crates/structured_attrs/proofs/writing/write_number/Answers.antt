use Rattle.std.proofs.Common.{◌≡◌, Some, decimal, w64, to_z, of_z, refl, sym, ap, ◌∙◌, subst, arith, rules}
use Rattle.std.proofs.lemmas.Result.{on_ok_weaker}
use Rattle.std.specs.Fmt.{signed_decimal}
use Rattle.serde_json.specs.Data.{negative}
use Rattle.serde_json.specs.Find.{as_i64}
use Rattle.serde_json.specs.View.{number_view}
use Rattle.structured_attrs.specs.JsonTexts.{IsNumeralOf}
use Rattle.structured_attrs.proofs.Numbers.{number_of-unsigned, unsigned_is, negative_is}
use Rattle.structured_attrs.proofs.writing.write_number.Goals as goal

pub returns-in-Some-clause-ok : goal.returns-in-Some-clause-ok
returns-in-Some-clause-ok c =
    let n = c.in-Some.n in
    let is = sym (unsigned_is (number_view c.args.number.now) n c.in-Some.ensures) in
    on_ok_weaker c.u64.result (λ e. (
      decimal n,
      e,
      number_of-unsigned n (omega arith) ∙ ap Some is,
      subst (λ x. IsNumeralOf x (decimal n)) is refl,
    )) c.u64.ensures.ok

pub returns-in-Some-default-clause-ok : goal.returns-in-Some-default-clause-ok
returns-in-Some-default-clause-ok c =
    let n = c.in-Some-default.n in
    let z = to_z w64 (of_z w64 n) in
    let kept : negative z ≡ negative n = search rules in
    let found : as_i64 (number_view c.args.number.now) ≡ Some n = sym c.as_i64.ensures ∙ c.in-Some-default.is-0 in
    let is : negative z ≡ number_view c.args.number.now = kept ∙ sym (negative_is (number_view c.args.number.now) n found (grind arith)) in
    on_ok_weaker c.write_negative.result (λ e. (
      signed_decimal z,
      e.0,
      e.1 ∙ ap Some is,
      subst (λ x. IsNumeralOf x (signed_decimal z)) is refl,
    )) c.write_negative.ensures.ok
