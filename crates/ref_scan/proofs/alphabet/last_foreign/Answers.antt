use Rattle.std.proofs.Common.{◌≡◌, ◌-◌, true, ◌∙◌, arith, get_or, sym}
use Rattle.nix_names.specs.Base32.{is_digit}
use Rattle.ref_scan.proofs.Digits.{digits_more}
use Rattle.ref_scan.proofs.alphabet.last_foreign.Goals as goal

pub loop-offset-preserved : goal.loop-offset-preserved
loop-offset-preserved c =
    let digit : is_digit (get_or c.args.window.now (c.loop-offset.offset - 1) 0) ≡ true =
    sym c.is_digit.ensures ∙ c.if-not-is_digit.false in
    record {
      within = omega arith;
      from = omega arith;
      digits =
          digits_more c.args.window.now c.loop-offset.offset (omega arith)
          c.loop-offset.invariant.digits digit;
    }
