use Rattle.std.proofs.Common.{length, sym, ap, subst, ◌∙◌}
use Rattle.nix_names.specs.Base32.{text_number, StandsFor}
use Rattle.nix_names.proofs.Base32Digits.{length_digits_of}
use Rattle.nix_names.proofs.Base32Reading.{text_where_no_fault, text_stands}
use Rattle.nix_names.proofs.base32.from_base32.Goals as goal

pub bytes_of-requires-clause-digits : goal.bytes_of-requires-clause-digits
bytes_of-requires-clause-digits c =
    (text_where_no_fault c.args.text.now c.args.n (sym c.in_default.ensures)).digits

pub returns-clause-value : goal.returns-clause-value
returns-clause-value c =
    let text = c.args.text.now in
    let none = sym c.in_default.ensures in
    let is = text_where_no_fault text c.args.n none in (
      none,
      (
        ap length c.in_ok-bytes_of.ensures.value ∙ length_digits_of 256 c.args.n (text_number text),
        subst (λ bytes. StandsFor text bytes) (sym c.in_ok-bytes_of.ensures.value)
            (text_stands text c.args.n is),
      ),
    )
