use Rattle.std.proofs.Common.{sym, ◌∙◌}
use Rattle.nix_names.specs.Base32.{is_digit}
use Rattle.nix_names.proofs.Base32Reading.{pass_where_none_fails, no_fault_in_text, small_text}
use Rattle.nix_names.proofs.base32.fault_of.Goals as goal

pub byte_of-spare-requires-clause-digits : goal.byte_of-spare-requires-clause-digits
byte_of-spare-requires-clause-digits c = pass_where_none_fails is_digit c.args.text.now
    (sym c.in_default.ensures)

pub returns : goal.returns
returns c =
    let text = c.args.text.now in
    let digits = pass_where_none_fails is_digit text (sym c.in_default.ensures) in
    sym (no_fault_in_text text c.args.n
    (small_text text c.args.n (sym c.if-text_len-text.false ∙ c.text_len.ensures) digits
    (sym c.byte_of-spare.ensures ∙ c.if-spare-ne0.false)))
