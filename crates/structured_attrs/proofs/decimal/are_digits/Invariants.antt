use Rattle.std.proofs.Common.{◌≡◌, drop}
use Rattle.std.specs.Char.{is_ascii_digit}
use Rattle.std.specs.List.{list_all}
use Rattle.structured_attrs.proofs.decimal.are_digits.Given as goal

-- the digits that are left have the answer of all
abbrev pub invariant-digits : goal.invariant-digits
invariant-digits l = list_all is_ascii_digit (drop l.digit-index l.digits) ≡ list_all is_ascii_digit l.digits
