use Rattle.std.proofs.Common.{arith}
use Rattle.nix_names.proofs.Base32Chars.{is_digit_by_bit}
use Rattle.nix_names.proofs.base32.is_digit.Goals as goal

pub returns : goal.returns
returns c = is_digit_by_bit c.args.character (omega (arith, c.ranges.character.fits))
