use Rattle.std.proofs.Common.{◌+◌, ◌*◌, ◌/◌, ◌%◌, arith}
use Rattle.nix_names.proofs.Base32Bits.{byte_of_digits}
use Rattle.nix_names.proofs.Base32Reading.{digits_in, digits_in_below}
use Rattle.nix_names.proofs.base32.byte_of.Goals as goal

pub returns : goal.returns
returns c =
    let text = c.args.text.now in
    let bit = c.args.at % 5 * 8 in
    let e = byte_of_digits (digits_in text) c.args.at (c.args.at / 5 * 8 + bit / 5) (bit % 5)
    (digits_in_below text c.requires.digits) (omega arith) (omega arith) in
    cc
