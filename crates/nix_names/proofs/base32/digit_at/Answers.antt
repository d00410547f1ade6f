use Rattle.std.proofs.Common.{◌+◌, ◌*◌, ◌/◌, ◌%◌, ◌<◌, arith}
use Rattle.std.specs.List.{All}
use Rattle.nix_names.proofs.Base32Bits.{digit_of_bytes, bytes_below}
use Rattle.nix_names.proofs.base32.digit_at.Goals as goal

pub returns : goal.returns
returns c =
    let bit = c.args.index % 8 * 5 in
    let below : All (λ b. b < 256) c.args.bytes.now = bytes_below c.args.bytes.now c.type_inv.bytes
    in
    let e = digit_of_bytes c.args.bytes.now c.args.index (c.args.index / 8 * 5 + bit / 8) (bit % 8)
    below (omega arith) (omega arith) in
    cc
