use Rattle.std.proofs.Common.{ap, ◌∙◌}
use Rattle.hex.specs.Hex.{encode_lower}
use Rattle.nix_names.proofs.DigestPairs.{no_count}
use Rattle.nix_names.proofs.Tests.{told_same}
use Rattle.nix_names.proofs.digest.decode_hex.Goals as goal

pub returns-then-digits : goal.returns-then-digits
returns-then-digits g c =
    λ bytes count each. no_count g.row.N c.args.digits.now c.if-digits.true bytes count

pub returns-then-eq : goal.returns-then-eq
returns-then-eq g c = (
  c.array_bytes.ensures.size.0,
  c.array_bytes.ensures.size.1,
  told_same _ _ (encode_lower c.read_pairs-bytes.result) c.eq.result c.eq.ensures
      (c.encode_hex.ensures ∙ ap encode_lower c.array_bytes.ensures.value) c.if-eq.true,
)
