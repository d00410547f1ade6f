use Rattle.std.proofs.Common.{arith, ◌∙◌}
use Rattle.std.proofs.lemmas.List.{length-set}
use Rattle.nix_names.proofs.DigestPairs.{read_all, read_more}
use Rattle.nix_names.proofs.digest.read_pairs.Goals as goal

pub loop-at-preserved : goal.loop-at-preserved
loop-at-preserved g c = record {
  long = length-set _ _ _ ∙ c.loop-at.invariant.long;
  each = read_more c.loop-at.at c.args.digits.now c.loop-at.bytes _ _
      (omega (arith, c.requires, c.loop-at.invariant.long))
      (omega (arith, c.loop-at.invariant.long, c.loop-at-test.true)) c.nibble.ensures.value
      c.nibble-in-loop-at.ensures.value c.loop-at.invariant.each;
}

pub returns : goal.returns
returns g c =
    λ bytes each same.
    read_all g.row.N c.args.digits.now c.loop-at.bytes c.requires c.loop-at.invariant.long
    (λ all k_each k_same k below.
    c.loop-at.invariant.each all k_each k_same k (omega (arith, c.loop-at-test.false))) bytes each
    same
