use Rattle.std.proofs.Common.{arith}
use Rattle.std.proofs.lemmas.List.FromFn.{fill_by_all}
use Rattle.nix_names.specs.StorePaths.{fold, folded_at}
use Rattle.nix_names.proofs.PathDigests.{folded_past}
use Rattle.nix_names.proofs.making.fold20.Goals as goal

pub returns : goal.returns
unfolding fold
returns c =
    fill_by_all (λ j. folded_at j 0 c.args.digest.now) c.loop-i.folded 20 0 c.loop-i.invariant.long
    (λ j below. folded_past _ j c.loop-i.i c.args.digest.now (omega arith)
    (c.loop-i.invariant.each j below))
