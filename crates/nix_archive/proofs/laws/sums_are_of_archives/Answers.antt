use Rattle.std.proofs.Common.{[], ◌≡◌, ◌++◌, arith, ap, subst}
use Rattle.nix_archive.specs.Archive.{magic, nar}
use Rattle.nix_archive.specs.Sums.{IsSum}
use Rattle.nix_archive.specs.private.SumLaws.{summed_both}
use Rattle.nix_archive.specs.Texts.{text_of}
use Rattle.nix_archive.specs.Tokens.{tokens_of}
use Rattle.nix_archive.proofs.Texts.{text_of_tree}
use Rattle.nix_archive.proofs.laws.sums_are_of_archives.Goals as goal

pub returns : goal.returns
returns g c = λ tree first begun last hasher middle hashes fresh head body.
    let text = text_of (tokens_of tree) in
    let is : magic ++ text ≡ nar tree = ap (λ l. magic ++ l) (text_of_tree tree) in
    let both = summed_both g.D.Digest.holds magic text first begun last hasher middle hashes head body
    in
    let none : first ≡ 0 = omega (arith, fresh.counted) in
    subst (λ l. IsSum g.D.Digest.holds l last hashes) is record {
      counted = omega (arith, none, both.counted (omega (arith, none)));
      held = both.held [] fresh.held;
    }
