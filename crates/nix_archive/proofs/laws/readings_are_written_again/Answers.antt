use Rattle.std.proofs.Common.{◌≡◌, ◌∙◌, ◌++◌, [], ap, sym, subst, append-nil}
use Rattle.nix_archive.specs.Archive.{magic, nar}
use Rattle.nix_archive.proofs.Rests.{steps}
use Rattle.nix_archive.proofs.Texts.{text_of_tree}
use Rattle.nix_archive.proofs.laws.readings_are_written_again.Goals as goal

pub returns : goal.returns
returns g c = record {
  join = λ r s t before between after first second h k.
      steps g.H.Hear.heard g.met.H.Hear.joins first second h k;
  whole = λ r s before after read same step done.
      let p = same.to (step.said ++ []) (read ++ []) (step.sound [] [] done) in
      let archive : read ≡ nar p.tree = sym (append-nil read) ∙ p.read in record {
        tree = p.tree;
        archivable = p.archivable;
        hears = subst (λ l. g.H.Hear.heard before l after) (sym (append-nil step.said) ∙ p.said)
            step.hears;
        archive = archive;
        again = ap (λ l. magic ++ l) (text_of_tree p.tree) ∙ sym archive;
      };
}
