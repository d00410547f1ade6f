use Rattle.std.proofs.Common.{◌++◌, append_assoc, subst, sym, take, ◌+◌}
use Rattle.nix_archive.specs.Reading.{IsArchive}
use Rattle.nix_archive.specs.Rests.{reader_rest}
use Rattle.nix_archive.proofs.Opens.{begun_by, open_reader}
use Rattle.nix_archive.proofs.Rests.{step_from}
use Rattle.nix_archive.proofs.Wholes.{same_back}
use Rattle.nix_archive.proofs.laws.faults_come_first.Goals as goal

pub returns : goal.returns
returns g c = record {
  begun = λ r s before after read same step.
      begun_by g.H.Hear.heard before after IsArchive (reader_rest s) read
      (step_from g.H.Hear.heard (same_back same) step) (open_reader s);
  first = λ r s t before between after read piece offset same step fed. (
    record {
      tokens = step.said ++ fed.1.tokens;
      rest = fed.1.rest;
      follows = subst (IsArchive (step.said ++ fed.1.tokens))
          (sym (append_assoc read (take offset piece) fed.1.rest))
          (same.to (step.said ++ fed.1.tokens) (read ++ (take offset piece ++ fed.1.rest))
          (step.sound fed.1.tokens (take offset piece ++ fed.1.rest) fed.1.follows));
    },
    λ ts u h.
        let one = take (offset + 1) piece in
        let later = step.complete ts (one ++ u) (same.from ts (read ++ (one ++ u))
        (subst (IsArchive ts) (append_assoc read one u) h)) in
        fed.2 later.0 u later.1,
  );
}
