use Rattle.build_outcome.proofs.HeardFiles.{flat_told}
use Rattle.build_outcome.proofs.hearers.file_hearer.FileHearer.is_flat_file.Goals as goal

pub returns : goal.returns
returns c asked start tree begun heard =
    rw c.is_flat.ensures
    (flat_told c.args.profile asked start c.args.self.now tree begun heard)
