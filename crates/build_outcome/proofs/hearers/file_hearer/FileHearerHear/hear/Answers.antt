use Rattle.build_outcome.proofs.HeardFiles.{mark_heard}
use Rattle.build_outcome.proofs.hearers.file_hearer.FileHearerHear.hear.Goals as goal

pub returns-in-BeginFile : goal.returns-in-BeginFile
returns-in-BeginFile c =
    rw c.in-BeginFile.is (mark_heard c.args.self.now c.in-BeginFile.executable _)
