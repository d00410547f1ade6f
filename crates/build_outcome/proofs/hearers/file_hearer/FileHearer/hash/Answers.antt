use Rattle.std.proofs.Common.{ap}
use Rattle.build_outcome.proofs.HeardFiles.{piece_hashed_if, piece_passed}
use Rattle.build_outcome.proofs.hearers.file_hearer.FileHearer.hash.Goals as goal

pub returns-then-self : goal.returns-then-self
returns-then-self c = piece_passed c.args.self.now c.args.bytes.now c.if-self.true

pub returns : goal.returns
returns c =
    piece_hashed_if c.args.self.now c.hash_in.new.sink c.args.bytes.now c.hash_in.result
    c.hash_in.ensures
