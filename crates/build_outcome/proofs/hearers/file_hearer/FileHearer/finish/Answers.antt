use Rattle.build_outcome.proofs.HeardFiles.{digest_told, none_told, other_told}
use Rattle.build_outcome.proofs.hearers.file_hearer.FileHearer.finish.Goals as goal

pub returns-in_default : goal.returns-in_default
returns-in_default c asked start tree begun heard =
    none_told asked start c.args.self tree begun heard c.in_default.is

pub returns-then-self : goal.returns-then-self
returns-then-self c asked start tree begun heard =
    other_told asked start c.args.self tree begun heard c.if-self.true

pub returns : goal.returns
returns c asked start tree begun heard =
    digest_told asked start c.args.self tree c.in-Some.sink c.finish.result begun heard
    c.if-self.false c.in-Some.is c.finish.ensures
