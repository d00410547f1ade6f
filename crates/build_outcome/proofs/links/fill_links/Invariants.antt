-- The links of the outputs so far stand there.
use Rattle.build_outcome.specs.private.Linking.{AreLinks}
use Rattle.build_outcome.proofs.links.fill_links.Given as goal

abbrev pub invariant-loop-n : goal.invariant-loop-n
invariant-loop-n l = AreLinks l.outputs l.records l.paths.keys l.n l.links.items
