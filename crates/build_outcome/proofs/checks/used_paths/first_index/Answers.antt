use Rattle.std.proofs.Common.{sym}
use Rattle.build_outcome.proofs.RisingIndices.{first_told, nothing_there}
use Rattle.build_outcome.proofs.checks.used_paths.first_index.Goals as goal

pub returns-in-Some : goal.returns-in-Some
returns-in-Some c = first_told _ _ _ _ c.requires.permitted c.requires.paths
    (sym c.in-Some.ensures.value) c.index_among.ensures

pub returns-in-None : goal.returns-in-None
returns-in-None c = nothing_there _ (sym c.in-None.ensures.value)
