use Rattle.std.proofs.lemmas.Result.{on_ok_weaker}
use Rattle.process_build.proofs.MadeTrees.{piece_taken}
use Rattle.process_build.proofs.tree_maker.maker.TreeMaker.take.Goals as goal

pub returns-in-Piece-clause-taken : goal.returns-in-Piece-clause-taken
returns-in-Piece-clause-taken g c =
    rw c.in-Piece.is (on_ok_weaker _ (piece_taken g.M.MakeParts.made _ _ _ _) c.make-in-Piece.ensures)
