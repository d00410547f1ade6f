use Rattle.process_build.proofs.Under.{file_under}
use Rattle.process_build.proofs.walk.tree_walk.Walk.tell_file_at.Goals as goal

pub returns-clause-told : goal.returns-clause-told
returns-clause-told g c =
    file_under _ g.met.H.Hear.joins _ _ _ _ _ _ _ c.requires c.in_ok-tell_file.ensures.told
