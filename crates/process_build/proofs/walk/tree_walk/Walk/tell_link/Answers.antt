use Rattle.process_build.proofs.Under.{link_under}
use Rattle.process_build.proofs.walk.tree_walk.Walk.tell_link.Goals as goal

pub returns-clause-told : goal.returns-clause-told
returns-clause-told g c =
    link_under _ g.met.H.Hear.joins _ _ _ _ c.requires c.in_ok-tell_target.ensures.string
    c.in_ok-tell_target.ensures.told
