use Rattle.std.proofs.lemmas.Result.{on_ok_weaker}
use Rattle.ref_scan.proofs.tree_archive.node.tell_bytes.Goals as goal

pub returns-clause-heard : goal.returns-clause-heard
returns-clause-heard g c =
    let joins = g.met.H.Hear.joins in
    on_ok_weaker _
    (λ h. joins _ _ _ _ _ c.in_ok-hear.ensures (joins _ _ _ _ _ c.in_ok-hear-2.ensures h))
    c.hear-3.ensures
