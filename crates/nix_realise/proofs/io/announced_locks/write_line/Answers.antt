use Rattle.std.proofs.Common.{subst}
use Rattle.std.specs.Io.KnownBytes.{Appends}
use Rattle.nix_realise.proofs.Appending.{appends_both, appends_last}
use Rattle.nix_realise.proofs.io.announced_locks.write_line.Goals as goal

pub returns : goal.returns
returns g c =
    let dir =
    subst (Appends (g.W.Write.contents c.write_all.new.self)
    (g.W.Write.contents c.write_all-2.new.self))
    c.as_bytes.ensures.value c.in_ok-write_all-2.ensures.bytes in
    appends_last _ _ c.write_all-3.result _ _ _ _ _
    (appends_both _ _ _ _ _ c.in_ok-write_all.ensures.bytes dir) c.write_all-3.ensures.bytes
