use Rattle.std.proofs.Common.{take}
use Rattle.std.specs.List.{flat_map}
use Rattle.nix_archive.specs.Archive.{str}
use Rattle.nix_archive.proofs.writer.put_strs.Given as goal

abbrev pub invariant-all : goal.invariant-all
invariant-all g l =
    g.S.Sink.took l.fn.sink (flat_map (λ bytes. str bytes.now) (take l.bytes-index l.all)) l.sink
