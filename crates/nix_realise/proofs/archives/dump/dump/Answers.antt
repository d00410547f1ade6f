use Rattle.std.proofs.Common.{◌≡◌, Ok, false, refl, rules, subst, true}
use Rattle.nix_realise.specs.ArchiveEndings.{DumpEnds}
use Rattle.nix_realise.specs.declared.cli.exit.Status.TheVariants.{Done}
use Rattle.nix_realise.proofs.HeardArchives.{dumped}
use Rattle.nix_realise.proofs.archives.dump.dump.Goals as goal

pub returns-in-Ok : goal.returns-in-Ok
returns-in-Ok g c =
    let there : c.in-Ok-true.field-0 ≡ true = search rules in
    let told = rw there at c.in-Ok-true.ensures in
    let fine : c.tell_path.new.hearer.sink.refused ≡ false = search rules in
    let ends : DumpEnds c.args.request.now (g.O.Write.contents c.args.out.now)
    (g.O.Write.contents c.flush.new.self) (Ok Done) = (
      refl,
      dumped g.O.Write.contents c.new.result c.in_ok-writer.writer.sink
          c.tell_path.new.hearer.sink told.tree _ _ told.archivable c.new.ensures.out
          c.in_ok-writer.ensures told.hears fine c.flush.ensures.bytes,
    ) in
    subst
    (λ o. DumpEnds c.args.request.now (g.O.Write.contents c.args.out.now)
    (g.O.Write.contents o) (Ok Done))
    (search rules) ends
