use Rattle.nix_archive.specs.Parts.{link}
use Rattle.nix_archive.specs.Rests.{reader_rest}
use Rattle.nix_archive.specs.private.Takes.{outer_rest}
use Rattle.nix_archive.proofs.Ends.{begun_string, no_string_read}
use Rattle.nix_archive.proofs.reader.ArchiveReader.begin_target.Goals as goal

pub returns-then-size-eq0 : goal.returns-then-size-eq0
returns-then-size-eq0 g c =
    no_string_read _ _ _ _ (link (outer_rest c.args.self.now)) c.args.size _ c.if-size-eq0.true
    c.end_target.ensures

pub returns : goal.returns
unfolding reader_rest
returns g c =
    begun_string _ c.args.hearer.now c.args.size c.args.self.now.zeros c.args.self.now.text.now
    c.args.self.now.seen.items (link (outer_rest c.args.self.now)) (g.met.H.Hear.silence _)
    c.requires.zeros c.requires.text c.requires.seen
