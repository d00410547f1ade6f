use Rattle.std.proofs.Common.{[], ◌∷◌, sym, subst}
use Rattle.nix_archive.specs.Rests.{reader_rest}
use Rattle.nix_archive.specs.private.Takes.{IsTaken, now_rest}
use Rattle.nix_archive.proofs.Wholes.{taken_byte, unheard}
use Rattle.nix_archive.proofs.reader.ArchiveReader.take_byte.Goals as goal

pub returns-in-Letter : goal.returns-in-Letter
returns-in-Letter g c =
    unheard g.H.Hear.heard c.args.hearer.now (now_rest c.args.self.now)
    (reader_rest c.take_letter.new.self) (c.args.byte ∷ [])
    c.take_letter.result (g.met.H.Hear.silence _) c.take_letter.ensures

pub returns-in-Mark : goal.returns-in-Mark
returns-in-Mark g c =
    unheard g.H.Hear.heard c.args.hearer.now (now_rest c.args.self.now)
    (reader_rest c.take_mark.new.self) (c.args.byte ∷ [])
    c.take_mark.result (g.met.H.Hear.silence _) c.take_mark.ensures

pub returns-in_ok-count-in-Contents : goal.returns-in_ok-count-in-Contents
returns-in_ok-count-in-Contents g c =
    subst (λ b. IsTaken g.H.Hear.heard c.args.hearer.now c.take_contents.new.hearer
    (now_rest c.args.self.now)
    (reader_rest c.take_contents.new.self) (c.args.byte ∷ []) b) (sym c.is_some_count.ensures)
    (taken_byte g.H.Hear.heard c.args.hearer.now c.take_contents.new.hearer
    (now_rest c.args.self.now)
    (reader_rest c.take_contents.new.self) c.args.byte c.in_ok-count-in-Contents.count
    c.in_ok-count-in-Contents.ensures)
