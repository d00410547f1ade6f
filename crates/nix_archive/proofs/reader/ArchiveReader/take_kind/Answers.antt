use Rattle.std.proofs.Common.{arith, ◌∷◌}
use Rattle.nix_archive.specs.Archive.{padding, size_text, str}
use Rattle.nix_archive.specs.declared.mode.Mode.TheVariants.{Kind}
use Rattle.nix_archive.specs.Rests.{reader_rest}
use Rattle.nix_archive.specs.Parts.{names_of}
use Rattle.nix_archive.specs.private.Takes.{outer_rest}
use Rattle.nix_archive.proofs.Rests.{step_from}
use Rattle.nix_archive.proofs.Turns.{kind_nine, kind_no, kind_seven, pushed, same_mode, same_opened}
use Rattle.nix_archive.proofs.reader.ArchiveReader.take_kind.Goals as goal

pub returns-in-7 : goal.returns-in-7
unfolding reader_rest str size_text padding
returns-in-7 g c =
    rw c.in-7.is (step_from _ (same_mode _ Kind _ _ c.requires.kind)
    (kind_seven _ (outer_rest c.args.self.now) c.args.self.now.zeros c.requires.zeros _
    (g.met.H.Hear.silence _)))

pub returns-in_ok-hear-in-9 : goal.returns-in_ok-hear-in-9
unfolding reader_rest str size_text padding
returns-in_ok-hear-in-9 g c =
    rw c.in-9.is (step_from _ (same_mode _ Kind _ _ c.requires.kind)
    (kind_nine _ (outer_rest c.args.self.now) c.args.self.now.zeros c.requires.zeros _ _ _
    c.in_ok-hear-in-9.ensures
    (same_opened (names_of c.args.self.now.folders.items) _ c.args.self.now.seen.items _
    (pushed _ _ _ c.in_ok-push-in-9.ensures.items) c.new.ensures.items)))

pub returns-in_default : goal.returns-in_default
returns-in_default g c = λ ts u h.
    kind_no g.H.Hear.heard (outer_rest c.args.self.now) c.args.self.now.zeros c.requires.zeros
    c.args.byte
    (omega arith) (omega arith) ts u ((same_mode _ Kind c.args.self.now.seen.items
    (names_of c.args.self.now.folders.items) c.requires.kind).to ts (c.args.byte ∷ u) h)
