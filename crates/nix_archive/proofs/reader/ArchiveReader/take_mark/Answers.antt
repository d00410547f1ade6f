use Rattle.std.proofs.Common.{arith, ◌∷◌}
use Rattle.nix_archive.specs.Archive.{padding, size_text, str}
use Rattle.nix_archive.specs.declared.mode.Mode.TheVariants.{Mark}
use Rattle.nix_archive.specs.Rests.{reader_rest}
use Rattle.nix_archive.specs.Parts.{names_of}
use Rattle.nix_archive.specs.private.Takes.{outer_rest}
use Rattle.nix_archive.proofs.Rests.{step_from}
use Rattle.nix_archive.proofs.Turns.{mark_no, mark_not, mark_yes, same_mode}
use Rattle.nix_archive.proofs.reader.ArchiveReader.take_mark.Goals as goal

pub returns-in-10 : goal.returns-in-10
unfolding reader_rest str size_text padding
returns-in-10 c =
    rw c.in-10.is (step_from _ (same_mode _ Mark _ _ c.requires.mark)
    (mark_yes (outer_rest c.args.self.now) c.args.self.now.zeros c.requires.zeros _
    c.clear.ensures.items))

pub returns-in-8 : goal.returns-in-8
unfolding reader_rest str size_text padding
returns-in-8 c =
    rw c.in-8.is (step_from _ (same_mode _ Mark _ _ c.requires.mark)
    (mark_not (outer_rest c.args.self.now) c.args.self.now.zeros c.requires.zeros _
    c.clear.ensures.items))

pub returns-in_default : goal.returns-in_default
returns-in_default c = λ ts u h.
    mark_no (outer_rest c.args.self.now) c.args.self.now.zeros c.requires.zeros c.args.byte
    (omega arith)
    (omega arith) ts u ((same_mode _ Mark c.args.self.now.seen.items
    (names_of c.args.self.now.folders.items)
    c.requires.mark).to ts (c.args.byte ∷ u) h)
