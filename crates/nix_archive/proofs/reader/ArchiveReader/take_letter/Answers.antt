use Rattle.nix_archive.specs.Archive.{padding, size_text, str}
use Rattle.nix_archive.specs.declared.mode.Mode.TheVariants.{Letter}
use Rattle.nix_archive.specs.Rests.{reader_rest}
use Rattle.nix_archive.specs.private.Takes.{outer_rest}
use Rattle.nix_archive.proofs.Rests.{step_from}
use Rattle.nix_archive.proofs.Turns.{letter_r, letter_s, same_mode}
use Rattle.nix_archive.proofs.reader.ArchiveReader.take_letter.Goals as goal

pub returns-in-114 : goal.returns-in-114
unfolding reader_rest str size_text padding
returns-in-114 c =
    rw c.in-114.is (step_from _ (same_mode _ Letter _ _ c.requires.letter)
    (letter_r (outer_rest c.args.self.now) c.args.self.now.zeros c.requires.zeros))

pub returns-in-115 : goal.returns-in-115
unfolding reader_rest str size_text padding
returns-in-115 c =
    rw c.in-115.is (step_from _ (same_mode _ Letter _ _ c.requires.letter)
    (letter_s (outer_rest c.args.self.now) c.args.self.now.zeros c.requires.zeros _
    c.clear.ensures.items))
