use Rattle.std.proofs.Common.{arith, ◌∙◌, length, ap, sym}
use Rattle.nix_archive.specs.Rests.{reader_rest}
use Rattle.nix_archive.specs.Parts.{names_of}
use Rattle.nix_archive.proofs.Ends.{none_of}
use Rattle.nix_archive.proofs.Wholes.{at_end, ended_at}
use Rattle.nix_archive.proofs.reader.ArchiveReader.is_done.Goals as goal

pub returns-then-self-ne0 : goal.returns-then-self-ne0
unfolding reader_rest
returns-then-self-ne0 c = (
  λ e. absurd cc,
  λ h. let n = (ended_at c.args.self.now.zeros c.args.self.now.text.now c.args.self.now.mode
      c.args.self.now.seen.items
      (names_of c.args.self.now.folders.items) h).0 in absurd (omega arith),
)

pub returns-then-self-ne0-2 : goal.returns-then-self-ne0-2
unfolding reader_rest
returns-then-self-ne0-2 c = (
  λ e. absurd cc,
  λ h. let n = ap length (ended_at c.args.self.now.zeros c.args.self.now.text.now
      c.args.self.now.mode c.args.self.now.seen.items
      (names_of c.args.self.now.folders.items) h).1 in absurd (omega arith),
)

pub returns : goal.returns
unfolding reader_rest
returns c = (
  λ e. at_end c.args.self.now.zeros c.args.self.now.text.now c.args.self.now.mode
      c.args.self.now.seen.items
      (names_of c.args.self.now.folders.items) (omega arith)
      (none_of c.args.self.now.text.now (omega arith)) (sym c.is_end.ensures ∙ e),
  λ h. c.is_end.ensures ∙ (ended_at c.args.self.now.zeros c.args.self.now.text.now
      c.args.self.now.mode c.args.self.now.seen.items
      (names_of c.args.self.now.folders.items) h).2,
)
