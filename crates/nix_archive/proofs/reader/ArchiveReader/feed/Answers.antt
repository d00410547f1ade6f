use Rattle.nix_archive.specs.private.Takes.{IsTakenOf}
use Rattle.std.proofs.lemmas.List.{take_rest}
use Rattle.std.proofs.Common.{arith, subst, take}
use Rattle.nix_archive.proofs.Opens.{begun_by, open_reader}
use Rattle.nix_archive.specs.Rests.{reader_rest}
use Rattle.nix_archive.proofs.Wholes.{fed_no, fed_on, fed_within}
use Rattle.nix_archive.proofs.reader.ArchiveReader.feed.Goals as goal

pub returns-then-count-eq0 : goal.returns-then-count-eq0
returns-then-count-eq0 g c = (
  omega arith,
  begun_by g.H.Hear.heard c.args.hearer.now c.bytes.hearer (reader_rest c.args.self.now)
      (reader_rest c.bytes.self) (take c.bytes.done c.args.piece.now) c.bytes.invariant.read
      (open_reader c.bytes.self),
  fed_no g.H.Hear.heard c.args.hearer.now c.bytes.hearer c.take.new.hearer
      (reader_rest c.args.self.now)
      (reader_rest c.bytes.self) (reader_rest c.take.new.self) c.args.piece.now c.bytes.done
      c.in_ok-count.count (omega arith) c.bytes.invariant.read
      (subst (λ l. IsTakenOf g.H.Hear.heard c.bytes.hearer c.take.new.hearer
      (reader_rest c.bytes.self) (reader_rest c.take.new.self) l c.in_ok-count.count)
      (take_rest c.args.piece.now c.bytes.done) c.in_ok-count.ensures),
)

pub bytes-preserved : goal.bytes-preserved
bytes-preserved g c = record {
  within = fed_within g.H.Hear.heard c.bytes.hearer c.take.new.hearer (reader_rest c.bytes.self)
      (reader_rest c.take.new.self)
      c.args.piece.now c.bytes.done c.in_ok-count.count (omega arith)
      (subst (λ l. IsTakenOf g.H.Hear.heard c.bytes.hearer c.take.new.hearer
      (reader_rest c.bytes.self) (reader_rest c.take.new.self) l c.in_ok-count.count)
      (take_rest c.args.piece.now c.bytes.done) c.in_ok-count.ensures);
  read = fed_on g.H.Hear.heard g.met.H.Hear.joins c.args.hearer.now c.bytes.hearer c.take.new.hearer
      (reader_rest c.args.self.now)
      (reader_rest c.bytes.self) (reader_rest c.take.new.self) c.args.piece.now c.bytes.done
      c.in_ok-count.count (omega arith) c.bytes.invariant.read
      (subst (λ l. IsTakenOf g.H.Hear.heard c.bytes.hearer c.take.new.hearer
      (reader_rest c.bytes.self) (reader_rest c.take.new.self) l c.in_ok-count.count)
      (take_rest c.args.piece.now c.bytes.done) c.in_ok-count.ensures);
}
