use Rattle.std.proofs.Common.{length, take, ◌-◌, ◌≤◌}
use Rattle.nix_archive.specs.Rests.{reader_rest}
use Rattle.nix_archive.specs.Reading.{IsStep}
use Rattle.nix_archive.proofs.reader.ArchiveReader.feed.Given as goal

abbrev pub decreases-bytes : goal.decreases-bytes
decreases-bytes g l = length l.initial.piece - l.done

abbrev pub invariant-bytes : goal.invariant-bytes
invariant-bytes g l = record {
  within : l.done ≤ length l.piece;
  read : IsStep g.H.Hear.heard l.fn.hearer l.hearer (reader_rest l.fn.self) (reader_rest l.self)
      (take l.done l.piece);
}
