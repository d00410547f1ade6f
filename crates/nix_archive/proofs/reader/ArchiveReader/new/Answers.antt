use Rattle.nix_archive.specs.Parts.{Node, Outer, open_text}
use Rattle.nix_archive.specs.Reading.{IsArchive, IsSame}
use Rattle.std.proofs.Common.{[], ◌++◌, sym, subst}
use Rattle.nix_archive.specs.Archive.{magic, padding, size_text, str}
use Rattle.nix_archive.specs.Parts.{After}
use Rattle.nix_archive.specs.Rests.{reader_rest}
use Rattle.nix_archive.specs.Parts.{names_of}
use Rattle.nix_archive.proofs.Wholes.{same_start}
use Rattle.nix_archive.proofs.reader.ArchiveReader.new.Goals as goal

pub returns : goal.returns
unfolding reader_rest str size_text padding
returns c =
    subst (λ l. IsSame (After [] (After (magic ++ open_text)
    (λ ts u. Node (Outer (names_of l)) ts (open_text ++ u)))) IsArchive) (sym c.new-2.ensures.items)
    same_start
