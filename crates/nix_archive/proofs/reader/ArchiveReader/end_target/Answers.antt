use Rattle.std.proofs.Common.{◌∙◌, refl}
use Rattle.nix_archive.specs.Archive.{padding, size_text, str}
use Rattle.nix_archive.specs.Rests.{reader_rest}
use Rattle.nix_archive.specs.private.Takes.{outer_rest}
use Rattle.nix_archive.proofs.Ends.{target_end}
use Rattle.nix_archive.proofs.reader.ArchiveReader.end_target.Goals as goal

pub go_up-requires : goal.go_up-requires
unfolding str size_text padding
go_up-requires g c = refl

pub returns : goal.returns
unfolding reader_rest str size_text padding
returns g c =
    target_end _ c.go_up.new.self.zeros c.args.target.now (outer_rest c.args.self.now) _
    c.in_ok-hear.ensures
    (c.go_up.ensures.zeros ∙ c.padding_length-self.ensures) c.go_up.ensures.same
