use Rattle.std.proofs.Common.{arith, [], ◌-◌, suc}
use Rattle.std.proofs.lemmas.Result.{on_ok_weaker}
use Rattle.nix_archive.specs.Rests.{reader_rest}
use Rattle.nix_archive.specs.private.Takes.{outer_rest}
use Rattle.nix_archive.proofs.Rests.{step_to, steps, same_both}
use Rattle.nix_archive.proofs.Ends.{file_begin, same_left, unfixed}
use Rattle.nix_archive.proofs.reader.ArchiveReader.begin_file.Goals as goal

pub returns-then-size-eq0 : goal.returns-then-size-eq0
returns-then-size-eq0 g c =
    on_ok_weaker _ (λ h. steps _ g.met.H.Hear.joins [] []
    (step_to _ (same_left c.args.size c.args.size 0 (outer_rest c.args.self.now) c.if-size-eq0.true)
    (file_begin _ c.args.executable c.args.size (outer_rest c.args.self.now) c.in_ok-hear.ensures))
    h)
    c.end_file.ensures

pub returns : goal.returns
unfolding reader_rest
returns g c =
    step_to _ (same_both
    (same_left c.args.size c.args.size (suc (c.args.size - 1)) (outer_rest c.args.self.now)
    (omega arith))
    (unfixed c.args.self.now.zeros c.args.self.now.text.now _ c.requires.zeros c.requires.text))
    (file_begin _ c.args.executable c.args.size (outer_rest c.args.self.now) c.in_ok-hear.ensures)
