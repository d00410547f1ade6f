use Rattle.nix_drv.specs.Parts.{output_of}
use Rattle.nix_drv.proofs.FormTexts.{added_last, output_written}
use Rattle.nix_drv.proofs.forms.OutputElement.write.Goals as goal

pub returns : goal.returns
returns c =
    added_last _ c.write_strs_after-2.new.out.items
    _ _ _
    (output_written (output_of c.args.self.now) _
    _ _
    (rw (c.deref.ensures.value, c.deref-2.ensures.value) at c.in_ok-write_strs_after.ensures)
    (rw (c.deref-3.ensures.value, c.deref-4.ensures.value) at
    c.in_ok-write_strs_after-2.ensures))
    c.extend_from_slice.ensures.items
