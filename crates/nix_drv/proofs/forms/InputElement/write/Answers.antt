use Rattle.nix_drv.specs.Parts.{input_of}
use Rattle.nix_drv.proofs.FormTexts.{added_last, input_written}
use Rattle.nix_drv.proofs.forms.InputElement.write.Goals as goal

pub returns : goal.returns
returns c =
    added_last _ c.write_list_after.new.out.items
    _ _ _
    (input_written (input_of c.args.self.now) _ _
    _
    (rw c.deref.ensures.value at c.in_ok-write_str_after.ensures)
    (rw c.deref-2.ensures.value at c.in_ok-write_list_after.ensures))
    c.extend_from_slice.ensures.items
