use Rattle.nix_drv.specs.Parts.{entry_of}
use Rattle.nix_drv.proofs.FormTexts.{added_last, entry_written}
use Rattle.nix_drv.proofs.forms.EnvEntryElement.write.Goals as goal

pub returns : goal.returns
returns c =
    added_last _ c.write_strs_after.new.out.items
    _ _ _
    (entry_written (entry_of c.args.self.now) _ _
    (rw (c.deref.ensures.value, c.deref-2.ensures.value) at c.in_ok-write_strs_after.ensures))
    c.extend_from_slice.ensures.items
