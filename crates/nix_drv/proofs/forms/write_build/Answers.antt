use Rattle.nix_drv.specs.Parts.{parts_build}
use Rattle.nix_drv.proofs.FormTexts.{added_last, build_written}
use Rattle.nix_drv.proofs.forms.write_build.Goals as goal

pub returns : goal.returns
returns c =
    let b = parts_build c.args.parts.now in
    added_last _ c.write_list_after-2.new.out.items
    _ _ _
    (build_written _ _
    _ _
    _ _ b.1.1.1.1.0 b.1.1.1.1.1.1.0
    (rw (c.deref.ensures.value, c.deref-2.ensures.value) at c.in_ok-write_strs_after.ensures)
    (rw c.deref-3.ensures.value at c.in_ok-write_list_after.ensures)
    (rw c.deref-4.ensures.value at c.in_ok-write_list_after-2.ensures))
    c.extend_from_slice.ensures.items
