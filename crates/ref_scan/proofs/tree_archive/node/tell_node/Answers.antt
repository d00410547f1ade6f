use Rattle.std.proofs.Common.{ap, false, subst, sym}
use Rattle.nix_archive.specs.Trees.{File as ArchivedFile, Link as ArchivedLink}
use Rattle.ref_scan.specs.Archives.{IsArchiveOf}
use Rattle.ref_scan.proofs.Tellings.{executable_told, folder_told, pieces_told, whole_told}
use Rattle.ref_scan.proofs.tree_archive.node.tell_node.Goals as goal

pub returns-in_ok-tell_bytes-in-File : goal.returns-in_ok-tell_bytes-in-File
returns-in_ok-tell_bytes-in-File g c =
    whole_told _ c.args.tree.now (ArchivedFile false c.deref.result.now)
    (subst (λ t. IsArchiveOf t (ArchivedFile false c.deref.result.now)) (sym c.in-File.is)
    (ap (ArchivedFile false) c.deref.ensures.value))
    c.in_ok-tell_bytes-in-File.ensures.is_string c.in_ok-tell_bytes-in-File.ensures.heard

pub returns-in_ok-told-in-Pieces : goal.returns-in_ok-told-in-Pieces
returns-in_ok-told-in-Pieces g c =
    pieces_told _ _ _ c.args.tree.now c.in-Pieces.pieces c.deref-in-Pieces.result.now _ c.in-Pieces.is
    c.deref-in-Pieces.ensures.value c.in_ok-told-in-Pieces.ensures

pub returns-in_ok-told-in-Executable : goal.returns-in_ok-told-in-Executable
returns-in_ok-told-in-Executable g c =
    executable_told _ _ _ c.args.tree.now c.in-Executable.pieces c.deref-in-Executable.result.now _
    c.in-Executable.is c.deref-in-Executable.ensures.value c.in_ok-told-in-Executable.ensures

pub returns-in_ok-tell_link-in-Link : goal.returns-in_ok-tell_link-in-Link
returns-in_ok-tell_link-in-Link g c =
    whole_told _ c.args.tree.now (ArchivedLink c.deref-in-Link.result.now)
    (subst (λ t. IsArchiveOf t (ArchivedLink c.deref-in-Link.result.now)) (sym c.in-Link.is)
    (ap ArchivedLink c.deref-in-Link.ensures.value))
    c.in_ok-tell_link-in-Link.ensures.is_string c.in_ok-tell_link-in-Link.ensures.heard

pub returns-in_ok-begun-in-Dir : goal.returns-in_ok-begun-in-Dir
returns-in_ok-begun-in-Dir g c =
    folder_told _ _ _ c.args.tree.now c.in-Dir.members c.deref-in-Dir.result.now _ c.in-Dir.is
    c.deref-in-Dir.ensures.value c.in_ok-begun-in-Dir.ensures
