use Rattle.nix_drv.proofs.CheckedTexts.{check_ends, own_path_by_digest}
use Rattle.nix_drv.proofs.check.check_digested_text.Goals as goal

pub returns : goal.returns
returns c =
    let read = c.in_ok-text.ensures.ok in
    check_ends _ _ _ _ _ _ c.at_own_path.result read.0 read.1 c.name.ensures.value
    (own_path_by_digest _ _ _ _ _ _ _ _ read.2 c.deref.ensures.value c.requires c.in_ok-own.ensures)
    c.at_own_path.ensures.ok c.at_own_path.ensures.err
