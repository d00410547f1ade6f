use Rattle.std.proofs.Common.{◌∷◌, [], refl}
use Rattle.nix_drv.proofs.FormTexts.{added_last}
use Rattle.nix_drv.proofs.Spellings.{run_written, last_written}
use Rattle.nix_drv.proofs.writing.write_string.Goals as goal

pub runs-preserved : goal.runs-preserved
runs-preserved c =
    run_written _ _ _ _ _ _
    _ _ _ c.runs.invariant c.plain_len.ensures.within c.plain_len.ensures.plain
    c.split_at.ensures.front c.split_at.ensures.back c.in-len1-up.len_at_least refl
    c.in_ok-extend_from_slice-2.ensures.items c.in_ok-write_byte.ensures

pub returns : goal.returns
returns c =
    added_last _ _ _ (34 ∷ []) _
    (last_written _ _ _ _ _ _
    _ _ c.runs.invariant c.plain_len.ensures.within
    c.plain_len.ensures.plain c.split_at.ensures.front c.split_at.ensures.back
    c.in_default.len_below c.in_ok-extend_from_slice-2.ensures.items)
    c.extend_from_slice-2.ensures.items
