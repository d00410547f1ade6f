use Rattle.nix_realise.proofs.words.fault_words.write_drv_fault.Goals as goal

pub returns-in-TextPathMismatch : goal.returns-in-TextPathMismatch
returns-in-TextPathMismatch c =
    rw (c.in-TextPathMismatch.is, ← c.text.ensures.value) c.write_with_value.ensures
