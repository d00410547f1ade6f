use Rattle.nix_realise.proofs.words.fault_words.write_table_fault.Goals as goal

pub returns-in-AlreadyValid : goal.returns-in-AlreadyValid
returns-in-AlreadyValid c =
    rw (c.in-AlreadyValid.is, ← c.text-in-AlreadyValid.ensures.value)
    c.write_with_value-in-AlreadyValid.ensures
