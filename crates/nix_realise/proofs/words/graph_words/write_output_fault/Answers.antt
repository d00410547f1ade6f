use Rattle.nix_realise.proofs.words.graph_words.write_output_fault.Goals as goal

pub returns-in-UnknownOutput : goal.returns-in-UnknownOutput
returns-in-UnknownOutput c =
    rw (c.in-UnknownOutput.is, ← c.text.ensures.value, ← c.deref-in-UnknownOutput.ensures.value)
    c.write_path_and_string.ensures
