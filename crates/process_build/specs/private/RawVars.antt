-- The entries of an environment before their placeholders are replaced, as the program holds them.
use Rattle.nix_drv.specs.Derivation.{EnvEntry}
use Rattle.process_build.specs.Setups.{entry, raw_bytes}
use Rattle.process_build.specs.declared.process.entries.EnvVar.{EnvVar}
use Rattle.process_build.specs.declared.process.entries.RawVar.{RawVar}

-- the entry of a variable whose texts are known beforehand
abbrev pub entry_of_setting : EnvVar → EnvEntry
entry_of_setting s = entry s.key.now s.value.now

-- the entry of a variable
abbrev pub entry_of_raw : RawVar → EnvEntry
entry_of_raw var = entry (raw_bytes var.key) (raw_bytes var.value)
