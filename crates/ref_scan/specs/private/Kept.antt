-- What a scanner keeps of the bytes that it was fed.
use Rattle.std.specs.Prelude.{◌-◌, length, drop}
use Rattle.nix_names.specs.Bytes.{Bytes}

-- the last 31 of some bytes, or all of fewer
abbrev pub last_bytes : Bytes → Bytes
last_bytes bytes = drop (length bytes - 31) bytes
