-- *Tokens*: how Nix cuts the value of an attribute into words (Nix 2.8, `tokenizeString`).
use Rattle.std.specs.Prelude.{◌||◌, ◌==◌, not, Bool, ℕ, List, filter, length}
use Rattle.std.specs.List.{slice_split}
use Rattle.nix_names.specs.Bytes.{Bytes}

-- whether a byte is white space: a space, a tab, the end of a line, or a carriage return
abbrev pub is_space : ℕ → Bool
is_space byte = ((byte == 32 || byte == 9) || byte == 10) || byte == 13

-- the tokens of a text: its longest runs of bytes that aren't white space
abbrev pub tokens : Bytes → List Bytes
tokens text = filter (λ token. not (length token == 0)) (slice_split is_space text)
