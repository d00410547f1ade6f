-- The paths that a scanner looks for, and the bytes that it was fed.
use Rattle.std.specs.Prelude.{List, [], ◌∷◌, ◌++◌}
use Rattle.nix_names.specs.Bytes.{Bytes, Path}

-- The permitted paths, the lists of bytes that a cut ended, and the list that goes on.
pub record Feed : Type 0 where
  pub permitted : List Path
  pub ended : List Bytes
  pub present : Bytes

-- the lists of bytes, the present one last
abbrev pub lists_of : Feed → List Bytes
lists_of feed = feed.ended ++ feed.present ∷ []
