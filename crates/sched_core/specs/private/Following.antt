-- What is left of a list of paths once its first ones are taken off.
use Rattle.std.specs.Prelude.{◌≡◌, ◌++◌, List, Option, MatchOption}
use Rattle.std.specs.Borrow.{Bor}
use Rattle.nix_names.specs.Bytes.{Path}

-- `left` is the rest of `paths` after `start`, or none where `paths` doesn't begin with `start`
abbrev pub IsRest : (paths start : List Path) → Option (Bor (List Path)) → Type 0
IsRest paths start left = MatchOption left ((rest : List Path) → paths ≡ start ++ rest → ⊥)
    (λ (rest : Bor (List Path)). paths ≡ start ++ rest.now)
