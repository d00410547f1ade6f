-- Lists of texts that rise strictly by bytes, as the references of a store path do.
use Rattle.std.specs.Prelude.{◌≡◌, List, [], ◌∷◌}
use Rattle.std.specs.Cmp.Lexicographic.{slice_cmp}
use Rattle.std.specs.Ordering.{nat_cmp}
use Rattle.std.specs.declared.cmp.Ordering.TheVariants.{Less}
use Rattle.nix_names.specs.Bytes.{Bytes}

-- each text is less than the next one, by bytes
abbrev pub IsRising : List Bytes → Type 0
IsRising [] = Unit {0}
IsRising (x ∷ []) = Unit {0}
IsRising (x ∷ y ∷ ys) = (slice_cmp nat_cmp x y ≡ Less) × IsRising (y ∷ ys)
