-- The line that tells that a run waits for another one.
use Rattle.std.specs.Prelude.{◌∷◌, ◌++◌, codes}
use Rattle.nix_names.specs.Bytes.{Bytes, Dir}

-- the terminal's line is cleared and line wrapping is turned off; then the words, the store folder,
-- and what turns wrapping on again (ECMA-48, EL; DECAWM)
abbrev pub waiting_line : Dir → Bytes
waiting_line dir =
    (13 ∷ 27 ∷ codes "[K") ++ (27 ∷ codes "[?7l")
    ++ codes "nix_realise: waiting for another run in " ++ dir ++ (27 ∷ codes "[?7h")
