-- The canonical form of what outputs have under `nix`.
use Rattle.std.specs.Prelude.{◌≡◌, ℕ}
use Rattle.process_build.specs.private.Answers.{IsExecutable}

-- the canonical mode of a file or a folder, by the mode that it had: everybody may read it, and
-- execute it where its owner might
abbrev pub IsCanonicalOf : (mode canonical : ℕ) → Type 0
IsCanonicalOf mode canonical =
    (IsExecutable mode → canonical ≡ 0o555) × (¬ (IsExecutable mode) → canonical ≡ 0o444)
