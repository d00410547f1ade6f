use Rattle.std.proofs.Common.{◌∙◌, ◌≢◌, ◌++◌, ◌∷◌, [], ℕ, List, append-nil, false, inl, inr, sym, true}
use Rattle.std.proofs.lemmas.Bool.{false≢true}
use Rattle.nix_realise.specs.Tools.{IsWithin}
use Rattle.nix_realise.proofs.io.build_dir.is_within.Goals as goal

-- a path that does not begin with a folder does not lie there
outside : (folder path : List ℕ) → ((rest : List ℕ) → path ≢ folder ++ rest)
    → IsWithin folder path → ⊥
outside folder path none (inl same) = none [] (same ∙ sym (append-nil folder))
outside folder path none (inr below) = none (47 ∷ below.0) below.1

pub returns-in-None : goal.returns-in-None
returns-in-None c = (
  λ yes. absurd (false≢true yes),
  λ within. absurd (outside c.args.folder.now c.args.path.now c.in-None.ensures.cases within),
)
