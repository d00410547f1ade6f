-- The texts of a clear grammar can be told apart.
use Rattle.std.proofs.Common.{◌≡◌, ℕ, List, [], ◌++◌, Ok, sym, ap, ◌∙◌}
use Rattle.std.proofs.lemmas.List.{append-nil}
use Rattle.nix_drv.specs.Grammar.{Grammar, IsClear}
use Rattle.nix_drv.specs.Laws.{HasOneValueEach, HasNoTextWithin}
use Rattle.nix_drv.specs.private.Reading.{read}
use Rattle.nix_drv.proofs.Exact.{read-again, read-text, value_is, rest_is}

pub one_value_each : (g : Grammar) → IsClear g → HasOneValueEach g
one_value_each g clear v w bytes is also = value_is _ _
    (sym (read-text g clear v _ is) ∙ read-text g clear w _ also)

pub no_text_within : (g : Grammar) → IsClear g → HasNoTextWithin g
no_text_within g clear v w prefix whole is also begins =
    let two : read g whole ≡ Ok (w, []) = read-text g clear w _ also in
    let one : read g whole ≡ Ok (v, begins.0) =
    ap (read g) (begins.1 ∙ ap (λ (t : List ℕ). t ++ begins.0) is)
    ∙ read-again g clear v _ in
    let none : begins.0 ≡ [] = rest_is _ _ (sym one ∙ two) in
    sym (append-nil prefix) ∙ ap (λ (t : List ℕ). prefix ++ t) (sym none) ∙ sym begins.1
