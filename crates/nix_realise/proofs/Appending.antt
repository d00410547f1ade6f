-- Bytes that are written in two steps.
use Rattle.std.proofs.Common.{◌∙◌, ◌++◌, ap, append_assoc, ℕ, List, Option, Some, None, Result, Ok, Err}
use Rattle.std.specs.Prelude.{OnOk}
use Rattle.std.specs.Io.KnownBytes.{Appends}

pub appends_both : (before mid after : Option (List ℕ)) (xs ys : List ℕ)
    → Appends before mid xs → Appends mid after ys → Appends before after (xs ++ ys)
appends_both None mid after xs ys first second = tt
appends_both (Some a) None after xs ys first second = absurd first
appends_both (Some a) (Some b) None xs ys first second = absurd second
appends_both (Some a) (Some b) (Some c) xs ys first second =
    second ∙ ap (λ (l : List ℕ). l ++ ys) first ∙ append_assoc a xs ys

-- two steps append both texts, where the second may fail
pub appends_last : (T E : Type 0) (r : Result T E) (before mid after : Option (List ℕ))
    (xs ys : List ℕ)
    → Appends before mid xs → OnOk r (Appends mid after ys)
    → OnOk r (Appends before after (xs ++ ys))
appends_last T E (Ok done) before mid after xs ys first second =
    appends_both before mid after xs ys first second
appends_last T E (Err error) before mid after xs ys first second = tt
