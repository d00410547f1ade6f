-- The first element of a list that has a property.
use Rattle.std.specs.Prelude.{◌≡◌, List, ◌∷◌, ◌++◌, All}

-- An element is the first of some of its kind: all before it are of another kind.
pub record IsFirst {X : Type 0} (Other Kind : X → Type 0) (list : List X) (x : X) : Type 0 where
  pub before : List X
  pub after : List X
  pub parts : list ≡ before ++ x ∷ after
  pub others : All Other before
  pub is : Kind x

-- an element is the first of a list for which something holds
abbrev pub IsFirstWhere : {X : Type 0} (Holds : X → Type 0) → List X → X → Type 0
IsFirstWhere Holds list x = IsFirst (λ y. Holds y → ⊥) Holds list x
