-- How the fields of a reader fit one another.
use Rattle.std.specs.Prelude.{drop, ◌≡◌, ◌≢◌, ◌<◌, ◌≤◌, ◌-◌, ◌^◌, ℕ, true, Option, Some, None, List, [], ◌∷◌, ◌++◌, length}
use Rattle.std.specs.List.{list_all}
use Rattle.std.proofs.Math.ListN.{replicate}
use Rattle.std.proofs.Props.{props}
use Rattle.nix_archive.specs.Trees.{AreBytes, Bytes, IsAfter, is_name_byte}
use Rattle.nix_archive.specs.declared.mode.Mode.{Mode}
use Rattle.nix_archive.specs.declared.mode.Mode.TheVariants.{Kind, Letter, Mark, More, Size, Contents, Name, Target, End}
use Rattle.nix_archive.specs.declared.mode.Tie.{Tie}
use Rattle.nix_archive.specs.declared.mode.Tie.TheVariants.{Free, Tied}
use Rattle.nix_archive.specs.declared.mode.What.TheVariants.{File as OfFile, Target as OfTarget, Name as OfName}

-- some bytes of a length come after others
abbrev pub IsPassed : (before : Bytes) (size : ℕ) → Type 0
IsPassed before size = IsAfter before (replicate size 255)

-- no bytes of a length come after others
abbrev pub IsBar : (before : Bytes) (size : ℕ) → Type 0
IsBar before size = (bytes : Bytes) → length bytes ≡ size → AreBytes bytes → IsAfter before bytes
    → ⊥

-- names of a length that come after another share at most so many bytes with it, and may do so
abbrev pub MayShare : (most size : ℕ) (before : Bytes) → Type 0
MayShare most size before = (shared rest : Bytes) → before ≡ shared ++ rest → length shared ≤ size
    → (length shared ≤ most → IsPassed rest (size - length shared))
    × (most < length shared → IsBar rest (size - length shared))

-- how many bytes names of a length share at most with another that they come after, if one does
abbrev pub IsMost : (size : ℕ) (before : Bytes) → Option ℕ → Type 0
IsMost size before (Some most) = MayShare most size before
IsMost size before None = IsBar before size

-- what is known of a name of a length by its first bytes
abbrev pub IsTied : Tie → (size : ℕ) (seen before : Bytes) → Type 0
IsTied Free size seen before = (more : Bytes) → IsAfter before (seen ++ more)
IsTied (Tied most) size seen before = (before ≡ seen ++ drop (length seen) before)
    × (length seen ≤ most) × MayShare most size before

-- what is known of a name of a length by its first bytes; no such name comes after the other where
-- nothing is known
abbrev pub IsTiedOn : (size : ℕ) (seen before : Bytes) → Option Tie → Type 0
IsTiedOn size seen before (Some tie) = IsTied tie size seen before
IsTiedOn size seen before None = (more : Bytes) → length (seen ++ more) ≡ size → AreBytes more
    → IsAfter before (seen ++ more) → ⊥

-- what a mode needs of the bytes seen and of the names of the open entries
abbrev pub IsFit : Mode → (seen : Bytes) (outer : List Bytes) → Type 0
IsFit More seen outer = outer ≢ []
IsFit (Size (OfFile executable)) seen outer = length seen < 8
IsFit (Size OfTarget) seen outer = length seen < 8
IsFit (Size OfName) seen outer = (length seen < 8) × (outer ≢ [])
IsFit (Target size) seen outer = length seen < size
IsFit (Name size tie) seen [] = ⊥
IsFit (Name size tie) seen (before ∷ outer) = (length seen < size) × (size < 2 ^ 64)
    × (list_all is_name_byte seen ≡ true) × IsTied tie size seen before
IsFit _ seen outer = Unit {0}

-- each is some bytes that lie in memory
abbrev pub AreHeld : List Bytes → Type 0
AreHeld [] = Unit {0}
AreHeld (name ∷ outer) = AreBytes name × (length name < 2 ^ 63) × AreHeld outer

-- The mode, the bytes seen and the names of the open entries fit one another.
pub record IsReady (mode : Mode) (seen : Bytes) (outer : List Bytes) : Type 0 where
  pub are_bytes : AreBytes seen
  pub held : AreHeld outer
  pub fit : IsFit mode seen outer

-- each of these facts has one proof
tied_one : (tie : Tie) (size : ℕ) (seen before : Bytes) → IsProp (IsTied tie size seen before)
tied_one Free size seen before = hlevel props
tied_one (Tied most) size seen before = hlevel props

fit_one : (mode : Mode) (seen : Bytes) (outer : List Bytes) → IsProp (IsFit mode seen outer)
fit_one Kind seen outer = hlevel props
fit_one Letter seen outer = hlevel props
fit_one Mark seen outer = hlevel props
fit_one More seen outer = hlevel props
fit_one (Size (OfFile executable)) seen outer = hlevel props
fit_one (Size OfTarget) seen outer = hlevel props
fit_one (Size OfName) seen outer = hlevel props
fit_one (Contents size more) seen outer = hlevel props
fit_one (Target size) seen outer = hlevel props
fit_one (Name size tie) seen [] = hlevel props
fit_one (Name size tie) seen (before ∷ outer) = hlevel (props, tied_one)
fit_one End seen outer = hlevel props

held_one : (names : List Bytes) → IsProp (AreHeld names)
held_one [] = hlevel props
held_one (name ∷ outer) = hlevel (props, held_one outer)

pub ready_one : (mode : Mode) (seen : Bytes) (outer : List Bytes)
    → IsProp (IsReady mode seen outer)
ready_one mode seen outer = hlevel (props, fit_one mode seen outer, held_one outer)
