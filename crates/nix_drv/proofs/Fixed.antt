-- Fixed bytes are read exactly.
use Rattle.std.proofs.Common.{◌≡◌, ℕ, ◌≤◌, true, eqb, List, [], ◌∷◌, ◌++◌, length, Result, Ok, Err, refl, ap, rules}
use Rattle.std.proofs.lemmas.Bool.{eqb-true, eq-eqb, cond_both}
use Rattle.nix_drv.specs.Grammar.{Begins}
use Rattle.nix_drv.specs.private.Reading.{fixed_at, left_of}
use Rattle.nix_drv.proofs.Steps.{Told, Longest, told_shrinks}

-- a byte equals itself
pub eqb_same : (b : ℕ) → eqb b b ≡ true
eqb_same b = eq-eqb b b refl

abbrev Prefixes : List ℕ → List ℕ → Type 0
Prefixes bytes prefix = Begins prefix bytes

told_more : (b : ℕ) (bytes s : List ℕ) (r : Result (Unit {0} × List ℕ) ℕ)
    → Told (λ _. bytes) (Prefixes bytes) s r
    → Told (λ _. b ∷ bytes) (Prefixes (b ∷ bytes)) (b ∷ s) r
told_more b bytes s (Ok x) told = ap (λ (t : List ℕ). b ∷ t) told
told_more b bytes s (Err left) told = record {
  prefix = b ∷ told.prefix;
  rest = told.rest;
  parts = ap (λ (t : List ℕ). b ∷ t) told.parts;
  is_prefix = (told.is_prefix.0, ap (λ (t : List ℕ). b ∷ t) told.is_prefix.1);
  is_left = told.is_left;
}

pub fixed-told : (bytes s : List ℕ) → Told (λ _. bytes) (Prefixes bytes) s (fixed_at bytes s)
fixed-told [] s = refl
fixed-told (b ∷ bytes) [] = search rules
fixed-told (b ∷ bytes) (c ∷ s) =
    search (rules, cond_both, eqb, eqb-true, told_more, fixed-told bytes s)

pub fixed-again : (bytes rest : List ℕ) → fixed_at bytes (bytes ++ rest) ≡ Ok (tt, rest)
fixed-again [] rest = refl
fixed-again (b ∷ bytes) rest = rw (eqb_same b) (fixed-again bytes _)

pub fixed-shrinks : (bytes s : List ℕ) → left_of (fixed_at bytes s) ≤ length s
fixed-shrinks bytes s = search (rules, told_shrinks, fixed-told)

within : (prefix more rest : List ℕ) → left_of (fixed_at (prefix ++ more) (prefix ++ rest))
    ≤ length rest
within [] more rest = fixed-shrinks _ _
within (x ∷ prefix) more rest = rw (eqb_same x) (within prefix more rest)

pub fixed-longest : (bytes : List ℕ) → Longest (Prefixes bytes) (fixed_at bytes)
fixed-longest bytes prefix rest h = search (rules, within)
