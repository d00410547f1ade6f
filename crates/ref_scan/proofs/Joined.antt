-- The bytes that pieces make together, piece by piece.
use Rattle.std.proofs.Common.{◌≡◌, ◌∙◌, ◌<◌, ◌+◌, ℕ, zero, suc, ap, sym, arith, List, [], ◌∷◌, ◌++◌, append_assoc, append-nil, length, get_or, take}
use Rattle.std.specs.declared.alloc.Global.{Global}
use Rattle.std.specs.declared.vec.Vec.{Vec}
use Rattle.nix_archive.specs.Trees.{AreBytes, Bytes}
use Rattle.ref_scan.specs.Trees.{joined}

joined_next : (parts : List (Vec ℕ Global)) (i : ℕ) (part : Vec ℕ Global) → i < length parts
    → part ≡ get_or parts i part → joined (take (suc i) parts) ≡ joined (take i parts) ++ part.items
joined_next [] i part lt is = absurd (omega (arith, lt))
joined_next (p ∷ ps) zero part lt is =
    ap (λ (l : Vec ℕ Global). l.items ++ []) (sym is) ∙ append-nil part.items
joined_next (p ∷ ps) (suc i) part lt is =
    ap (λ l. p.items ++ l) (joined_next ps i part (omega (arith, lt)) is)
    ∙ sym (append_assoc p.items (joined (take i ps)) part.items)

-- one piece more
pub joined_more : (parts : List (Vec ℕ Global)) (i : ℕ) (part : Vec ℕ Global) → i < length parts
    → part ≡ get_or parts i part → joined (take (i + 1) parts) ≡ joined (take i parts) ++ part.items
joined_more parts i part lt is =
    let next : i + 1 ≡ suc i = omega arith in
    ap (λ n. joined (take n parts)) next ∙ joined_next parts i part lt is

one_more : (byte : ℕ) (bytes : Bytes) → byte < 256 → AreBytes bytes → AreBytes (byte ∷ bytes)
one_more byte bytes lt h zero = lt
one_more byte bytes lt h (suc i) = h i

pub both_bytes : (front back : Bytes) → AreBytes front → AreBytes back → AreBytes (front ++ back)
both_bytes [] back a b = b
both_bytes (x ∷ xs) back a b =
    one_more x (xs ++ back) (a 0) (both_bytes xs back (λ i. a (suc i)) b)
