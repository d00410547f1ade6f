-- What readings of a file consume, one after another.
use Rattle.std.proofs.Common.{◌≡◌, ◌∙◌, ap, sym, subst, ℕ, List, [], ◌∷◌, ◌++◌, ◌+◌, ◌<◌}
use Rattle.std.proofs.Common.{Err, None, Ok, Option, Result, Some, append-nil, arith, length}
use Rattle.std.proofs.Common.{◌==◌, Bool, length-append, true}
use Rattle.std.proofs.KnownBytes.{Consumes-trans}
use Rattle.std.proofs.lemmas.Bool.{eqb-true}
use Rattle.std.proofs.lemmas.List.{nil_from_length}
use Rattle.std.proofs.lemmas.List.Concat.{flat_map-append}
use Rattle.std.specs.Io.KnownBytes.{Consumes, Keeps, ReadConsumes}
use Rattle.std.specs.declared.alloc.Global.{Global}
use Rattle.std.specs.declared.vec.Vec.{Vec}
use Rattle.process_build.specs.Contents.{IsMoreThan}
use Rattle.ref_scan.specs.Trees.{joined}

-- a reading after readings that gave nothing
pub read_after : {E : Type 0} (a b c : Option (List ℕ)) (r : Result ℕ E) (buffer : List ℕ)
    → Keeps a b → ReadConsumes b c r buffer → ReadConsumes a c r buffer
read_after None b c (Ok n) buffer kept read = (tt, read.1)
read_after None b c (Err e) buffer kept read = tt
read_after (Some xs) None c r buffer kept read = absurd kept
read_after (Some xs) (Some ys) c r buffer kept read =
    subst (λ zs. ReadConsumes (Some zs) c r buffer) kept read

pub joined_push : (pieces : List (Vec ℕ Global)) (piece : Vec ℕ Global)
    → joined (pieces ++ piece ∷ []) ≡ joined pieces ++ piece.items
joined_push pieces piece =
    flat_map-append (λ (part : Vec ℕ Global). part.items) pieces (piece ∷ [])
    ∙ ap (λ l. joined pieces ++ l) (append-nil piece.items)

-- what was consumed first, and the next piece, make what was consumed
pub consumed_push : (a b c : Option (List ℕ)) (pieces : List (Vec ℕ Global)) (piece : Vec ℕ Global)
    → Consumes a b (joined pieces) → Consumes b c piece.items
    → Consumes a c (joined (pieces ++ piece ∷ []))
consumed_push a b c pieces piece before next =
    subst (Consumes a c) (sym (joined_push pieces piece))
    (Consumes-trans a b c (joined pieces) piece.items before next)

pub joined_size : (pieces : List (Vec ℕ Global)) (piece : Vec ℕ Global)
    → length (joined (pieces ++ piece ∷ [])) ≡ length (joined pieces) + length piece.items
joined_size pieces piece =
    ap length (joined_push pieces piece) ∙ length-append (joined pieces) piece.items

-- a piece without bytes changes nothing of what was consumed
pub consumed_none : (a b c : Option (List ℕ)) (read piece : List ℕ)
    → Consumes a b read → piece ≡ [] → Consumes b c piece → Consumes a c read
consumed_none a b c read piece before none next =
    subst (Consumes a c) (ap (λ l. read ++ l) none ∙ append-nil read)
    (Consumes-trans a b c read piece before next)

-- a piece that is told to be empty has no bytes
pub none_read : (piece slice : List ℕ) (is_empty : Bool) → slice ≡ piece
    → is_empty ≡ (length slice == 0) → is_empty ≡ true → piece ≡ []
none_read piece slice is_empty same told holds =
    sym same ∙ nil_from_length slice (eqb-true _ _ (sym told ∙ holds))

-- a reading that consumed more than this number: so more was left
pub more_read : (a b : Option (List ℕ)) (read : List ℕ) (limit : ℕ)
    → Consumes a b read → limit < length read → IsMoreThan limit a
more_read None b read limit consumed more = tt
more_read (Some xs) None read limit consumed more = absurd consumed
more_read (Some xs) (Some ys) read limit consumed more =
    let e : length xs ≡ length read + length ys = ap length consumed ∙ length-append read ys in
    omega arith
