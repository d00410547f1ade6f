-- The registration that is to blame, and how that is told.
use Rattle.std.proofs.Common.{◌≡◌, ℕ, ◌<◌, List, ◌++◌, length, take, get_or, refl, sym, ap, ◌∙◌, rules}
use Rattle.std.specs.Prelude.{All, Contains, Err, MatchOption, Option, Result, Some, None, ⊤, slice_get}
use Rattle.std.proofs.lemmas.Option.{slice_get-get_or}
use Rattle.valid_table.specs.Adding.{AreClosed, AreNew, IsTakingIn}
use Rattle.valid_table.specs.private.Blames.{IsBlamed, IsBlamedFor, IsFaultOf, IsUnclosedAt}
use Rattle.valid_table.specs.private.Entering.{IsFirstUnknownAt}
use Rattle.valid_table.specs.Entries.{paths_registered}
use Rattle.valid_table.specs.Valid.{references_of}
use Rattle.valid_table.specs.declared.entry.Registration.{Registration}
use Rattle.valid_table.specs.declared.fault.TableFault.{TableFault}
use Rattle.valid_table.specs.declared.fault.TableFault.TheVariants.{NoMemory, Unclosed, AlreadyValid}
use Rattle.valid_table.specs.declared.path_table.obstacle.FaultAt.{FaultAt}
use Rattle.valid_table.proofs.EnteredPaths.{unclosed_here}
use Rattle.nix_names.proofs.Lists.{same_element}

-- the indices of the first unclosed reference of registrations whose first ones have none
pub unclosed_at :
    (known some : List Registration) (i : ℕ) (r : Registration) (references : List (List ℕ))
    (index : ℕ) →
    All (Contains (paths_registered (known ++ some))) (references_of (take i some)) →
    i < length some →
    r ≡ get_or some i r →
    references ≡ r.info.references →
    IsFirstUnknownAt (paths_registered (known ++ some)) references index →
    IsUnclosedAt known some (record { registration = i; reference = Some index })
unclosed_at known some i r references index all lt is same first =
    let here = unclosed_here _ _ i r _ _ all lt is
    same
    first in
    (r, index, here.0, slice_get-get_or _ i r lt ∙ ap Some (sym is), refl, here.1, here.2)

-- who has it is to blame, where all paths are new
pub blamed_for_reference : (known some : List Registration) (blame : FaultAt) → AreNew known some
    → IsUnclosedAt known some blame → IsBlamed known some blame
blamed_for_reference known some blame new (r, index, path, at, told, read, first) = search rules

-- what is answered where all paths are new
pub blamed_or_closed :
    (known some : List Registration) (o : Option FaultAt) →
    AreNew known some →
    MatchOption o (AreClosed known some) (IsUnclosedAt known some) →
    MatchOption o (AreNew known some × AreClosed known some) (IsBlamed known some)
blamed_or_closed known some None new closed = (new, closed)
blamed_or_closed known some (Some blame) new at = blamed_for_reference _ _ _ new at

-- and is who is read at the index
pub blamed_read :
    (known some : List Registration) (blame : FaultAt) (r : Registration) →
    IsBlamed known some blame →
    slice_get some blame.registration ≡ Some r →
    IsBlamedFor known some r blame.reference
blamed_read known some blame r (one, at, blamed) read = search (rules, same_element)

-- and the fault is what is answered
pub taking_refused :
    (known some : List Registration) (taken same : Type 0) (r : Registration) (reference : Option ℕ)
    (fault : TableFault) →
    IsBlamedFor known some r reference →
    IsFaultOf r reference fault →
    same →
    IsTakingIn known some taken same (Err fault)
taking_refused known some taken same r None (AlreadyValid path) blamed told kept =
    rw told (blamed, kept)
taking_refused known some taken same r (Some index) (Unclosed path) (first, read, new, is) told
    kept = search (rules, same_element)
taking_refused known some taken same r reference fault blamed told kept = absurd told

-- memory was refused, where nothing stands against them
pub taking_no_memory :
    (known some : List Registration) (taken same : Type 0) (result : Result ⊤ TableFault) →
    AreNew known some →
    AreClosed known some →
    result ≡ Err NoMemory →
    same →
    IsTakingIn known some taken same result
taking_no_memory known some taken same result new closed is kept = search rules
