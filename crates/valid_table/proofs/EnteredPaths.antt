-- Registrations whose paths and references are looked up among known ones.
use Rattle.std.proofs.Common.{◌≡◌, ◌∙◌, ℕ, ◌+◌, ◌<◌, ◌≤◌, List, ◌∷◌, ◌++◌, length, take, drop, get_or, sym, ap, subst, arith, rules}
use Rattle.std.specs.Prelude.{All, Contains, IfSome, Some, slice_get}
use Rattle.std.proofs.lemmas.List.{get_or_at, length-append, length-take-le, take_all}
use Rattle.std.proofs.lemmas.List.Elements.{All-append, All-more}
use Rattle.std.proofs.lemmas.Option.{MatchOption-at_some, slice_get-get_or, slice_get_past}
use Rattle.nix_names.proofs.FirstElements.{first_at, first_within}
use Rattle.valid_table.specs.private.Entering.{AreUnknown, IsFirstUnknownAt, IsNewPrefix, IsNotKnown}
use Rattle.valid_table.specs.Entries.{paths_registered}
use Rattle.valid_table.specs.Valid.{references_of}
use Rattle.valid_table.specs.declared.entry.Registration.{Registration}
use Rattle.valid_table.proofs.JournalLists.{references_of_at, references_of_more}
use Rattle.valid_table.proofs.RowNumbers.{path_count, path_read}
use Rattle.nix_names.specs.Firsts.{IsFirst}
use Rattle.nix_names.proofs.Lists.{element_at, get_mapped, parts_at}

-- the path of the registration at an index
pub path_at : (rs : List Registration) (i : ℕ) (r : Registration) (d : List ℕ) → i < length rs → r
    ≡ get_or rs i r → get_or (paths_registered rs) i d ≡ r.path
path_at rs i r d lt is = search (rules, path_read)

-- all paths were new
pub prefix_all : (known : List (List ℕ)) (rs : List Registration) (n : ℕ) → length rs ≤ n
    → AreUnknown known (take n (paths_registered rs))
    → IsNewPrefix known (paths_registered rs) (length rs)
prefix_all known rs n all new =
    let paths = paths_registered rs in
    let long = path_count rs in
    let same : take n paths ≡ take (length rs) paths = take_all n paths (omega arith)
    ∙ sym (take_all (length rs) paths (omega arith)) in
    record {
      within = omega arith;
      new = subst (AreUnknown known) same new;
      next = subst (λ o. IfSome o (Contains known))
          (sym (slice_get_past paths (length rs) (omega arith))) tt;
    }

-- the next path is new too
pub new_more :
    (known : List (List ℕ)) (rs : List Registration) (i : ℕ) (r : Registration) →
    AreUnknown known (take i (paths_registered rs)) →
    i < length rs →
    r ≡ get_or rs i r →
    IsNotKnown known r.path →
    AreUnknown known (take (i + 1) (paths_registered rs))
new_more known rs i r new lt is unknown =
    All-more (IsNotKnown known) (paths_registered rs) i r.path (omega (arith, path_count rs)) new
    (subst (IsNotKnown known) (sym (path_at _ i r _ lt is)) unknown)

-- the first of some paths that isn't known
pub unknown_here :
    (known some : List (List ℕ)) (i : ℕ) (path : List ℕ) →
    All (Contains known) (take i some) →
    i < length some →
    path ≡ get_or some i path →
    IsNotKnown known path →
    IsFirstUnknownAt known some i
unknown_here known some i path all lt is unknown = (
  path,
  record {
    before = take i some;
    after = drop (i + 1) some;
    parts = parts_at _ i _ lt is;
    others = all;
    is = unknown;
  },
  sym (length-take-le i some (omega arith)),
)

-- one more of them is known
pub known_more :
    (known some : List (List ℕ)) (i : ℕ) (path : List ℕ) →
    All (Contains known) (take i some) →
    i < length some →
    path ≡ get_or some i path →
    Contains known path →
    All (Contains known) (take (i + 1) some)
known_more known some i path all lt is there =
    All-more (Contains known) _ i _ lt all (subst (Contains known) is there)

-- the element after the first ones
middle : {X : Type 0} (xs before : List X) (x : X) (after : List X) (i : ℕ) → xs ≡ before ++ x
    ∷ after → i ≡ length before → slice_get xs i ≡ Some x
middle xs before x after i parts at =
    let within : i
    < length xs = omega (arith, at, ap length parts, length-append before (x ∷ after)) in
    slice_get-get_or _ i x within
    ∙ ap Some (ap (λ l. get_or l i x) parts ∙ get_or_at before x after x i (sym at))

-- the first unknown reference of registrations whose first ones have none
pub unclosed_here :
    (known : List (List ℕ)) (rs : List Registration) (i : ℕ) (r : Registration)
    (references : List (List ℕ)) (index : ℕ) →
    All (Contains known) (references_of (take i rs)) →
    i < length rs →
    r ≡ get_or rs i r →
    references ≡ r.info.references →
    IsFirstUnknownAt known references index →
    (path : List ℕ) × (slice_get r.info.references index ≡ Some path)
    × IsFirst (Contains known) (IsNotKnown known) (references_of rs) path
unclosed_here known rs i r references index all lt is same (path, first, at) =
    let earlier = references_of (take i rs) in
    let rest = references_of (drop (i + 1) rs) in
    let own : r.info.references ≡ first.before ++ path ∷ first.after = sym same ∙ first.parts in
    let within = first_within (Contains known) (IsNotKnown known) _ _ _ _ all
    first in (
      path,
      middle _ _ _ _ _ own at,
      subst (λ paths. IsFirst (Contains known) (IsNotKnown known) paths path)
          (ap (λ l. earlier ++ (l ++ rest)) same ∙ sym (references_of_at _ i r lt is)) within,
    )

-- the references of one more registration are known
pub closed_more :
    (known : List (List ℕ)) (rs : List Registration) (i : ℕ) (r : Registration)
    (references : List (List ℕ)) →
    All (Contains known) (references_of (take i rs)) →
    i < length rs →
    r ≡ get_or rs i r →
    references ≡ r.info.references →
    All (Contains known) references →
    All (Contains known) (references_of (take (i + 1) rs))
closed_more known rs i r references all lt is same more =
    subst (All (Contains known)) (sym (references_of_more _ i r lt is))
    (All-append (Contains known) _ _ all
    (subst (All (Contains known)) same more))

-- and so are all
pub closed_all : (known : List (List ℕ)) (rs : List Registration) (n : ℕ) → length rs ≤ n
    → All (Contains known) (references_of (take n rs)) → All (Contains known) (references_of rs)
closed_all known rs n long all = subst (λ l. All (Contains known) (references_of l))
    (take_all n rs long) all

-- the path of the registration after the new ones is the first that is known
pub known_after :
    (known : List (List ℕ)) (rs : List Registration) (count : ℕ) →
    IsNewPrefix known (paths_registered rs) count →
    count < length rs →
    (r : Registration) × (slice_get rs count ≡ Some r)
    × IsFirst (IsNotKnown known) (Contains known) (paths_registered rs) r.path
known_after known rs count prefix lt =
    let (r, read) = element_at rs count lt in
    let some = get_mapped (λ (x : Registration). x.path) rs _ r read in (
      r,
      read,
      first_at (IsNotKnown known) (Contains known) _ _ _ some prefix.new
          (MatchOption-at_some (Unit {0}) (Contains known) r.path some prefix.next),
    )

-- where none is after the new ones, all are new
pub all_new : (known : List (List ℕ)) (rs : List Registration) (count : ℕ)
    → IsNewPrefix known (paths_registered rs) count → length rs ≤ count
    → AreUnknown known (paths_registered rs)
all_new known rs count prefix long = subst (AreUnknown known)
    (take_all count (paths_registered rs) (omega (arith, path_count rs))) prefix.new
