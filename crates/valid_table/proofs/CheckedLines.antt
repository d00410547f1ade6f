-- The lines of registrations, counted and checked.
use Rattle.std.proofs.lemmas.Grind.{common_steps}
use Rattle.std.proofs.Common.{◌≡◌, ◌∙◌, ℕ, ◌+◌, ◌<◌, ◌≤◌, List, ◌++◌, length, flat_map, take, drop, get_or, ap, subst, arith, length-append, rules}
use Rattle.std.specs.Prelude.{All, Contains, Err, Ok}
use Rattle.std.proofs.lemmas.List.{append-nil, length-map, length-take-le, take_all, take_more}
use Rattle.std.proofs.lemmas.List.Concat.{flat_map-append}
use Rattle.std.proofs.lemmas.List.Folds.{length-flat_map-take}
use Rattle.valid_table.specs.private.Checking.{IsLineCheck}
use Rattle.valid_table.specs.private.Entering.{IsFirstUnknownAt}
use Rattle.valid_table.specs.Texts.{Reference, output_lines}
use Rattle.valid_table.specs.Valid.{references_of}
use Rattle.valid_table.specs.declared.entry.Registration.{Registration}
use Rattle.valid_table.specs.declared.fault.TableFault.TheVariants.{NotClosed, Twice}
use Rattle.valid_table.proofs.EnteredPaths.{closed_all}
use Rattle.nix_names.proofs.Lists.{parts_at}

-- how many lines registrations have
abbrev pub line_count : List Registration → ℕ
line_count rs = length (flat_map output_lines rs)

-- those of two lists of them
line_count-append : (a b : List Registration) → line_count (a ++ b) ≡ line_count a + line_count b
line_count-append a b = search (rules, flat_map-append, length-append, flat_map)

-- those of one more
pub line_count_more :
    (rs : List Registration) (i : ℕ) (r : Registration) →
    i < length rs →
    r ≡ get_or rs i r →
    line_count (take (i + 1) rs) ≡ line_count (take i rs) + (1 + length r.info.references)
line_count_more rs i r lt is =
    grind (arith, common_steps, append-nil, length-map, take_more, line_count-append)

-- the first registrations and the next one have no more lines than all
pub line_count_fits :
    (rs : List Registration) (i : ℕ) (r : Registration) →
    i < length rs →
    r ≡ get_or rs i r →
    line_count (take i rs) + (1 + length r.info.references) ≤ line_count rs
line_count_fits rs i r lt is =
    omega (
      arith,
      length-flat_map-take output_lines _ i r lt,
      length-map r.info.references Reference,
      ap (λ x. length (output_lines x)) is,
    )

-- the index of an unknown path is within the list
pub unknown_within : (all paths : List (List ℕ)) (at : ℕ) → IsFirstUnknownAt all paths at → at
    < length paths
unknown_within all paths at (path, first, is) = search (rules, length-append)

-- the registration after the new ones is known
pub twice_here :
    (all : List (List ℕ)) (rs : List Registration) (new first i n : ℕ) →
    i ≡ new →
    i < length rs →
    All (Contains all) (references_of (take i rs)) →
    n ≡ first + line_count (take i rs) →
    IsLineCheck all rs new first (Err (Twice n))
twice_here all rs new first i n same lt closed number =
    subst (λ k. (k < length rs) × All (Contains all) (references_of (take k rs))
    × (n ≡ first + line_count (take k rs))) same (lt, closed, number)

-- a reference of the next registration is unknown
pub open_here :
    (all : List (List ℕ)) (rs : List Registration) (new first i : ℕ) (r : Registration)
    (references : List (List ℕ)) (at number : ℕ) →
    i ≤ new →
    (i ≡ new → ⊥) →
    i < length rs →
    r ≡ get_or rs i r →
    references ≡ r.info.references →
    All (Contains all) (references_of (take i rs)) →
    IsFirstUnknownAt all references at →
    number ≡ first + line_count (take i rs) →
    IsLineCheck all rs new first (Err (NotClosed (number + 1 + at)))
open_here all rs new first i r references at number upto other lt is same closed unknown counted =
    let long = length-take-le i rs (omega arith) in
    let before_new : i < new = omega arith in (
      take i rs,
      r,
      drop (i + 1) rs,
      at,
      parts_at _ i r lt is,
      omega arith,
      closed,
      subst (λ paths. IsFirstUnknownAt all paths at) same unknown,
      ap (λ n. n + 1 + at) counted,
    )

-- all registrations are right
pub right_after :
    (all : List (List ℕ)) (rs : List Registration) (new first i after : ℕ) →
    i ≤ new →
    length rs ≤ i →
    All (Contains all) (references_of (take i rs)) →
    after ≡ first + line_count (take i rs) →
    IsLineCheck all rs new first (Ok after)
right_after all rs new first i after upto long closed counted = (
  omega arith,
  closed_all _ _ i long closed,
  counted ∙ ap (λ l. first + line_count l) (take_all i rs long),
)
