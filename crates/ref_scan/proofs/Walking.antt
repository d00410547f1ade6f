-- A walk of a tree by a list of what it has put off.
use Rattle.std.proofs.Common.{◌≡◌, ◌∙◌, ℕ, ◌+◌, ◌*◌, List, [], ◌∷◌, ◌++◌, length, refl, ap, sym, append_assoc, append-nil, arith, rules}
use Rattle.std.specs.Borrow.{Bor}
use Rattle.ref_scan.specs.Trees.{entry_count, pieces}
use Rattle.ref_scan.specs.private.Walk.{IsFirstVisited, IsVisited, count_below, pieces_ahead, pieces_below, steps_ahead}
use Rattle.ref_scan.specs.declared.tree.Tree.{Tree}
use Rattle.ref_scan.specs.declared.tree.Member.{Member}

-- what was put off last comes first
pub pieces_last : (folders : List (Bor (List Member))) (members : Bor (List Member))
    → pieces_ahead (folders ++ members ∷ []) ≡ pieces_below members.now ++ pieces_ahead folders
pieces_last [] members = search (rules, append-nil)
pieces_last (x ∷ xs) members =
    ap (λ l. l ++ pieces_below x.now) (pieces_last xs members)
    ∙ append_assoc (pieces_below members.now) (pieces_ahead xs) (pieces_below x.now)

pub steps_last : (folders : List (Bor (List Member))) (members : Bor (List Member))
    → steps_ahead (folders ++ members ∷ [])
    ≡ 1 + 2 * count_below members.now + steps_ahead folders
steps_last [] members = omega arith
steps_last (x ∷ xs) members = omega (arith, steps_last xs members)

-- a folder's members are put off
pub folder_visited :
    (tree : Tree) (fed : List (List ℕ)) (before folders : List (Bor (List Member)))
    (members : Bor (List Member)) →
    folders ≡ before ++ members ∷ [] →
    pieces tree ≡ pieces_below members.now →
    entry_count tree ≡ count_below members.now →
    IsVisited tree fed fed before folders
folder_visited tree fed before folders members is of_pieces of_count = record {
  pieces = ap (λ f. fed ++ pieces_ahead f) is
      ∙ ap (λ l. fed ++ l) (pieces_last before members
      ∙ ap (λ l. l ++ pieces_ahead before) (sym of_pieces));
  steps = omega (arith, ap steps_ahead is, steps_last before members, of_count);
}

-- no members are left
pub none_visited :
    (fed : List (List ℕ)) (folders : List (Bor (List Member))) (members : List Member) →
    length members ≡ 0 →
    IsFirstVisited members fed fed folders folders
none_visited fed folders [] none = record { pieces = refl; steps = omega arith }
none_visited fed folders (x ∷ xs) none = absurd (omega arith)

-- the others are put off, and the first member's name is fed before its tree is visited
pub first_visited :
    (fed one all : List (List ℕ)) (before pushed folders : List (Bor (List Member)))
    (members : List Member) (rest : Bor (List Member)) (member : Member) (present name : List ℕ) →
    members ≡ member ∷ rest.now →
    pushed ≡ before ++ rest ∷ [] →
    present ≡ [] →
    name ≡ member.name.items →
    one ≡ fed ++ (present ++ name) ∷ [] →
    IsVisited member.tree one all pushed folders →
    IsFirstVisited members fed all before folders
first_visited fed one all before pushed folders members rest member present name first more none
    named fed_one visit = record {
      pieces = visit.pieces
          ∙ ap (λ l. l ++ (pieces member.tree ++ pieces_ahead pushed)) (fed_one
          ∙ ap (λ p. fed ++ (p ++ name) ∷ []) none ∙ ap (λ n. fed ++ n ∷ []) named)
          ∙ append_assoc fed (member.name.items ∷ []) (pieces member.tree ++ pieces_ahead pushed)
          ∙ ap (λ l. fed ++ (member.name.items ∷ l))
          (ap (λ f. pieces member.tree ++ pieces_ahead f) more
          ∙ ap (λ l. pieces member.tree ++ l) (pieces_last before rest)
          ∙ sym (append_assoc (pieces member.tree) (pieces_below rest.now) (pieces_ahead before)))
          ∙ ap (λ m. fed ++ (pieces_below m ++ pieces_ahead before)) (sym first);
      steps = omega (
        arith,
        visit.steps,
        ap steps_ahead more,
        steps_last before rest,
        ap count_below first,
      );
    }
