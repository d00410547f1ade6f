-- The entries of a folder's members: there is one list of them, and they are the same in any order
-- of the members.
use Rattle.std.proofs.Common.{◌≡◌, ◌∙◌, ◌<◌, ℕ, zero, suc, refl, ap, sym, subst, arith, List, [], ◌∷◌, length, get_or, set}
use Rattle.std.specs.List.{swap}
use Rattle.std.specs.declared.alloc.Global.{Global}
use Rattle.std.specs.declared.vec.Vec.{Vec}
use Rattle.std.specs.List.Sorted.{IsPermutation}
use Rattle.std.proofs.lemmas.List.Sorted.{IsPermutation-keeps}
use Rattle.nix_archive.specs.Trees.{Bytes, Tree as Archived, Folder, Entries, AreEntries, IsArchivable}
use Rattle.ref_scan.specs.Archives.{AreEntriesOf, IsArchiveOf, IsBeside}
use Rattle.ref_scan.specs.private.Telling.{AreBelow}
use Rattle.ref_scan.specs.declared.tree.Tree.{Tree, File, Pieces, Executable, Link, Dir, Dir', Row_of-Member, end_of-Member, more_of-Member, items-the_row-Member}
use Rattle.ref_scan.specs.declared.tree.Tree.TheBlock.{hidden-the_row-Member-0, items_hidden-the_row-Member-0}
use Rattle.ref_scan.specs.declared.tree.Member.{Member}
use Rattle.ref_scan.proofs.Besides.{beside_both, fewer_rise, node_archivable, put_once}

mutual
  pub one_archive : (tree : Tree) (a b : Archived) → IsArchiveOf tree a → IsArchiveOf tree b
      → IsArchivable a → IsArchivable b → a ≡ b
  one_archive (File bytes) a b h k p q = h ∙ sym k
  one_archive (Pieces parts) a b h k p q = h ∙ sym k
  one_archive (Executable parts) a b h k p q = h ∙ sym k
  one_archive (Link target) a b h k p q = h ∙ sym k
  one_archive (Dir' shape members) a b (es, is, h) (fs, be, k) p q =
      is ∙ ap Folder (one_row members [] [] es fs h k (subst IsArchivable is p)
      (subst IsArchivable be q)) ∙ sym be

  one_row : {m : _} (row : Row_of-Member m) (b c : Bytes) (es fs : Entries) → AreEntriesOf row es
      → AreEntriesOf row fs → AreEntries b es → AreEntries c fs → es ≡ fs
  one_row end_of-Member b c es fs h k p q = h ∙ sym k
  one_row (more_of-Member name tree rest) b c es fs (node, others, of, beside, more)
      (node2, others2, of2, beside2, more2) p q =
      let same : others ≡ others2 = one_row rest b c others others2 more more2
      (fewer_rise b name.items node others es p beside)
      (fewer_rise c name.items node2 others2 fs q beside2) in
      let one : node ≡ node2 = one_archive tree node node2 of of2
      (node_archivable b name.items node others es p beside)
      (node_archivable c name.items node2 others2 fs q beside2) in
      put_once b c name.items node others es fs p q beside
      (subst (λ o. IsBeside name.items node o fs) (sym same)
      (subst (λ n. IsBeside name.items n others2 fs) (sym one) beside2))

below_row : {m : _} (row : Row_of-Member m) (es : Entries) → AreEntriesOf row es
    → AreBelow (items-the_row-Member m row) es
below_row end_of-Member es h = h
below_row (more_of-Member name tree rest) es (node, others, of, beside, more) =
    (node, others, of, beside, below_row rest others more)

row_below : {m : _} (row : Row_of-Member m) (es : Entries) → AreBelow (items-the_row-Member m row) es
    → AreEntriesOf row es
row_below end_of-Member es h = h
row_below (more_of-Member name tree rest) es (node, others, of, beside, more) =
    (node, others, of, beside, row_below rest others more)

-- a folder's archive by the list of its members
pub dir_from_below : (members : Vec Member Global) (es : Entries) → AreBelow members.items es
    → IsArchiveOf (Dir members) (Folder es)
dir_from_below members es h = (
  es,
  refl,
  row_below (hidden-the_row-Member-0 members) es
      (subst (λ l. AreBelow l es) (sym (items_hidden-the_row-Member-0 members)) h),
)

pub below_from_dir : (members : Vec Member Global) (a : Archived) → IsArchiveOf (Dir members) a
    → (es : Entries) × (a ≡ Folder es) × AreBelow members.items es
below_from_dir members a (es, is, h) = (
  es,
  is,
  subst (λ l. AreBelow l es) (items_hidden-the_row-Member-0 members)
      (below_row (hidden-the_row-Member-0 members) es h),
)

-- The entry of the member with a number stands beside others, beside which that of any other member
-- may stand in its place.
record IsReplaceable (ms : List Member) (j : ℕ) (d : Member) (es : Entries) : Type 0 where
  pub node : Archived
  pub others : Entries
  pub of_tree : IsArchiveOf (get_or ms j d).tree node
  pub beside : IsBeside (get_or ms j d).name.items node others es
  pub put : (z : Member) (n : Archived) (fs : Entries) → IsArchiveOf z.tree n
      → IsBeside z.name.items n others fs → AreBelow (set ms j z) fs

replaced : (ms : List Member) (j : ℕ) (d : Member) (es : Entries) → j < length ms → AreBelow ms es
    → IsReplaceable ms j d es
replaced [] j d es lt h = absurd (omega (arith, lt))
replaced (m ∷ ms) zero d es lt (node, others, of, beside, more) = record {
  node = node;
  others = others;
  of_tree = of;
  beside = beside;
  put = λ z n fs is b. (n, others, is, b, more);
}
replaced (m ∷ ms) (suc j) d es lt (node, others, of, beside, more) =
    let r = replaced ms j d others (omega (arith, lt)) more in
    let y = get_or ms j d in
    let c = beside_both m.name.items y.name.items node r.node r.others others es beside r.beside in
    record {
      node = r.node;
      others = c.0;
      of_tree = r.of_tree;
      beside = c.1;
      put = λ z n fs is b.
          let e = beside_both z.name.items m.name.items n node r.others c.0 fs b c.2 in
          (node, e.0, of, e.1, r.put z n e.0 is e.2);
    }

swapped_first : (m : Member) (ms : List Member) (j : ℕ) (d : Member) (es : Entries) → j < length ms
    → AreBelow (m ∷ ms) es → AreBelow (get_or ms j d ∷ set ms j m) es
swapped_first m ms j d es lt (node, others, of, beside, more) =
    let r = replaced ms j d others lt more in
    let y = get_or ms j d in
    let c = beside_both m.name.items y.name.items node r.node r.others others es beside r.beside in
    (r.node, c.0, r.of_tree, c.1, r.put m node c.0 of c.2)

swapped : (ms : List Member) (i j : ℕ) (d : Member) (es : Entries) → i < length ms → j < length ms
    → AreBelow ms es → AreBelow (set (set ms i (get_or ms j d)) j (get_or ms i d)) es
swapped [] i j d es a b h = absurd (omega (arith, a))
swapped (m ∷ ms) zero zero d es a b h = h
swapped (m ∷ ms) zero (suc j) d es a b h = swapped_first m ms j d es (omega (arith, b)) h
swapped (m ∷ ms) (suc i) zero d es a b h = swapped_first m ms i d es (omega (arith, a)) h
swapped (m ∷ ms) (suc i) (suc j) d es a b (node, others, of, beside, more) =
    (node, others, of, beside, swapped ms i j d others (omega (arith, a)) (omega (arith, b)) more)

step : (es : Entries) (ms : List Member) (i j : ℕ) → i < length ms → j < length ms → AreBelow ms es
    → AreBelow (swap ms i j) es
step es [] i j a b h = absurd (omega (arith, a))
step es (m ∷ ms) i j a b h = swapped (m ∷ ms) i j m es a b h

pub below_moved : (ms ns : List Member) → IsPermutation ms ns → (es : Entries) → AreBelow ms es
    → AreBelow ns es
below_moved ms ns moves es h = IsPermutation-keeps ms (λ l. AreBelow l es) h (step es) ns moves
