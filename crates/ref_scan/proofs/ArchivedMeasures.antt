-- What is scanned and counted of a tree in memory, in any order of each folder's members.
use Rattle.std.proofs.Common.{◌≡◌, ◌∙◌, ◌+◌, max, List, [], ◌∷◌, ◌++◌, ⊎_elim, inl, inr, refl, ap, sym, subst, arith}
use Rattle.std.specs.Prelude.{◌↔◌, Any}
use Rattle.nix_archive.specs.Trees.{Bytes, Tree as Archived, Entries, NoEntries, Entry}
use Rattle.ref_scan.specs.ArchivedTrees.{IsMeasuredAlike, archived_bytes, archived_depth, archived_entries, archived_pieces, bytes_of_entries, count_of_entries, depth_of_entries, pieces_of_entries}
use Rattle.ref_scan.specs.Archives.{AreEntriesOf, IsArchiveOf, IsBeside}
use Rattle.ref_scan.specs.Scan.{Within}
use Rattle.ref_scan.specs.Trees.{depth_among, depth_of, entry_count, entry_count_among, file_bytes, file_bytes_among, joined, pieces, pieces_among}
use Rattle.ref_scan.specs.declared.tree.Tree.{Tree, File, Pieces, Executable, Link, Dir', Row_of-Member, end_of-Member, more_of-Member}
use Rattle.ref_scan.proofs.Pieces.{Any-either, Any-left, Any-right}

-- ---- lists of which the same holds somewhere

-- some of one list is some of another
abbrev pub IsSomeAlike : {X : Type 0} (P : X → Type 0) (xs ys : List X) → Type 0
IsSomeAlike P xs ys = Any P xs ↔ Any P ys

alike_same : {X : Type 0} (P : X → Type 0) (xs ys : List X) → xs ≡ ys → IsSomeAlike P xs ys
alike_same P xs ys is = (subst (Any P) is, subst (Any P) (sym is))

alike_then : {X : Type 0} (P : X → Type 0) (xs ys zs : List X) → IsSomeAlike P xs ys
    → IsSomeAlike P ys zs → IsSomeAlike P xs zs
alike_then P xs ys zs a b = (λ h. b.0 (a.0 h), λ h. a.1 (b.1 h))

one_way : {X : Type 0} (P : X → Type 0) (xs xs' ys ys' : List X) → (Any P xs → Any P xs')
    → (Any P ys → Any P ys') → Any P (xs ++ ys) → Any P (xs' ++ ys')
one_way P xs xs' ys ys' a b h =
    ⊎_elim (λ x. Any-left P xs' ys' (a x)) (λ y. Any-right P xs' ys' (b y)) (Any-either P xs ys h)

alike_both : {X : Type 0} (P : X → Type 0) (xs xs' ys ys' : List X) → IsSomeAlike P xs xs'
    → IsSomeAlike P ys ys' → IsSomeAlike P (xs ++ ys) (xs' ++ ys')
alike_both P xs xs' ys ys' a b = (
  one_way P xs xs' ys ys' a.0 b.0,
  one_way P xs' xs ys' ys a.1 b.1,
)

-- the second list of three goes to the front
to_front : {X : Type 0} (P : X → Type 0) (xs ys zs : List X) → Any P (xs ++ (ys ++ zs))
    → Any P (ys ++ (xs ++ zs))
to_front P xs ys zs h =
    ⊎_elim
    (λ x. Any-right P ys (xs ++ zs) (Any-left P xs zs x))
    (λ more. ⊎_elim
    (λ y. Any-left P ys (xs ++ zs) y)
    (λ z. Any-right P ys (xs ++ zs) (Any-right P xs zs z))
    (Any-either P ys zs more))
    (Any-either P xs (ys ++ zs) h)

alike_moved : {X : Type 0} (P : X → Type 0) (xs ys zs : List X)
    → IsSomeAlike P (xs ++ (ys ++ zs)) (ys ++ (xs ++ zs))
alike_moved P xs ys zs = (to_front P xs ys zs, to_front P ys xs zs)

-- ---- an entry beside others

-- the pieces of an entry
abbrev entry_pieces : (name : Bytes) (node : Archived) → List Bytes
entry_pieces name node = name ∷ archived_pieces node

same_pieces : (f name : Bytes) (t node : Archived) (rest others : Entries) → f ≡ name → t ≡ node
    → rest ≡ others → entry_pieces f t ++ pieces_of_entries rest
    ≡ entry_pieces name node ++ pieces_of_entries others
same_pieces f name t node rest others a b c =
    ap (λ l. entry_pieces l t ++ pieces_of_entries rest) a
    ∙ ap (λ l. entry_pieces name l ++ pieces_of_entries rest) b
    ∙ ap (λ l. entry_pieces name node ++ pieces_of_entries l) c

beside_pieces : (P : Bytes → Type 0) (name : Bytes) (node : Archived) (others entries : Entries)
    → IsBeside name node others entries → IsSomeAlike P (pieces_of_entries entries)
    (entry_pieces name node ++ pieces_of_entries others)
beside_pieces P name node others NoEntries h = absurd h
beside_pieces P name node others (Entry f t rest) (inl e) =
    alike_same P (entry_pieces f t ++ pieces_of_entries rest)
    (entry_pieces name node ++ pieces_of_entries others)
    (same_pieces f name t node rest others e.0 e.1 e.2)
beside_pieces P name node others (Entry f t rest) (inr (fewer, is, h)) =
    let here = entry_pieces f t in
    let this = entry_pieces name node in
    let few = pieces_of_entries fewer in
    subst (λ (o : Entries). IsSomeAlike P (here ++ pieces_of_entries rest)
    (this ++ pieces_of_entries o)) (sym is)
    (alike_then P (here ++ pieces_of_entries rest) (here ++ (this ++ few)) (this ++ (here ++ few))
    (alike_both P here here (pieces_of_entries rest) (this ++ few) (alike_same P here here refl)
    (beside_pieces P name node fewer rest h))
    (alike_moved P here this few))

-- A folder's entries have the measures of one entry and of the others.
record BesideOthers (node : Archived) (others entries : Entries) : Type 0 where
  depth : depth_of_entries entries ≡ max (archived_depth node) (depth_of_entries others)
  count : count_of_entries entries ≡ 1 + archived_entries node + count_of_entries others
  bytes : bytes_of_entries entries ≡ archived_bytes node + bytes_of_entries others

beside_measures : (name : Bytes) (node : Archived) (others entries : Entries)
    → IsBeside name node others entries → BesideOthers node others entries
beside_measures name node others NoEntries h = absurd h
beside_measures name node others (Entry f t rest) (inl e) = record {
  depth = omega (arith, ap archived_depth e.1, ap depth_of_entries e.2);
  count = omega (arith, ap archived_entries e.1, ap count_of_entries e.2);
  bytes = omega (arith, ap archived_bytes e.1, ap bytes_of_entries e.2);
}
beside_measures name node others (Entry f t rest) (inr (fewer, is, h)) =
    let more = beside_measures name node fewer rest h in
    record {
      depth = omega (arith, ap depth_of_entries is, more.depth);
      count = omega (arith, ap count_of_entries is, more.count);
      bytes = omega (arith, ap bytes_of_entries is, more.bytes);
    }

-- ---- trees, and the members of folders

mutual
  pieces_alike : (P : Bytes → Type 0) (tree : Tree) (a : Archived) → IsArchiveOf tree a
      → IsSomeAlike P (pieces tree) (archived_pieces a)
  pieces_alike P (File bytes) a h =
      alike_same P (bytes.items ∷ []) (archived_pieces a) (sym (ap archived_pieces h))
  pieces_alike P (Pieces parts) a h =
      alike_same P (joined parts.items ∷ []) (archived_pieces a) (sym (ap archived_pieces h))
  pieces_alike P (Executable parts) a h =
      alike_same P (joined parts.items ∷ []) (archived_pieces a) (sym (ap archived_pieces h))
  pieces_alike P (Link target) a h =
      alike_same P (target.items ∷ []) (archived_pieces a) (sym (ap archived_pieces h))
  pieces_alike P (Dir' shape members) a (es, is, h) =
      alike_then P (pieces_among members) (pieces_of_entries es) (archived_pieces a)
      (pieces_alike_among P members es h)
      (alike_same P (pieces_of_entries es) (archived_pieces a) (sym (ap archived_pieces is)))

  pieces_alike_among : {m : _} (P : Bytes → Type 0) (row : Row_of-Member m) (entries : Entries)
      → AreEntriesOf row entries → IsSomeAlike P (pieces_among row) (pieces_of_entries entries)
  pieces_alike_among P end_of-Member entries h =
      alike_same P [] (pieces_of_entries entries) (sym (ap pieces_of_entries h))
  pieces_alike_among P (more_of-Member name tree rest) entries (node, others, of, beside, more) =
      let one = beside_pieces P name.items node others entries beside in
      alike_then P ((name.items ∷ pieces tree) ++ pieces_among rest)
      (entry_pieces name.items node ++ pieces_of_entries others) (pieces_of_entries entries)
      (alike_both P (name.items ∷ pieces tree) (entry_pieces name.items node) (pieces_among rest)
      (pieces_of_entries others)
      (alike_both P (name.items ∷ []) (name.items ∷ []) (pieces tree) (archived_pieces node)
      (alike_same P (name.items ∷ []) (name.items ∷ []) refl) (pieces_alike P tree node of))
      (pieces_alike_among P rest others more))
      (one.1, one.0)

-- A tree in memory has the measures of that of its archive.
record AreMeasures (tree : Tree) (a : Archived) : Type 0 where
  depth : depth_of tree ≡ archived_depth a
  count : entry_count tree ≡ archived_entries a
  bytes : file_bytes tree ≡ archived_bytes a

-- The members of a folder in memory have the measures of those of its archive.
record AreMeasuresAmong {m : _} (row : Row_of-Member m) (entries : Entries) : Type 0 where
  depth : depth_among row ≡ depth_of_entries entries
  count : entry_count_among row ≡ count_of_entries entries
  bytes : file_bytes_among row ≡ bytes_of_entries entries

measures_at : (tree : Tree) (a b : Archived) → a ≡ b → AreMeasures tree b → AreMeasures tree a
measures_at tree a b is measures = subst (λ (x : Archived). AreMeasures tree x) (sym is) measures

mutual
  measures_of : (tree : Tree) (a : Archived) → IsArchiveOf tree a → AreMeasures tree a
  measures_of (File bytes) a h =
      measures_at (File bytes) a _ h (record { depth = refl; count = refl; bytes = refl })
  measures_of (Pieces parts) a h =
      measures_at (Pieces parts) a _ h (record { depth = refl; count = refl; bytes = refl })
  measures_of (Executable parts) a h =
      measures_at (Executable parts) a _ h (record { depth = refl; count = refl; bytes = refl })
  measures_of (Link target) a h =
      measures_at (Link target) a _ h (record { depth = refl; count = refl; bytes = refl })
  measures_of (Dir' shape members) a (es, is, h) =
      let among = measures_among members es h in
      measures_at (Dir' shape members) a _ is (record {
        depth = omega (arith, among.depth);
        count = among.count;
        bytes = among.bytes;
      })

  measures_among : {m : _} (row : Row_of-Member m) (entries : Entries) → AreEntriesOf row entries
      → AreMeasuresAmong row entries
  measures_among end_of-Member entries h = record {
    depth = sym (ap depth_of_entries h);
    count = sym (ap count_of_entries h);
    bytes = sym (ap bytes_of_entries h);
  }
  measures_among (more_of-Member name tree rest) entries (node, others, of, beside, more) =
      let one = measures_of tree node of in
      let among = measures_among rest others more in
      let both = beside_measures name.items node others entries beside in
      record {
        depth = omega (arith, one.depth, among.depth, both.depth);
        count = omega (arith, one.count, among.count, both.count);
        bytes = omega (arith, one.bytes, among.bytes, both.bytes);
      }

pub measured_alike : (tree : Tree) (a : Archived) → IsArchiveOf tree a → IsMeasuredAlike tree a
measured_alike tree a h =
    let are = measures_of tree a h in
    record {
      limits = (
        λ fits. record {
          depth = omega (arith, are.depth, fits.depth);
          entries = omega (arith, are.count, fits.entries);
          bytes = omega (arith, are.bytes, fits.bytes);
        },
        λ keeps. record {
          depth = omega (arith, are.depth, keeps.depth);
          entries = omega (arith, are.count, keeps.entries);
          bytes = omega (arith, are.bytes, keeps.bytes);
        },
      );
      occurs = λ part. pieces_alike (Within part) tree a h;
    }
