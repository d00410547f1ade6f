-- What a scanner is fed at the tokens of a tree, and what it finds then.
use Rattle.std.proofs.Common.{◌≡◌, ◌∙◌, ℕ, List, [], ◌∷◌, ◌++◌, map, refl, ap, sym, subst, append_assoc, append-nil}
use Rattle.std.specs.Prelude.{◌↔◌, Contains, IsTrue}
use Rattle.nix_archive.specs.Tokens.{Token, EntryEnded, FolderEnded, FileByte, FileEnded, tokens_of, tokens_among}
use Rattle.nix_archive.specs.Trees.{Tree as Archived, Entries, File, Link, Folder, NoEntries, Entry}
use Rattle.nix_names.specs.Bytes.{Bytes, Path}
use Rattle.nix_names.specs.StorePaths.{hash_part_of, is_hash_part}
use Rattle.ref_scan.specs.ArchivedTrees.{archived_pieces, pieces_of_entries}
use Rattle.ref_scan.specs.Feed.{Feed, lists_of}
use Rattle.ref_scan.specs.Hearing.{AreTokensShort, IsFoundAtHearing, fed_by}
use Rattle.ref_scan.specs.Scan.{IsFoundIn, OccursIn}
use Rattle.ref_scan.specs.Trees.{pieces}
use Rattle.ref_scan.specs.declared.hearers.tree_scanner.TreeScanner.{TreeScanner}
use Rattle.ref_scan.proofs.ArchivedMeasures.{measured_alike}
use Rattle.ref_scan.proofs.Pieces.{found_before_none}

abbrev feed_of : (permitted : List Path) (ended : List Bytes) (present : Bytes) → Feed
feed_of permitted ended present =
    record { permitted = permitted; ended = ended; present = present }

-- ---- a piece

pub piece_fed : (feed : Feed) (bytes : Bytes) → fed_by (map FileByte bytes) feed
    ≡ record feed { present = feed.present ++ bytes }
piece_fed feed [] = ap (λ l. record feed { present = l }) (sym (append-nil feed.present))
piece_fed feed (b ∷ bs) =
    piece_fed (record feed { present = feed.present ++ b ∷ [] }) bs
    ∙ ap (λ l. record feed { present = l }) (append_assoc feed.present (b ∷ []) bs)

pub piece_short : (bytes : Bytes) → AreTokensShort (map FileByte bytes)
piece_short [] = tt
piece_short (b ∷ bs) = (tt, piece_short bs)

-- ---- a tree

bytes_fed : (p : List Path) (e : List Bytes) (bytes present : Bytes) (rest : List Token)
    → fed_by (map FileByte bytes ++ rest) (feed_of p e present)
    ≡ fed_by rest (feed_of p e (present ++ bytes))
bytes_fed p e [] present rest =
    ap (λ l. fed_by rest (feed_of p e l)) (sym (append-nil present))
bytes_fed p e (b ∷ bs) present rest =
    bytes_fed p e bs (present ++ b ∷ []) rest
    ∙ ap (λ l. fed_by rest (feed_of p e l)) (append_assoc present (b ∷ []) bs)

mutual
  tree_fed : (p : List Path) (e : List Bytes) (tree : Archived) (rest : List Token)
      → fed_by (tokens_of tree ++ rest) (feed_of p e [])
      ≡ fed_by rest (feed_of p (e ++ archived_pieces tree) [])
  tree_fed p e (File executable bytes) rest =
      ap (λ l. fed_by l (feed_of p e []))
      (append_assoc (map FileByte bytes) (FileEnded _ ∷ []) rest)
      ∙ bytes_fed p e bytes [] (FileEnded _ ∷ rest)
  tree_fed p e (Link target) rest = refl
  tree_fed p e (Folder entries) rest =
      ap (λ l. fed_by l (feed_of p e []))
      (append_assoc (tokens_among entries) (FolderEnded ∷ []) rest)
      ∙ entries_fed p e entries (FolderEnded ∷ rest)

  entries_fed : (p : List Path) (e : List Bytes) (entries : Entries) (rest : List Token)
      → fed_by (tokens_among entries ++ rest) (feed_of p e [])
      ≡ fed_by rest (feed_of p (e ++ pieces_of_entries entries) [])
  entries_fed p e NoEntries rest = ap (λ l. fed_by rest (feed_of p l [])) (sym (append-nil e))
  entries_fed p e (Entry name tree others) rest =
      let one : List Bytes = e ++ name ∷ [] in
      ap (λ l. fed_by l (feed_of p one []))
      (append_assoc (tokens_of tree) (EntryEnded ∷ tokens_among others) rest)
      ∙ tree_fed p one tree (EntryEnded ∷ (tokens_among others ++ rest))
      ∙ entries_fed p (one ++ archived_pieces tree) others rest
      ∙ ap (λ l. fed_by rest (feed_of p l []))
      (append_assoc one (archived_pieces tree) (pieces_of_entries others)
      ∙ append_assoc e (name ∷ []) (archived_pieces tree ++ pieces_of_entries others))

whole_fed : (p : List Path) (tree : Archived) → fed_by (tokens_of tree) (feed_of p [] [])
    ≡ feed_of p (archived_pieces tree) []
whole_fed p tree =
    ap (λ l. fed_by l (feed_of p [] [])) (sym (append-nil (tokens_of tree)))
    ∙ tree_fed p [] tree []

-- ---- what is found

alike_found : (xs ys : List Bytes) (permitted found : List Path)
    → ((part : Bytes) → OccursIn part xs ↔ OccursIn part ys) → IsFoundIn ys permitted found
    → IsFoundIn xs permitted found
alike_found xs ys permitted found alike h = record {
  rising = h.rising;
  each = λ path. (
    λ has. let one = (h.each path).0 has in (one.0, (alike (hash_part_of path)).1 one.1),
    λ one. (h.each path).1 (one.0, (alike (hash_part_of path)).0 one.1),
  );
}

pub found_at_hearing : (scanner : TreeScanner) (found : List Path)
    → IsFoundIn (lists_of scanner.scanner) scanner.scanner.permitted found
    → ((path : List ℕ) → Contains scanner.scanner.permitted path
    → IsTrue (is_hash_part (hash_part_of path))) → IsFoundAtHearing scanner found
found_at_hearing scanner found is parts permitted new tree archived begun heard of =
    let fed : scanner.scanner ≡ feed_of permitted (archived_pieces archived) [] =
    heard.fed ∙ ap (fed_by (tokens_of archived)) begun ∙ whole_fed permitted archived in
    alike_found (pieces tree) (archived_pieces archived) permitted found
    (measured_alike tree archived of).occurs
    (found_before_none (archived_pieces archived) permitted found
    (λ path has. parts path (subst (λ (f : Feed). Contains f.permitted path) (sym fed) has))
    (subst (λ (f : Feed). IsFoundIn (lists_of f) f.permitted found) fed is))
