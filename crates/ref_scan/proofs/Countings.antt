-- What the tokens of a tree count.
use Rattle.std.proofs.Common.{◌≡◌, ◌∙◌, ◌≤◌, ℕ, ◌+◌, ◌-◌, ◌^◌, max, List, [], ◌∷◌, ◌++◌, length, map, refl, ap, sym, subst, append_assoc, arith, inl, inr}
use Rattle.std.proofs.lemmas.Bool.{cases_lt}
use Rattle.std.specs.Prelude.{◌↔◌}
use Rattle.std.proofs.lemmas.List.Sums.{sum_by-append, sum_by-cons, sum_by_push}
use Rattle.nix_archive.specs.Tokens.{Token, FolderBegun, EntryBegun, EntryEnded, FolderEnded, FileBegun, FileByte, FileEnded, LinkTo, tokens_of, tokens_among}
use Rattle.nix_archive.specs.Trees.{Bytes, Tree as Archived, Entries, File, Link, Folder, NoEntries, Entry}
use Rattle.ref_scan.specs.ArchivedTrees.{KeepsLimits, archived_bytes, archived_depth, archived_entries, bytes_of_entries, count_of_entries, depth_of_entries}
use Rattle.ref_scan.specs.Counting.{AreCountsOf, CountsHearLimits, CountsStayPast, CountsTellLimits, IsWithin, KeepWithin, bytes_at, bytes_heard, deepest_from, entries_at, entries_heard, in_64_bits, level_after, level_at}
use Rattle.ref_scan.specs.declared.hearers.tree_counts.TreeCounts.{TreeCounts}

-- ---- tokens after others

level_least : (l : ℕ) (ts : List Token) → l ≤ deepest_from l ts
level_least l [] = omega arith
level_least l (t ∷ ts) = omega arith

level_most : (l : ℕ) (ts : List Token) → level_after l ts ≤ deepest_from l ts
level_most l [] = omega arith
level_most l (t ∷ ts) = omega (arith, level_most (level_at l t) ts)

level_both : (l : ℕ) (xs ys : List Token)
    → level_after l (xs ++ ys) ≡ level_after (level_after l xs) ys
level_both l [] ys = refl
level_both l (x ∷ xs) ys = level_both (level_at l x) xs ys

deepest_both : (l : ℕ) (xs ys : List Token) → deepest_from l (xs ++ ys)
    ≡ max (deepest_from l xs) (deepest_from (level_after l xs) ys)
deepest_both l [] ys = omega (arith, level_least l ys)
deepest_both l (x ∷ xs) ys = omega (arith, deepest_both (level_at l x) xs ys)

-- Tokens count so many entries and bytes, lead so many levels down, and back.
pub record Measures (ts : List Token) (e b d : ℕ) : Type 0 where
  pub entries : entries_heard ts ≡ e
  pub bytes : bytes_heard ts ≡ b
  pub level : (l : ℕ) → level_after l ts ≡ l
  pub deepest : (l : ℕ) → deepest_from l ts ≡ l + d

measure_none : Measures [] 0 0 0
measure_none = record {
  entries = refl;
  bytes = refl;
  level = λ l. refl;
  deepest = λ l. omega arith;
}

measure_both : (xs ys : List Token) (e b d e' b' d' : ℕ) → Measures xs e b d → Measures ys e' b' d'
    → Measures (xs ++ ys) (e + e') (b + b') (max d d')
measure_both xs ys e b d e' b' d' h k = record {
  entries = omega (arith, sum_by-append entries_at xs ys, h.entries, k.entries);
  bytes = omega (arith, sum_by-append bytes_at xs ys, h.bytes, k.bytes);
  level = λ l. level_both l xs ys ∙ ap (λ n. level_after n ys) (h.level l) ∙ k.level l;
  deepest = λ l.
      let later : deepest_from (level_after l xs) ys ≡ l + d' =
      ap (λ n. deepest_from n ys) (h.level l) ∙ k.deepest l in
      omega (arith, deepest_both l xs ys, later, h.deepest l);
}

-- a token that leads to no other level
pub measure_one : (t : Token) → ((l : ℕ) → level_at l t ≡ l)
    → Measures (t ∷ []) (entries_at t) (bytes_at t) 0
measure_one t stays = record {
  entries = omega arith;
  bytes = omega arith;
  level = stays;
  deepest = λ l. omega (arith, stays l);
}

pub measure_bytes : (bytes : Bytes) → Measures (map FileByte bytes) 0 (length bytes) 0
measure_bytes [] = measure_none
measure_bytes (b ∷ bs) =
    let same : 1 + length bs ≡ length (b ∷ bs) = omega arith in
    subst (λ (n : ℕ). Measures (map FileByte (b ∷ bs)) 0 n 0) same
    (measure_both (FileByte b ∷ []) (map FileByte bs) 0 1 0 0 (length bs) 0
    (measure_one (FileByte b) (λ l. refl)) (measure_bytes bs))

-- an entry, with what stands under its name
measure_entry : (name : Bytes) (ts : List Token) (e b d : ℕ) → Measures ts e b d
    → Measures (EntryBegun name ∷ (ts ++ EntryEnded ∷ [])) (1 + e) b (1 + d)
measure_entry name ts e b d h = record {
  entries = omega (
    arith,
    sum_by-cons entries_at (EntryBegun name) (ts ++ EntryEnded ∷ []),
    sum_by-append entries_at ts (EntryEnded ∷ []),
    h.entries,
  );
  bytes = omega (
    arith,
    sum_by-cons bytes_at (EntryBegun name) (ts ++ EntryEnded ∷ []),
    sum_by-append bytes_at ts (EntryEnded ∷ []),
    h.bytes,
  );
  level = λ l. omega (arith, level_both (l + 1) ts (EntryEnded ∷ []), h.level (l + 1));
  deepest = λ l. omega (
    arith,
    deepest_both (l + 1) ts (EntryEnded ∷ []),
    h.level (l + 1),
    h.deepest (l + 1),
  );
}

-- ---- trees

-- the levels below a tree's root
abbrev below : Archived → ℕ
below (File executable bytes) = 0
below (Link target) = 0
below (Folder entries) = depth_of_entries entries

depth_is : (a : Archived) → archived_depth a ≡ 1 + below a
depth_is (File _ _) = refl
depth_is (Link _) = refl
depth_is (Folder _) = refl

-- after a token that counts nothing, and before one
measure_within : (first last : Token) (ts : List Token) (e b d : ℕ)
    → Measures (first ∷ []) 0 0 0 → Measures (last ∷ []) 0 0 0 → Measures ts e b d
    → Measures (first ∷ (ts ++ last ∷ [])) e b d
measure_within first last ts e b d before after h =
    let whole = measure_both (first ∷ []) (ts ++ last ∷ []) 0 0 0 (e + 0) (b + 0) (max d 0) before
    (measure_both ts (last ∷ []) e b d 0 0 0 h after) in
    record {
      entries = omega (arith, whole.entries);
      bytes = omega (arith, whole.bytes);
      level = whole.level;
      deepest = λ l. omega (arith, whole.deepest l);
    }

mutual
  measure_tree : (a : Archived)
      → Measures (tokens_of a) (archived_entries a) (archived_bytes a) (below a)
  measure_tree (File executable bytes) =
      measure_within (FileBegun executable (length bytes)) (FileEnded (length bytes))
      (map FileByte bytes) 0 (length bytes) 0
      (measure_one (FileBegun executable (length bytes)) (λ l. refl))
      (measure_one (FileEnded (length bytes)) (λ l. refl)) (measure_bytes bytes)
  measure_tree (Link target) = measure_one (LinkTo target) (λ l. refl)
  measure_tree (Folder entries) =
      measure_within FolderBegun FolderEnded (tokens_among entries) (count_of_entries entries)
      (bytes_of_entries entries) (depth_of_entries entries) (measure_one FolderBegun (λ l. refl))
      (measure_one FolderEnded (λ l. refl)) (measure_entries entries)

  measure_entries : (entries : Entries) → Measures (tokens_among entries)
      (count_of_entries entries) (bytes_of_entries entries) (depth_of_entries entries)
  measure_entries NoEntries = measure_none
  measure_entries (Entry name tree rest) =
      let one : List Token = EntryBegun name ∷ (tokens_of tree ++ EntryEnded ∷ []) in
      let together : one ++ tokens_among rest ≡ tokens_among (Entry name tree rest) =
      ap (λ l. EntryBegun name ∷ l)
      (append_assoc (tokens_of tree) (EntryEnded ∷ []) (tokens_among rest)) in
      let deep : max (1 + below tree) (depth_of_entries rest)
      ≡ max (archived_depth tree) (depth_of_entries rest) =
      ap (λ n. max n (depth_of_entries rest)) (sym (depth_is tree)) in
      subst (λ (ts : List Token). Measures ts (1 + archived_entries tree + count_of_entries rest)
      (archived_bytes tree + bytes_of_entries rest)
      (max (archived_depth tree) (depth_of_entries rest))) together
      (subst (Measures (one ++ tokens_among rest)
      (1 + archived_entries tree + count_of_entries rest)
      (archived_bytes tree + bytes_of_entries rest)) deep
      (measure_both one (tokens_among rest) (1 + archived_entries tree) (archived_bytes tree)
      (1 + below tree) (count_of_entries rest) (bytes_of_entries rest) (depth_of_entries rest)
      (measure_entry name (tokens_of tree) (archived_entries tree) (archived_bytes tree)
      (below tree) (measure_tree tree)) (measure_entries rest)))

-- ---- counts

-- counts became others by tokens that lead to no other level
pub counted_level : (s t : TreeCounts) (earlier said : List Token) (bytes : ℕ)
    → Measures said 0 bytes 0 → AreCountsOf earlier s → t.entries ≡ s.entries
    → t.bytes ≡ in_64_bits (s.bytes + bytes) → t.level ≡ s.level → t.deepest ≡ s.deepest
    → AreCountsOf (earlier ++ said) t
counted_level s t earlier said bytes h are p q r u =
    let same : deepest_from 0 (earlier ++ said) ≡ deepest_from 0 earlier =
    omega (
      arith,
      deepest_both 0 earlier said,
      h.deepest (level_after 0 earlier),
      level_most 0 earlier,
    ) in
    record {
      entries = omega (arith, sum_by-append entries_at earlier said, h.entries, are.entries, p);
      bytes = omega (arith, sum_by-append bytes_at earlier said, h.bytes, are.bytes, q);
      deepest = u ∙ are.deepest ∙ sym (ap in_64_bits same);
      level = λ few. r ∙ are.level (omega (arith, few, same))
          ∙ sym (level_both 0 earlier said ∙ h.level (level_after 0 earlier));
    }

pub counted_begin : (s t : TreeCounts) (earlier : List Token) (name : Bytes) → AreCountsOf earlier s
    → t.entries ≡ in_64_bits (s.entries + 1) → t.bytes ≡ s.bytes
    → t.level ≡ in_64_bits (s.level + 1) → t.deepest ≡ max s.deepest t.level
    → AreCountsOf (earlier ++ EntryBegun name ∷ []) t
counted_begin s t earlier name are p q r u =
    let deep = deepest_both 0 earlier (EntryBegun name ∷ []) in
    let most = level_most 0 earlier in
    let begun = level_both 0 earlier (EntryBegun name ∷ []) in
    record {
      entries = omega (arith, sum_by_push entries_at earlier (EntryBegun name), are.entries, p);
      bytes = omega (arith, sum_by_push bytes_at earlier (EntryBegun name), are.bytes, q);
      deepest = elim (cases_lt (deepest_from 0 earlier) (2 ^ 64)) [
        | inl few ↦ omega (arith, are.level few, are.deepest, deep, most, r, u)
        | inr past ↦ omega (arith, are.deepest, deep, r, u, past)
      ];
      level = λ few. omega (arith, are.level (omega (arith, few, deep)), deep, most, begun, r, few);
    }

pub counted_end : (s t : TreeCounts) (earlier : List Token) → AreCountsOf earlier s
    → t.entries ≡ s.entries → t.bytes ≡ s.bytes → t.level ≡ s.level - 1 → t.deepest ≡ s.deepest
    → AreCountsOf (earlier ++ EntryEnded ∷ []) t
counted_end s t earlier are p q r u =
    let deep = deepest_both 0 earlier (EntryEnded ∷ []) in
    let most = level_most 0 earlier in
    record {
      entries = omega (arith, sum_by_push entries_at earlier EntryEnded, are.entries, p);
      bytes = omega (arith, sum_by_push bytes_at earlier EntryEnded, are.bytes, q);
      deepest = omega (arith, are.deepest, deep, most, u);
      level = λ few. omega (
        arith,
        are.level (omega (arith, few, deep)),
        level_both 0 earlier (EntryEnded ∷ []),
        r,
      );
    }

-- the limits
counts_tell : (said : List Token) (counts : TreeCounts) → AreCountsOf said counts
    → IsWithin counts ↔ KeepWithin said
counts_tell said counts are = (
  λ within. record {
    entries = omega (arith, are.entries, within.entries);
    bytes = omega (arith, are.bytes, within.bytes);
    levels = omega (arith, are.deepest, within.levels);
  },
  λ keep. record {
    entries = omega (arith, are.entries, keep.entries);
    bytes = omega (arith, are.bytes, keep.bytes);
    levels = omega (arith, are.deepest, keep.levels);
  },
)

tree_keeps : (a : Archived) → KeepWithin (tokens_of a) ↔ KeepsLimits a
tree_keeps a =
    let h = measure_tree a in (
      λ keep. record {
        depth = omega (arith, depth_is a, h.deepest 0, keep.levels);
        entries = omega (arith, h.entries, keep.entries);
        bytes = omega (arith, h.bytes, keep.bytes);
      },
      λ keeps. record {
        entries = omega (arith, h.entries, keeps.entries);
        bytes = omega (arith, h.bytes, keeps.bytes);
        levels = omega (arith, depth_is a, h.deepest 0, keeps.depth);
      },
    )

pub counts_tell_limits : CountsTellLimits
counts_tell_limits new counts said begun heard = counts_tell said counts (heard [] begun)

pub counts_hear_limits : CountsHearLimits
counts_hear_limits new counts archived begun heard =
    let told = counts_tell (tokens_of archived) counts (heard [] begun) in
    let keeps = tree_keeps archived in
    (λ within. keeps.0 (told.0 within), λ limits. told.1 (keeps.1 limits))

-- what keeps the limits does so without its last tokens
keep_before : (said later : List Token) → KeepWithin (said ++ later) → KeepWithin said
keep_before said later keep = record {
  entries = omega (arith, sum_by-append entries_at said later, keep.entries);
  bytes = omega (arith, sum_by-append bytes_at said later, keep.bytes);
  levels = omega (arith, deepest_both 0 said later, keep.levels);
}

pub counts_stay_past : CountsStayPast
counts_stay_past new counts said later archived begun heard whole keeps =
    (counts_tell said counts (heard [] begun)).1
    (keep_before said later
    (subst (λ (ts : List Token). KeepWithin ts) whole ((tree_keeps archived).1 keeps)))
