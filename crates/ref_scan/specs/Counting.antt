-- The entries, the bytes and the levels of which the tokens of a tree tell, and the limits of an
-- output.
use Rattle.std.specs.Prelude.{◌≡◌, ◌↔◌, ◌+◌, ◌-◌, ◌<◌, ◌≤◌, ◌^◌, max, min, sum_by, ℕ, List, [], ◌∷◌, ◌++◌, length}
use Rattle.nix_archive.specs.Tokens.{Token, EntryBegun, EntryEnded, FileByte, LinkTo, tokens_of}
use Rattle.nix_archive.specs.Trees.{Tree as Archived}
use Rattle.ref_scan.specs.ArchivedTrees.{KeepsLimits}
use Rattle.ref_scan.specs.declared.hearers.tree_counts.TreeCounts.{TreeCounts}

-- how many entries begin at a token
abbrev pub entries_at : Token → ℕ
entries_at (EntryBegun name) = 1
entries_at token = 0

-- how many bytes of files and of links' targets a token has
abbrev pub bytes_at : Token → ℕ
bytes_at (FileByte byte) = 1
bytes_at (LinkTo target) = length target
bytes_at token = 0

-- the level after a token, which is in how many entries one is, from the level before it
abbrev pub level_at : (level : ℕ) → Token → ℕ
level_at level (EntryBegun name) = level + 1
level_at level EntryEnded = level - 1
level_at level token = level

-- how many entries begin
abbrev pub entries_heard : List Token → ℕ
entries_heard said = sum_by entries_at said

-- how many bytes files and links' targets have together
abbrev pub bytes_heard : List Token → ℕ
bytes_heard said = sum_by bytes_at said

-- the level after some tokens
abbrev pub level_after : (level : ℕ) → List Token → ℕ
level_after level [] = level
level_after level (token ∷ said) = level_after (level_at level token) said

-- the deepest level before, between and after some tokens
abbrev pub deepest_from : (level : ℕ) → List Token → ℕ
deepest_from level [] = level
deepest_from level (token ∷ said) = max level (deepest_from (level_at level token) said)

-- The tokens keep the limits of an output: 65,536 entries, 64 MiB of files and targets, and 31
-- levels below the root.
pub record KeepWithin (said : List Token) : Type 0 where
  pub entries : entries_heard said ≤ 65536
  pub bytes : bytes_heard said ≤ 67108864
  pub levels : deepest_from 0 said ≤ 31

-- a number, or 2^64 - 1 if it is more
abbrev pub in_64_bits : ℕ → ℕ
in_64_bits number = min number (2 ^ 64 - 1)

-- Counts are those of these tokens, from the begin of a tree on.
pub record AreCountsOf (said : List Token) (counts : TreeCounts) : Type 0 where
  pub entries : counts.entries ≡ in_64_bits (entries_heard said)
  pub bytes : counts.bytes ≡ in_64_bits (bytes_heard said)
  pub deepest : counts.deepest ≡ in_64_bits (deepest_from 0 said)
  pub level : deepest_from 0 said < 2 ^ 64 → counts.level ≡ level_after 0 said

-- nothing was counted
abbrev pub IsNewCounts : TreeCounts → Type 0
IsNewCounts counts = AreCountsOf [] counts

-- counts became others by hearing some tokens, after any that they had heard
abbrev pub IsCountHeard : TreeCounts → List Token → TreeCounts → Type 0
IsCountHeard before said after = (earlier : List Token) → AreCountsOf earlier before
    → AreCountsOf (earlier ++ said) after

-- What was counted keeps the limits.
pub record IsWithin (counts : TreeCounts) : Type 0 where
  pub entries : counts.entries ≤ 65536
  pub bytes : counts.bytes ≤ 67108864
  pub levels : counts.deepest ≤ 31

-- counts of tokens tell whether these keep the limits
abbrev pub CountsTellLimits : Type 0
CountsTellLimits = (new counts : TreeCounts) (said : List Token) → IsNewCounts new
    → IsCountHeard new said counts → IsWithin counts ↔ KeepWithin said

-- counts of all of a tree tell whether it keeps the limits
abbrev pub CountsHearLimits : Type 0
CountsHearLimits = (new counts : TreeCounts) (archived : Archived) → IsNewCounts new
    → IsCountHeard new (tokens_of archived) counts → IsWithin counts ↔ KeepsLimits archived

-- a tree that is heard is past the limits as soon as what was heard of it is
abbrev pub CountsStayPast : Type 0
CountsStayPast = (new counts : TreeCounts) (said later : List Token) (archived : Archived)
    → IsNewCounts new → IsCountHeard new said counts → tokens_of archived ≡ said ++ later
    → KeepsLimits archived → IsWithin counts
