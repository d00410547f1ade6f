-- Where the bytes of a file stop being a journal: the first bad line.
use Rattle.std.specs.Prelude.{◌≡◌, ◌≢◌, ◌⊎◌, ℕ, zero, suc, List, [], ◌∷◌, ◌++◌, All, IsTrue, codes}
use Rattle.std.specs.Char.{is_ascii_digit}
use Rattle.nix_names.specs.Bytes.{Bytes, Dir}
use Rattle.nix_names.specs.Names.{IsStoreDir}
use Rattle.valid_table.specs.Texts.{IsJournalText}
use Rattle.valid_table.specs.declared.entry.Entry.{Entry}

-- the bytes are `count` lines, each with its newline
abbrev pub AreLines : (count : ℕ) → Bytes → Type 0
AreLines zero bytes = bytes ≡ []
AreLines (suc n) bytes =
    (line : Bytes) × (rest : Bytes) × All (λ b. b ≢ 10) line × (bytes ≡ line ++ (10 ∷ rest))
    × AreLines n rest

-- the bytes begin with an output's letter
abbrev pub BeginsOutput : Bytes → Type 0
BeginsOutput bytes = (rest : Bytes) × (bytes ≡ codes "O " ++ rest)

-- The first `count` lines of the bytes are good, and `rest` is what follows them: the text of some
-- journal begins with these lines. That text ends there, or it goes on with an output, as the bytes
-- do. So a deriver's line is good only where an output's line follows it.
pub record Stands (dir : Dir) (count : ℕ) (bytes rest : Bytes) : Type 0 where
  pub prefix : Bytes
  pub parts : bytes ≡ prefix ++ rest
  pub counted : AreLines count prefix
  pub entries : List Entry
  pub whole : Bytes
  pub is_text : IsJournalText dir entries whole
  pub after : Bytes
  pub begins : whole ≡ prefix ++ after
  pub next : (after ≡ []) ⊎ (BeginsOutput after × BeginsOutput rest)

-- Line n is the first bad one: the lines before it are good, some bytes follow them, and the lines
-- up to line n are not good.
pub record IsBadLine (dir : Dir) (bytes : Bytes) (n : ℕ) : Type 0 where
  pub before : ℕ
  pub is_next : n ≡ suc before
  pub rest : Bytes
  pub some : rest ≢ []
  pub stands : Stands dir before bytes rest
  pub falls : (more : Bytes) → Stands dir n bytes more → ⊥

-- Line 1 is the first line of a journal of a version other than 1, 2 and 3.
pub record IsOtherVersion (bytes : Bytes) : Type 0 where
  pub digits : Bytes
  pub rest : Bytes
  pub some : digits ≢ []
  pub decimal : All (λ b. IsTrue (is_ascii_digit b)) digits
  pub not_one : digits ≢ codes "1"
  pub not_two : digits ≢ codes "2"
  pub not_three : digits ≢ codes "3"
  pub parts : bytes ≡ codes "realiser-journal " ++ (digits ++ (10 ∷ rest))

-- a text of a journal has no bad line
abbrev pub TextsHaveNoBadLine : Type 0
TextsHaveNoBadLine =
    (dir : Dir) (bytes : Bytes) (entries : List Entry) (n : ℕ) → IsStoreDir dir
    → IsJournalText dir entries bytes → IsBadLine dir bytes n → ⊥

-- bytes have at most one first bad line
abbrev pub BadLineIsOne : Type 0
BadLineIsOne = (dir : Dir) (bytes : Bytes) (m n : ℕ) → IsStoreDir dir → IsBadLine dir bytes m
    → IsBadLine dir bytes n → m ≡ n
