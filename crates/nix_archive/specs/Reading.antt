-- What reading some bytes of an archive means.
use Rattle.std.specs.Prelude.{◌≡◌, ◌<◌, take, ◌+◌, Result, Ok, Err, List, ◌++◌, length}
use Rattle.nix_archive.specs.Trees.{Bytes, Tree, IsArchivable}
use Rattle.nix_archive.specs.Archive.{nar}
use Rattle.nix_archive.specs.Tokens.{Token, tokens_of}
use Rattle.nix_archive.specs.declared.fault.ArchiveFault.{ArchiveFault}
use Rattle.nix_archive.specs.declared.fault.ArchiveFault.TheVariants.{NoMemory, BadNar}

-- A reader that may be followed by P became one that may be followed by Q, by reading some bytes,
-- and the hearer heard of them.
pub record IsStep {S : Type 0} (heard : S → List Token → S → Type 0) (before after : S)
    (P Q : List Token → Bytes → Type 0) (read : Bytes) : Type 0 where
  pub said : List Token
  pub hears : heard before said after
  pub sound : (ts : List Token) (u : Bytes) → Q ts u → P (said ++ ts) (read ++ u)
  pub complete : (ts : List Token) (u : Bytes) → P ts (read ++ u) → (later : List Token) × Q later u

-- Something follows that begins with these bytes.
pub record IsBegun (P : List Token → Bytes → Type 0) (read : Bytes) : Type 0 where
  pub tokens : List Token
  pub rest : Bytes
  pub follows : P tokens (read ++ rest)

-- nothing follows that begins with these bytes
abbrev pub IsRefused : (P : List Token → Bytes → Type 0) (read : Bytes) → Type 0
IsRefused P read = (ts : List Token) (u : Bytes) → P ts (read ++ u) → ⊥

-- what may follow by one may follow by the other
pub record IsSame (P Q : List Token → Bytes → Type 0) : Type 0 where
  pub to : (ts : List Token) (u : Bytes) → P ts u → Q ts u
  pub from : (ts : List Token) (u : Bytes) → Q ts u → P ts u

-- the tokens and archives of trees
pub record IsArchive (ts : List Token) (u : Bytes) : Type 0 where
  pub tree : Tree
  pub archivable : IsArchivable tree
  pub said : ts ≡ tokens_of tree
  pub read : u ≡ nar tree

-- What is answered for a piece of an archive: it was read; or the offset of the first byte with
-- which nothing follows; or memory was refused.
abbrev pub IsFed : {S : Type 0} (heard : S → List Token → S → Type 0) (before after : S)
    (P Q : List Token → Bytes → Type 0) (piece : Bytes) → Result (Unit {0}) ArchiveFault → Type 0
IsFed heard before after P Q piece (Ok done) = IsStep heard before after P Q piece
IsFed heard before after P Q piece (Err (BadNar offset)) = (offset < length piece)
    × IsBegun P (take offset piece) × IsRefused P (take (offset + 1) piece)
IsFed heard before after P Q piece (Err NoMemory) = Unit {0}
