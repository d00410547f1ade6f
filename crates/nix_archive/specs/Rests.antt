-- What may follow what a reader has read. Contracts say all that a caller needs of it: what it is
-- at first, and how it changes.
use Rattle.std.specs.Prelude.{suc, List, [], ◌∷◌, ◌++◌}
use Rattle.std.proofs.Math.ListN.{replicate}
use Rattle.nix_archive.specs.Trees.{Bytes}
use Rattle.nix_archive.specs.Tokens.{Token}
use Rattle.nix_archive.specs.declared.mode.Mode.{Mode}
use Rattle.nix_archive.specs.declared.mode.Mode.TheVariants.{Kind, Letter, Mark, More, Size, Contents, Name, Target, End}
use Rattle.nix_archive.specs.declared.mode.What.TheVariants.{File as OfFile, Target as OfTarget, Name as OfName}
use Rattle.nix_archive.specs.declared.reader.ArchiveReader.{ArchiveReader}
use Rattle.nix_archive.specs.Parts.{After, Sized, Counted, open_text, Node, Nodes, Nothing, Outer, file, link, named, names_of, Bytewise, LetterRest, MarkRest}

-- what may follow in a mode, by the bytes seen and the names of the open entries
abbrev pub mode_rest : Mode → (seen : Bytes) (outer : List Bytes) → List Token → Bytes → Type 0
mode_rest Kind seen outer ts u = Node (Outer outer) ts (open_text ++ u)
mode_rest Letter seen outer ts u = LetterRest (Outer outer) ts u
mode_rest Mark seen outer ts u = MarkRest (Outer outer) ts u
mode_rest More seen [] ts u = ⊥
mode_rest More seen (before ∷ outer) ts u = Nodes before (Outer outer) ts u
mode_rest (Size (OfFile executable)) seen outer ts u = Counted (file executable (Outer outer)) ts
    (seen ++ u)
mode_rest (Size OfTarget) seen outer ts u = Counted (link (Outer outer)) ts (seen ++ u)
mode_rest (Size OfName) seen [] ts u = ⊥
mode_rest (Size OfName) seen (before ∷ outer) ts u = Counted (named before outer) ts (seen ++ u)
mode_rest (Contents size more) seen outer ts u = Bytewise size (suc more) (Outer outer) ts u
mode_rest (Target size) seen outer ts u = Sized size (link (Outer outer)) ts (seen ++ u)
mode_rest (Name size tie) seen [] ts u = ⊥
mode_rest (Name size tie) seen (before ∷ outer) ts u =
    Sized size (named before outer) ts (seen ++ u)
mode_rest End seen outer ts u = Nothing ts u

-- what may follow what a reader has read
unfoldable pub reader_rest : ArchiveReader → List Token → Bytes → Type 0
reader_rest r = After (replicate r.zeros 0)
    (After r.text.now (mode_rest r.mode r.seen.items (names_of r.folders.items)))
