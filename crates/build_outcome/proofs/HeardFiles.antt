-- What a hearer of a file hears, and what it tells of a tree.
use Rattle.std.proofs.Common.{◌≡◌, ◌∙◌, ◌↔◌, ◌||◌, ℕ, Bool, true, false, List, [], ◌∷◌, ◌++◌, Option, Some, None, length, map, refl, sym, ap, subst, append-nil}
use Rattle.std.proofs.lemmas.Bool.{false≢true}
use Rattle.std.specs.Prelude.{IsTrue, Result, Ok, Err, OnOk}
use Rattle.std.proofs.lemmas.Grind.{flat_map-append}
use Rattle.nix_archive.specs.Tokens.{Token, EntryBegun, EntryEnded, FileBegun, FileByte, FileEnded, FolderBegun, FolderEnded, LinkTo, tokens_of}
use Rattle.nix_archive.specs.Trees.{Tree as Archived, File, Folder, Link}
use Rattle.nix_names.specs.declared.digest.Algorithm.{Algorithm}
use Rattle.nix_names.specs.declared.digest.Digest.{Digest}
use Rattle.drv_graph.specs.declared.profile.Profile.{Profile}
use Rattle.drv_graph.specs.declared.profile.Profile.TheVariants.{Nix, Plain}
use Rattle.build_outcome.specs.Hearing.{HashesIn, IsFileBegun, IsFileHeard, IsHashedIn, archived_digest, byte_of, bytes_in, has_other, marked}
use Rattle.build_outcome.specs.Verdicts.{digest_by}
use Rattle.build_outcome.specs.declared.hearers.algorithm_sink.AlgorithmSink.{AlgorithmSink}
use Rattle.build_outcome.specs.declared.hearers.file_hearer.FileHearer.{FileHearer}
use Rattle.build_outcome.specs.private.Hearing.{IsFlatArchived, is_flat_heard}
use Rattle.build_outcome.specs.private.HearingLaws.{hashed_in_none}
use Rattle.build_outcome.specs.Sinks.{Hashes}

or_false : (b : Bool) → b ≡ (b || false)
or_false true = refl
or_false false = refl

-- the bytes of a piece, and nothing else
bytes_of_piece : (bytes : List ℕ) → bytes_in (map FileByte bytes) ≡ bytes
bytes_of_piece [] = refl
bytes_of_piece (x ∷ bytes) = ap (λ l. x ∷ l) (bytes_of_piece bytes)

piece_other : (bytes : List ℕ) → has_other (map FileByte bytes) ≡ false
piece_other [] = refl
piece_other (x ∷ bytes) = piece_other bytes

piece_marked : (bytes : List ℕ) (rest : List Token) (executable : Bool)
    → marked (map FileByte bytes ++ rest) executable ≡ marked rest executable
piece_marked [] rest executable = refl
piece_marked (x ∷ bytes) rest executable = piece_marked bytes rest executable

piece_mark : (bytes : List ℕ) (executable : Bool)
    → executable ≡ marked (map FileByte bytes) executable
piece_mark [] executable = refl
piece_mark (x ∷ bytes) executable = piece_mark bytes executable

-- ---- events

pub piece_hashed : (s : FileHearer) (sink : Option AlgorithmSink) (bytes : List ℕ)
    → IsHashedIn s.sink bytes sink
    → IsFileHeard s (map FileByte bytes) (record s { sink = sink })
piece_hashed s sink bytes hashed = record {
  others = or_false s.others ∙ ap (λ b. s.others || b) (sym (piece_other bytes));
  executable = piece_mark bytes s.executable;
  hashed = λ _. subst (λ l. IsHashedIn s.sink l sink) (sym (bytes_of_piece bytes)) hashed;
}

pub piece_hashed_if : {E : Type 0} (s : FileHearer) (sink : Option AlgorithmSink)
    (bytes : List ℕ) (result : Result (Unit {0}) E) → OnOk result (IsHashedIn s.sink bytes sink)
    → OnOk result (IsFileHeard s (map FileByte bytes) (record s { sink = sink }))
piece_hashed_if s sink bytes (Ok done) hashed = piece_hashed s sink bytes hashed
piece_hashed_if s sink bytes (Err e) hashed = tt

-- nothing is hashed once a folder or a link was heard
pub piece_passed : (s : FileHearer) (bytes : List ℕ) → s.others ≡ true
    → IsFileHeard s (map FileByte bytes) s
piece_passed s bytes others = record {
  others = or_false s.others ∙ ap (λ b. s.others || b) (sym (piece_other bytes));
  executable = piece_mark bytes s.executable;
  hashed = λ none. absurd (false≢true (sym none ∙ others));
}

pub mark_heard : (s : FileHearer) (executable : Bool) (size : ℕ)
    → IsFileHeard s (FileBegun executable size ∷ []) (record s { executable = executable })
mark_heard s executable size = record {
  others = or_false s.others;
  executable = refl;
  hashed = λ _. hashed_in_none s.sink;
}

-- ---- whole trees

file_bytes : (bytes : List ℕ)
    → bytes_in (map FileByte bytes ++ FileEnded (length bytes) ∷ []) ≡ bytes
file_bytes bytes =
    flat_map-append byte_of (map FileByte bytes) (FileEnded (length bytes) ∷ [])
    ∙ append-nil (bytes_in (map FileByte bytes)) ∙ bytes_of_piece bytes

file_other : (bytes : List ℕ) (rest : List Token)
    → has_other (map FileByte bytes ++ rest) ≡ has_other rest
file_other [] rest = refl
file_other (x ∷ bytes) rest = file_other bytes rest

-- whether a tree is a folder or a link
abbrev is_no_file : Archived → Bool
is_no_file (File executable bytes) = false
is_no_file (Link target) = true
is_no_file (Folder inside) = true

tree_other : (tree : Archived) → has_other (tokens_of tree) ≡ is_no_file tree
tree_other (File executable bytes) = file_other bytes (FileEnded (length bytes) ∷ [])
tree_other (Link target) = refl
tree_other (Folder inside) = refl

heard_other : (s t : FileHearer) (tree : Archived) → s.others ≡ false
    → IsFileHeard s (tokens_of tree) t → t.others ≡ is_no_file tree
heard_other s t tree none heard =
    heard.others ∙ ap (λ b. b || has_other (tokens_of tree)) none ∙ tree_other tree

heard_mark : (s t : FileHearer) (executable : Bool) (bytes : List ℕ)
    → IsFileHeard s (tokens_of (File executable bytes)) t → t.executable ≡ executable
heard_mark s t executable bytes heard =
    heard.executable ∙ piece_marked bytes (FileEnded (length bytes) ∷ []) executable

flat_by : (profile : Profile) (tree : Archived) (others executable : Bool)
    → others ≡ is_no_file tree
    → ((mark : Bool) (bytes : List ℕ) → tree ≡ File mark bytes → executable ≡ mark)
    → IsTrue (is_flat_heard profile others executable) ↔ IsFlatArchived profile tree
flat_by Plain (File mark bytes) false executable is marks = (λ _. tt, λ _. refl)
flat_by Nix (File mark bytes) false true is marks =
    let same : true ≡ mark = marks mark bytes refl in
    (λ no. absurd (false≢true no), λ none. absurd (false≢true (sym (same ∙ none))))
flat_by Nix (File mark bytes) false false is marks =
    let same : false ≡ mark = marks mark bytes refl in (λ _. sym same, λ _. refl)
flat_by profile (File mark bytes) true executable is marks = absurd (false≢true (sym is))
flat_by profile (Link target) false executable is marks = absurd (false≢true is)
flat_by profile (Link target) true executable is marks =
    (λ no. absurd (false≢true no), λ no. absurd no)
flat_by profile (Folder inside) false executable is marks = absurd (false≢true is)
flat_by profile (Folder inside) true executable is marks =
    (λ no. absurd (false≢true no), λ no. absurd no)

pub flat_told : (profile : Profile) (asked : Option Algorithm) (s t : FileHearer)
    (tree : Archived) → IsFileBegun asked s → IsFileHeard s (tokens_of tree) t
    → IsTrue (is_flat_heard profile t.others t.executable) ↔ IsFlatArchived profile tree
flat_told profile asked s t tree begun heard =
    flat_by profile tree t.others t.executable (heard_other s t tree begun.none heard)
    (λ mark bytes is. heard_mark s t mark bytes
    (subst (λ (a : Archived). IsFileHeard s (tokens_of a) t) is heard))

-- the bytes of a file are hashed by the algorithm that is asked for
file_hashed : (asked : Option Algorithm) (s t : FileHearer) (executable : Bool) (bytes : List ℕ)
    → IsFileBegun asked s → IsFileHeard s (tokens_of (File executable bytes)) t
    → HashesIn t.sink asked bytes
file_hashed asked s t executable bytes begun heard =
    subst (HashesIn t.sink asked) (file_bytes bytes)
    (heard.hashed (heard_other s t (File executable bytes) begun.none heard) asked []
    begun.hashes)

-- a digest is told of the bytes of a file
pub digest_told : (asked : Option Algorithm) (s t : FileHearer) (tree : Archived)
    (sink : AlgorithmSink) (digest : Digest)
    → IsFileBegun asked s → IsFileHeard s (tokens_of tree) t → t.others ≡ false
    → t.sink ≡ Some sink
    → ((by : Algorithm) (bytes : List ℕ) → Hashes sink by bytes → digest ≡ digest_by by bytes)
    → Some digest ≡ archived_digest asked tree
digest_told None s t (File executable bytes) sink digest begun heard none is finish =
    absurd (subst (λ (o : Option AlgorithmSink). HashesIn o None bytes) is
    (file_hashed None s t executable bytes begun heard))
digest_told (Some algorithm) s t (File executable bytes) sink digest begun heard none is finish =
    ap Some (finish algorithm bytes
    (subst (λ (o : Option AlgorithmSink). HashesIn o (Some algorithm) bytes) is
    (file_hashed (Some algorithm) s t executable bytes begun heard)))
digest_told asked s t (Link target) sink digest begun heard none is finish =
    absurd (false≢true (sym none ∙ heard_other s t (Link target) begun.none heard))
digest_told asked s t (Folder inside) sink digest begun heard none is finish =
    absurd (false≢true (sym none ∙ heard_other s t (Folder inside) begun.none heard))

-- none is told where nothing hashed
pub none_told : (asked : Option Algorithm) (s t : FileHearer) (tree : Archived)
    → IsFileBegun asked s → IsFileHeard s (tokens_of tree) t → t.sink ≡ None
    → None ≡ archived_digest asked tree
none_told None s t tree begun heard is = refl
none_told (Some algorithm) s t (File executable bytes) begun heard is =
    absurd (subst (λ (o : Option AlgorithmSink). HashesIn o (Some algorithm) bytes) is
    (file_hashed (Some algorithm) s t executable bytes begun heard))
none_told (Some algorithm) s t (Link target) begun heard is = refl
none_told (Some algorithm) s t (Folder inside) begun heard is = refl

-- none is told of a link and of a folder
pub other_told : (asked : Option Algorithm) (s t : FileHearer) (tree : Archived)
    → IsFileBegun asked s → IsFileHeard s (tokens_of tree) t → t.others ≡ true
    → None ≡ archived_digest asked tree
other_told None s t tree begun heard others = refl
other_told (Some algorithm) s t (File executable bytes) begun heard others =
    absurd (false≢true
    (sym (heard_other s t (File executable bytes) begun.none heard) ∙ others))
other_told (Some algorithm) s t (Link target) begun heard others = refl
other_told (Some algorithm) s t (Folder inside) begun heard others = refl
