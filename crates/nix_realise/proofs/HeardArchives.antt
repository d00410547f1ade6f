-- What was heard of an archive: what is printed of it, and its sums and digests.
use Rattle.std.proofs.Common.{◌≡◌, ◌∙◌, ℕ, false, List, [], ◌++◌, Option, Some, None, ap, arith, refl, subst, sym}
use Rattle.std.proofs.lemmas.Option.{same_Some}
use Rattle.std.specs.Io.KnownBytes.{Appends, Keeps}
use Rattle.std.specs.Prelude.{IfSome}
use Rattle.nix_archive.specs.Archive.{magic, nar}
use Rattle.nix_archive.specs.Sums.{IsSum, IsSummed}
use Rattle.nix_archive.specs.Texts.{text_of}
use Rattle.nix_archive.specs.Tokens.{tokens_of}
use Rattle.nix_archive.specs.Trees.{IsArchivable, Tree}
use Rattle.nix_archive.specs.private.SumLaws.{summed_both}
use Rattle.nix_archive.proofs.Texts.{text_of_tree}
use Rattle.nix_names.specs.declared.digest.Algorithm.{Algorithm}
use Rattle.build_outcome.specs.Sinks.{Hashes, IsHashedBy}
use Rattle.build_outcome.specs.declared.hearers.algorithm_sink.AlgorithmSink.{AlgorithmSink}
use Rattle.nix_realise.specs.ArchiveEndings.{IsNar}
use Rattle.nix_realise.specs.private.Printing.{IsPrinted, printed_both}
use Rattle.nix_realise.specs.declared.archives.dump.PrintSink.{PrintSink}

-- what is written at a tree's tokens after the first string is its archive
pub archive_of : (tree : Tree) → magic ++ text_of (tokens_of tree) ≡ nar tree
archive_of tree = ap (λ l. magic ++ l) (text_of_tree tree)

appends_keeps : (a b c : Option (List ℕ)) (bytes : List ℕ) → Appends a b bytes → Keeps b c
    → Appends a c bytes
appends_keeps None b c bytes h k = tt
appends_keeps (Some x) None c bytes h k = absurd h
appends_keeps (Some x) (Some y) None bytes h k = absurd k
appends_keeps (Some x) (Some y) (Some z) bytes h k = k ∙ h

-- a whole archive was printed, and flushed
pub dumped : {O : Type 0} (contents : O → Option (List ℕ)) (first begun last : PrintSink O)
    (tree : Tree) (old after : O)
    → IsArchivable tree → first.out.now ≡ old → IsPrinted contents first magic begun
    → IsPrinted contents begun (text_of (tokens_of tree)) last → last.refused ≡ false
    → Keeps (contents last.out.now) (contents after)
    → (archive : List ℕ) × IsNar archive × Appends (contents old) (contents after) archive
dumped contents first begun last tree old after archivable same head body fine kept =
    let whole =
    printed_both contents first begun last magic (text_of (tokens_of tree)) head body in
    let printed : Appends (contents old) (contents last.out.now) (nar tree) =
    subst (λ (o : _). Appends (contents o) (contents last.out.now) (nar tree)) same
    (subst (Appends (contents first.out.now) (contents last.out.now)) (archive_of tree)
    (whole.1 fine).1) in (
      nar tree,
      record { tree = tree; archivable = archivable; is_of = refl },
      appends_keeps (contents old) (contents last.out.now) (contents after) (nar tree) printed
          kept,
    )

-- what is summed at a tree's tokens after the first string is its archive
pub sum_of_tree : {D : Type 0} (holds : D → List ℕ → Type 0) (tree : Tree)
    (first begun last : ℕ) (hasher middle hashes : D)
    → IsSum holds [] first hasher → IsSummed holds magic first hasher begun middle
    → IsSummed holds (text_of (tokens_of tree)) begun middle last hashes
    → IsSum holds (nar tree) last hashes
sum_of_tree holds tree first begun last hasher middle hashes fresh head body =
    let text = text_of (tokens_of tree) in
    let both = summed_both holds magic text first begun last hasher middle hashes head body in
    let none : first ≡ 0 = omega (arith, fresh.counted) in
    subst (λ l. IsSum holds l last hashes) (archive_of tree) record {
      counted = omega (arith, none, both.counted (omega (arith, none)));
      held = both.held [] fresh.held;
    }

-- a sink that hashed what is written there hashed the archive
pub archive_hashed : (first begun last : AlgorithmSink) (algorithm : Algorithm) (tree : Tree)
    → Hashes first algorithm [] → IsHashedBy first magic begun
    → IsHashedBy begun (text_of (tokens_of tree)) last → Hashes last algorithm (nar tree)
archive_hashed first begun last algorithm tree fresh head body =
    subst (Hashes last algorithm) (archive_of tree)
    (body algorithm magic (head algorithm [] fresh))

-- what holds of a value that is there
pub at_some : {X : Type 0} (P : X → Type 0) (found : Option X) (x : X) → found ≡ Some x
    → IfSome found P → P x
at_some P None x is h = absurd cc
at_some P (Some y) x is h = subst P (same_Some y x is) h
