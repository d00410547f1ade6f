-- What is heard joins.
use Rattle.std.specs.Prelude.{◌≡◌, ◌||◌, Bool, true, false, Option, Some, None, List, [], ◌∷◌, ◌++◌}
use Rattle.std.specs.List.{flat_map}
use Rattle.std.proofs.Common.{◌∙◌, ap, append-nil, append_assoc, refl, subst, sym}
use Rattle.std.proofs.lemmas.Grind.{flat_map-append}
use Rattle.nix_archive.specs.Texts.{text_of, token_text}
use Rattle.nix_archive.specs.Tokens.{Token, EntryBegun, EntryEnded, FileBegun, FileByte, FileEnded, FolderBegun, FolderEnded, LinkTo}
use Rattle.nix_archive.specs.declared.writer.ArchiveWriter.{ArchiveWriter}
use Rattle.nix_names.specs.Bytes.{Bytes}
use Rattle.ref_scan.specs.private.HearingLaws.{count_both, count_none, scan_both, scan_none}
use Rattle.build_outcome.specs.Hearing.{HashesIn, IsArchiveHeard, IsFileHeard, IsHashedIn, IsOutputHeard, IsWritten, byte_of, bytes_in, has_other, is_other, marked}
use Rattle.build_outcome.specs.private.Sinks.{summed_more, summed_nothing}
use Rattle.build_outcome.specs.declared.hearers.algorithm_sink.AlgorithmSink.{AlgorithmSink}
use Rattle.build_outcome.specs.declared.hearers.archive_hearer.ArchiveHearer.{ArchiveHearer}
use Rattle.build_outcome.specs.declared.hearers.archive_sink.ArchiveSink.{ArchiveSink}
use Rattle.build_outcome.specs.declared.hearers.file_hearer.FileHearer.{FileHearer}
use Rattle.build_outcome.specs.declared.hearers.output_hearer.OutputHearer.{OutputHearer}

-- ---- files

or_none : (b : Bool) → b ≡ (b || false)
or_none true = refl
or_none false = refl

or_both : (a b c : Bool) → ((a || b) || c) ≡ (a || (b || c))
or_both true b c = refl
or_both false b c = refl

other_append : (before after : List Token)
    → has_other (before ++ after) ≡ (has_other before || has_other after)
other_append [] after = refl
other_append (token ∷ before) after =
    ap (λ b. is_other token || b) (other_append before after)
    ∙ sym (or_both (is_other token) (has_other before) (has_other after))

marked_append : (before after : List Token) (executable : Bool)
    → marked (before ++ after) executable ≡ marked after (marked before executable)
marked_append [] after executable = refl
marked_append (FileBegun mark size ∷ before) after executable = marked_append before after mark
marked_append (FolderBegun ∷ before) after executable = marked_append before after executable
marked_append (EntryBegun name ∷ before) after executable = marked_append before after executable
marked_append (EntryEnded ∷ before) after executable = marked_append before after executable
marked_append (FolderEnded ∷ before) after executable = marked_append before after executable
marked_append (FileByte byte ∷ before) after executable = marked_append before after executable
marked_append (FileEnded size ∷ before) after executable = marked_append before after executable
marked_append (LinkTo target ∷ before) after executable = marked_append before after executable

pub hashed_in_none : (s : Option AlgorithmSink) → IsHashedIn s [] s
hashed_in_none s = λ asked before held.
    subst (HashesIn s asked) (sym (append-nil before)) held

hashed_in_both : (s m t : Option AlgorithmSink) (first then : Bytes) → IsHashedIn s first m
    → IsHashedIn m then t → IsHashedIn s (first ++ then) t
hashed_in_both s m t first then h g = λ asked before held.
    subst (HashesIn t asked) (append_assoc before first then)
    (g asked (before ++ first) (h asked before held))

-- where neither of two is so, the first isn't
first_false : (a b : Bool) → (a || b) ≡ false → a ≡ false
first_false false b none = refl
first_false true b none = none

pub file_none : (s : FileHearer) → IsFileHeard s [] s
file_none s = record {
  others = or_none s.others;
  executable = refl;
  hashed = λ _. hashed_in_none s.sink;
}

pub file_both : (s m t : FileHearer) (before after : List Token) → IsFileHeard s before m
    → IsFileHeard m after t → IsFileHeard s (before ++ after) t
file_both s m t before after h g = record {
  others = g.others ∙ ap (λ b. b || has_other after) h.others
      ∙ or_both s.others (has_other before) (has_other after)
      ∙ ap (λ b. s.others || b) (sym (other_append before after));
  executable = g.executable ∙ ap (marked after) h.executable
      ∙ sym (marked_append before after s.executable);
  hashed = λ none. subst (λ l. IsHashedIn s.sink l t.sink)
      (sym (flat_map-append byte_of before after))
      (hashed_in_both s.sink m.sink t.sink (bytes_in before) (bytes_in after)
      (h.hashed (first_false m.others (has_other after) (sym g.others ∙ none))) (g.hashed none));
}

-- ---- archives

written_none : (s : Option (ArchiveWriter ArchiveSink)) → IsWritten s [] s
written_none None = tt
written_none (Some s) = summed_nothing s.sink

written_both : (s m t : Option (ArchiveWriter ArchiveSink)) (first then : Bytes)
    → IsWritten s first m → IsWritten m then t → IsWritten s (first ++ then) t
written_both None None None first then h g = tt
written_both None None (Some t) first then h g = g
written_both None (Some m) t first then h g = absurd h
written_both (Some s) None t first then h g = absurd h
written_both (Some s) (Some m) None first then h g = g
written_both (Some s) (Some m) (Some t) first then h g =
    summed_more s.sink m.sink t.sink first then h g

pub archive_none : (s : ArchiveHearer) → IsArchiveHeard s [] s
archive_none s = written_none s.writer

pub archive_both : (s m t : ArchiveHearer) (before after : List Token)
    → IsArchiveHeard s before m → IsArchiveHeard m after t
    → IsArchiveHeard s (before ++ after) t
archive_both s m t before after h g =
    subst (λ l. IsWritten s.writer l t.writer) (sym (flat_map-append token_text before after))
    (written_both s.writer m.writer t.writer (text_of before) (text_of after) h g)

-- ---- outputs

pub output_none : (s : OutputHearer) → IsOutputHeard s [] s
output_none s = record {
  profile = refl;
  scanner = scan_none s.scanner;
  counts = count_none s.counts;
  file = file_none s.file;
  archive = archive_none s.archive;
}

pub output_both : (s m t : OutputHearer) (before after : List Token) → IsOutputHeard s before m
    → IsOutputHeard m after t → IsOutputHeard s (before ++ after) t
output_both s m t before after h g = record {
  profile = g.profile ∙ h.profile;
  scanner = scan_both s.scanner m.scanner t.scanner before after h.scanner g.scanner;
  counts = count_both s.counts m.counts t.counts before after h.counts g.counts;
  file = file_both s.file m.file t.file before after h.file g.file;
  archive = archive_both s.archive m.archive t.archive before after h.archive g.archive;
}
