-- What is known of a text that a reader of an archive has read so far.
use Rattle.std.proofs.Common.{◌≡◌, ◌∙◌, ◌+◌, ◌<◌, ℕ, suc, List, [], ◌∷◌, ◌++◌, Option, Some, None, Result, Ok, Err, ap, append-nil, append_assoc, arith, inl, inr, length, length-append, refl, subst, sym, take, zero-add}
use Rattle.std.specs.Prelude.{IfErr, MatchResult, OnOk}
use Rattle.std.specs.Io.KnownBytes.{Consumes, IsAtEnd}
use Rattle.nix_archive.specs.Archive.{nar}
use Rattle.nix_archive.specs.Reading.{IsArchive, IsBegun, IsRefused, IsSame, IsStep}
use Rattle.nix_archive.specs.Rests.{reader_rest}
use Rattle.nix_archive.specs.Tokens.{Token, tokens_of}
use Rattle.nix_archive.specs.Trees.{IsArchivable, Tree}
use Rattle.nix_archive.specs.declared.reader.ArchiveReader.{ArchiveReader}
use Rattle.nix_archive.proofs.Opens.{begun_by, open_reader}
use Rattle.nix_archive.proofs.Rests.{step_from, steps}
use Rattle.nix_archive.proofs.Wholes.{same_back}
use Rattle.nix_realise.specs.ArchiveEndings.{IsNar, IsStray, IsStrayOffset}
use Rattle.nix_realise.specs.private.Inputs.{IsNoInput, IsSoFar, IsTreeRead, IsUnfed}
use Rattle.nix_realise.specs.declared.archives.input.InputFault.TheVariants.{NoMemory, Stray, Unreadable}
use Rattle.nix_realise.specs.declared.archives.input.InputFault.{InputFault}
use Rattle.nix_realise.proofs.ReaderEnds.{ended_rest}

consumes_none : (held : Option (List ℕ)) → Consumes held held []
consumes_none None = tt
consumes_none (Some bytes) = refl

-- bytes that are given one after the other
pub consumes_both : (a b c : Option (List ℕ)) (first then : List ℕ) → Consumes a b first
    → Consumes b c then → Consumes a c (first ++ then)
consumes_both None b c first then h g = tt
consumes_both (Some x) None c first then h g = absurd h
consumes_both (Some x) (Some y) None first then h g = absurd g
consumes_both (Some x) (Some y) (Some z) first then h g =
    h ∙ ap (λ l. first ++ l) g ∙ sym (append_assoc first then z)

take_on : (a b : List ℕ) (n : ℕ) → take (length a + n) (a ++ b) ≡ a ++ take n b
take_on [] b n = ap (λ k. take k b) (zero-add n)
take_on (x ∷ a) b n =
    let next : length (x ∷ a) + n ≡ suc (length a + n) = omega arith in
    ap (λ k. take k (x ∷ a ++ b)) next ∙ ap (λ l. x ∷ l) (take_on a b n)

module _ {S : Type 0} (heard : S → List Token → S → Type 0)
    (silence : (s : S) → heard s [] s)
    (joins : (s m t : S) (before after : List Token) → heard s before m → heard m after t
    → heard s (before ++ after) t) where
  -- nothing is read yet
  pub started : (s : S) (reader : ArchiveReader) (held : Option (List ℕ))
      → IsSame (reader_rest reader) IsArchive → IsSoFar heard s s reader held held 0
  started s reader held fresh = record {
    first = reader;
    fresh = fresh;
    text = [];
    step = record {
      said = [];
      hears = silence s;
      sound = λ ts u q. q;
      complete = λ ts u p. (ts, p);
    };
    read = consumes_none held;
    counted = refl;
  }

  -- a piece more is read
  pub fed_more : (s m t : S) (reader next : ArchiveReader) (old held left : Option (List ℕ))
      (offset end : ℕ) (piece : List ℕ)
      → IsSoFar heard s m reader old held offset
      → IsStep heard m t (reader_rest reader) (reader_rest next) piece
      → Consumes held left piece → end ≡ offset + length piece
      → IsSoFar heard s t next old left end
  fed_more s m t reader next old held left offset end piece far step read counts = record {
    first = far.first;
    fresh = far.fresh;
    text = far.text ++ piece;
    step = steps heard joins far.text piece far.step step;
    read = consumes_both old held left far.text piece far.read read;
    counted =
        length-append far.text piece ∙ ap (λ n. n + length piece) far.counted ∙ sym counts;
  }

  -- an archive was read
  pub whole : (s t : S) (reader : ArchiveReader) (old held : Option (List ℕ)) (offset : ℕ)
      → IsSoFar heard s t reader old held offset → reader_rest reader [] [] → IsAtEnd held
      → IsTreeRead heard s t old held
  whole s t reader old held offset far done ended =
      let step = far.step in
      let p = far.fresh.to (step.said ++ []) (far.text ++ []) (step.sound [] [] done) in
      let archive : far.text ≡ nar p.tree = sym (append-nil far.text) ∙ p.read in record {
        tree = p.tree;
        archivable = p.archivable;
        hears = subst (λ l. heard s l t) (sym (append-nil step.said) ∙ p.said) step.hears;
        read = subst (Consumes old held) archive far.read;
        ended = ended;
      }

  -- what was read begins an archive
  begins : (s t : S) (reader : ArchiveReader) (old held : Option (List ℕ)) (offset : ℕ)
      (far : IsSoFar heard s t reader old held offset) → IsBegun IsArchive far.text
  begins s t reader old held offset far =
      begun_by heard s t IsArchive (reader_rest reader) far.text
      (step_from heard (same_back far.fresh) far.step) (open_reader reader)

  -- the text ends, and no archive does there
  pub stray_end : (s t : S) (reader : ArchiveReader) (old held : Option (List ℕ)) (offset : ℕ)
      → IsSoFar heard s t reader old held offset → (reader_rest reader [] [] → ⊥) → IsAtEnd held
      → IsStray old held offset
  stray_end s t reader old held offset far more ended = (
    far.text,
    far.read,
    inr (
      sym far.counted,
      begins s t reader old held offset far,
      λ archive.
          let given : IsArchive (tokens_of archive.tree) (far.text ++ []) = record {
            tree = archive.tree;
            archivable = archive.archivable;
            said = refl;
            read = append-nil far.text ∙ archive.is_of;
          } in
          let later = far.step.complete (tokens_of archive.tree) []
          (far.fresh.from (tokens_of archive.tree) (far.text ++ []) given) in
          more (ended_rest reader later.0 later.1),
    ),
    λ at. ended,
  )

  -- a byte of a piece can't stand there
  pub stray_in : (s t : S) (reader : ArchiveReader) (old held left : Option (List ℕ))
      (offset stray : ℕ) (piece : List ℕ)
      → IsSoFar heard s t reader old held offset
      → IsUnfed (reader_rest reader) piece offset (Stray stray) → Consumes held left piece
      → IsStray old left stray
  stray_in s t reader old held left offset stray piece far (at, is, inside, begun, refused) read =
      let step = far.step in
      let where_is : stray ≡ length far.text + at = is ∙ ap (λ n. n + at) (sym far.counted) in
      let front : take stray (far.text ++ piece) ≡ far.text ++ take at piece =
      ap (λ n. take n (far.text ++ piece)) where_is ∙ take_on far.text piece at in
      let next : take (stray + 1) (far.text ++ piece) ≡ far.text ++ take (at + 1) piece =
      ap (λ n. take n (far.text ++ piece)) (omega (arith, where_is))
      ∙ take_on far.text piece (at + 1) in
      let long = length-append far.text piece in (
        far.text ++ piece,
        consumes_both old held left far.text piece far.read read,
        inl (
          omega (arith, where_is, inside, long),
          subst (λ l. IsBegun IsArchive l) (sym front) record {
            tokens = step.said ++ begun.tokens;
            rest = begun.rest;
            follows = subst (IsArchive (step.said ++ begun.tokens))
                (sym (append_assoc far.text (take at piece) begun.rest))
                (far.fresh.to (step.said ++ begun.tokens) (far.text ++ (take at piece ++ begun.rest))
                (step.sound begun.tokens (take at piece ++ begun.rest) begun.follows));
          },
          subst (λ l. IsRefused IsArchive l) (sym next) (λ ts u h.
              let one = take (at + 1) piece in
              let later = step.complete ts (one ++ u) (far.fresh.from ts (far.text ++ (one ++ u))
              (subst (IsArchive ts) (append_assoc far.text one u) h)) in
              refused later.0 u later.1),
        ),
        λ same. absurd (omega (arith, same, where_is, inside, long)),
      )

  -- nothing is left at an offset where nothing more was read
  at_end : (s t : S) (reader : ArchiveReader) (old held left : Option (List ℕ)) (offset : ℕ)
      → IsSoFar heard s t reader old held offset → Consumes held left []
      → IsSoFar heard s t reader old left offset
  at_end s t reader old held left offset far none = record {
    first = far.first;
    fresh = far.fresh;
    text = far.text;
    step = far.step;
    read = subst (Consumes old left) (append-nil far.text)
        (consumes_both old held left far.text [] far.read none);
    counted = far.counted;
  }

  -- what is answered at the end of a text
  pub ended_stray : (s t : S) (reader : ArchiveReader) (old held left : Option (List ℕ))
      (offset : ℕ)
      (answer : Result (Unit {0}) InputFault)
      → IsSoFar heard s t reader old held offset → Consumes held left [] → IsAtEnd left
      → MatchResult answer (λ _. reader_rest reader [] [])
      (λ fault. (fault ≡ Stray offset) × (reader_rest reader [] [] → ⊥))
      → IfErr answer (IsNoInput old left)
  ended_stray s t reader old held left offset (Ok done) far none ended answered = tt
  ended_stray s t reader old held left offset (Err fault) far none ended answered =
      rw answered.0
      (stray_end s t reader old left offset (at_end s t reader old held left offset far none)
      answered.1 ended)

  pub ended_whole : (s t : S) (reader : ArchiveReader) (old held left : Option (List ℕ))
      (offset : ℕ)
      (answer : Result (Unit {0}) InputFault)
      → IsSoFar heard s t reader old held offset → Consumes held left [] → IsAtEnd left
      → MatchResult answer (λ _. reader_rest reader [] [])
      (λ fault. (fault ≡ Stray offset) × (reader_rest reader [] [] → ⊥))
      → OnOk answer (IsTreeRead heard s t old left)
  ended_whole s t reader old held left offset (Ok done) far none ended answered =
      whole s t reader old left offset (at_end s t reader old held left offset far none) answered
      ended
  ended_whole s t reader old held left offset (Err fault) far none ended answered = tt

  -- why a piece was not read
  pub unfed : (s t : S) (reader : ArchiveReader) (old held left : Option (List ℕ)) (offset : ℕ)
      (piece : List ℕ) (fault : InputFault)
      → IsSoFar heard s t reader old held offset
      → IsUnfed (reader_rest reader) piece offset fault → Consumes held left piece
      → IsNoInput old left fault
  unfed s t reader old held left offset piece (Stray stray) far why read =
      stray_in s t reader old held left offset stray piece far why read
  unfed s t reader old held left offset piece Unreadable far why read = tt
  unfed s t reader old held left offset piece NoMemory far why read = tt
