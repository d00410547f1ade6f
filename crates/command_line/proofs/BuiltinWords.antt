-- The words that give builtin builders their programs: what `split_once` gives at a `=`, and the
-- names of the words read so far.
use Rattle.std.proofs.Common.{◌≡◌, ◌∙◌, ◌<◌, ◌≤◌, ◌==◌, ◌+◌, ◌++◌, ◌∷◌, [], ℕ, List, Option, Some, None, Bor, ap, arith, get_or, length, map, sym, subst, take}
use Rattle.std.specs.Prelude.{◌≢◌, All, Any}
use Rattle.std.proofs.lemmas.Bool.Decides.{nat_tests}
use Rattle.std.proofs.lemmas.List.{get_or-map, get_or-take, get_or_default, length-map, length-take}
use Rattle.std.proofs.lemmas.List.{map-append, map_more, take_all}
use Rattle.std.proofs.lemmas.List.Elements.{All-push}
use Rattle.std.proofs.lemmas.List.Quantifiers.{all_pairs_push}
use Rattle.std.proofs.lemmas.List.Sums.{fails_before_first, passes_at_first}
use Rattle.std.proofs.lemmas.Str.Pattern.{IsSplitOnceResult, split_once_first}
use Rattle.command_line.specs.Builtins.{AreApart, HasProgram, name_in, program_in}
use Rattle.command_line.specs.declared.options.Builtin.{Builtin}

-- the parts of a word round its first `=`
pub record IsParted (word name program : List ℕ) : Type 0 where
  pub has_program : HasProgram word
  pub name_is : name ≡ name_in word
  pub program_is : program ≡ program_in word

module _ (word : List ℕ) (r : Option (Bor (List ℕ) × Bor (List ℕ)))
    (split : IsSplitOnceResult 61 word r) where
  pub parted : (x : Bor (List ℕ) × Bor (List ℕ)) → r ≡ Some x → IsParted word x.0.now x.1.now
  parted x is =
      let (inside, front, back) = rw is at (split_once_first 61 word r split (omega arith)) in
      let there = passes_at_first (λ b. b == 61) word 61 inside in record {
        has_program = (_, inside, grind (arith, nat_tests));
        name_is = front;
        program_is = back;
      }

  pub unparted : r ≡ None → HasProgram word → ⊥
  unparted is (index, inside, there) =
      let none = rw is at (split_once_first 61 word r split (omega arith)) in
      grind (arith, nat_tests, fails_before_first (λ b. b == 61) word index 61 (omega arith))

-- The words gave these builders their programs, but for twins among them.
pub record AreRead (words : List (List ℕ)) (builtins : List Builtin) : Type 0 where
  pub have_programs : All HasProgram words
  pub names : map (λ (b : Builtin). b.name.now) builtins ≡ map name_in words
  pub programs : map (λ (b : Builtin). b.program.now) builtins ≡ map program_in words

pub read_push : (words : List (List ℕ)) (builtins : List Builtin) (word : List ℕ) (b : Builtin)
    → AreRead words builtins → HasProgram word → b.name.now ≡ name_in word
    → b.program.now ≡ program_in word → AreRead (words ++ word ∷ []) (builtins ++ b ∷ [])
read_push words builtins word b read has name program = record {
  have_programs = All-push HasProgram words word read.have_programs has;
  names =
      map-append (λ (b : Builtin). b.name.now) builtins (b ∷ [])
      ∙ ap (λ l. l ++ b.name.now ∷ []) read.names
      ∙ ap (λ n. map name_in words ++ n ∷ []) name
      ∙ sym (map-append name_in words (word ∷ []));
  programs =
      map-append (λ (b : Builtin). b.program.now) builtins (b ∷ [])
      ∙ ap (λ l. l ++ b.program.now ∷ []) read.programs
      ∙ ap (λ n. map program_in words ++ n ∷ []) program
      ∙ sym (map-append program_in words (word ∷ []));
}

-- a word without a program is among the words
pub not_all : (words : List (Bor (List ℕ))) (i : ℕ) (d : Bor (List ℕ)) → i < length words
    → (HasProgram (get_or words i d).now → ⊥)
    → All HasProgram (map (λ (w : Bor (List ℕ)). w.now) words) → ⊥
not_all words i d within none all =
    let here = all i d.now (rw (length-map words (λ (w : Bor (List ℕ)). w.now)) within) in
    none (subst HasProgram (get_or-map (λ (w : Bor (List ℕ)). w.now) words i d d.now within) here)

-- one more word is read
pub read_more : (words : List (Bor (List ℕ))) (i : ℕ) (d : Bor (List ℕ)) (builtins : List Builtin)
    (b : Builtin)
    → i < length words → AreRead (map (λ (w : Bor (List ℕ)). w.now) (take i words)) builtins
    → HasProgram (get_or words i d).now → b.name.now ≡ name_in (get_or words i d).now
    → b.program.now ≡ program_in (get_or words i d).now
    → AreRead (map (λ (w : Bor (List ℕ)). w.now) (take (i + 1) words)) (builtins ++ b ∷ [])
read_more words i d builtins b within read has name program =
    subst (λ l. AreRead l (builtins ++ b ∷ []))
    (sym (map_more (λ (w : Bor (List ℕ)). w.now) words i d within))
    (read_push _ builtins _ b read has name program)

-- all words are read
pub read_all : (words : List (Bor (List ℕ))) (i : ℕ) (builtins : List Builtin)
    → length words ≤ i
    → AreRead (map (λ (w : Bor (List ℕ)). w.now) (take i words)) builtins
    → AreRead (map (λ (w : Bor (List ℕ)). w.now) words) builtins
read_all words i builtins past read =
    subst (λ l. AreRead (map (λ (w : Bor (List ℕ)). w.now) l) builtins)
    (take_all i words past) read

-- the names of builders
abbrev pub names_of : List Builtin → List (List ℕ)
names_of builtins = map (λ (b : Builtin). b.name.now) builtins

name_at : (builtins : List Builtin) (i : ℕ) (d : Builtin) → i < length builtins
    → get_or (names_of builtins) i d.name.now ≡ (get_or builtins i d).name.now
name_at builtins i d within =
    get_or-map (λ (b : Builtin). b.name.now) builtins i d d.name.now within

-- one of the builders has the name of a later one
pub twins_not_apart : (builtins : List Builtin) (i : ℕ) (d : Builtin) → i < length builtins
    → Any (λ (b : Builtin). b.name.now ≡ (get_or builtins i d).name.now) (take i builtins)
    → AreApart (names_of builtins) → ⊥
twins_not_apart builtins i d within (k, x, inside, here, same) apart =
    let most = length-take i builtins in
    let below : k < i = omega (arith, most, inside) in
    let inner : k < length builtins = omega (arith, below, within) in
    let first =
    name_at builtins k d inner
    ∙ ap (λ (b : Builtin). b.name.now)
    (get_or_default builtins k d x inner ∙ sym (get_or-take i builtins k x below) ∙ here) in
    apart k i d.name.now below
    (rw (length-map builtins (λ (b : Builtin). b.name.now)) within)
    (first ∙ same ∙ sym (name_at builtins i d within))

-- the names stay apart with the next one, which no builder before has
pub apart_push : (builtins : List Builtin) (i : ℕ) (d : Builtin) → i < length builtins
    → (Any (λ (b : Builtin). b.name.now ≡ (get_or builtins i d).name.now) (take i builtins) → ⊥)
    → AreApart (names_of (take i builtins)) → AreApart (names_of (take (i + 1) builtins))
apart_push builtins i d within none apart =
    rw (map_more (λ (b : Builtin). b.name.now) builtins i d within)
    (all_pairs_push (λ x y. x ≢ y) (names_of (take i builtins)) (get_or builtins i d).name.now
    apart others)
  where
    others : (k : ℕ) (e : List ℕ) → k < length (names_of (take i builtins))
        → get_or (names_of (take i builtins)) k e ≢ (get_or builtins i d).name.now
    others k e inside same =
        let inner : k < length (take i builtins) =
        subst (λ n. k < n) (length-map (take i builtins) (λ (b : Builtin). b.name.now)) inside in
        let b : Builtin = get_or (take i builtins) k d in
        none (
          k,
          b,
          inner,
          get_or_default (take i builtins) k b d inner,
          sym
              (get_or-map (λ (b : Builtin). b.name.now) (take i builtins) k d e inner) ∙ same,
        )

-- all names are apart
pub all_apart : (builtins : List Builtin) (i : ℕ) → length builtins ≤ i
    → AreApart (names_of (take i builtins)) → AreApart (names_of builtins)
all_apart builtins i past apart =
    subst (λ l. AreApart (names_of l)) (take_all i builtins past) apart
