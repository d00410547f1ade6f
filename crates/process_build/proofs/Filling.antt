-- Texts that are filled from the front on.
use Rattle.std.proofs.Common.{◌≡◌, ◌∙◌, ap, sym, subst, refl, ℕ, List, [], ◌∷◌, ◌++◌, ◌+◌, ◌-◌, ◌<◌, ◌≤◌}
use Rattle.std.proofs.Common.{All, arith, add-one, append_assoc, drop, drop-cons, false, get_or, length}
use Rattle.std.proofs.Common.{length-append, length-drop, take, true}
use Rattle.std.specs.Prelude.{nat_eq}
use Rattle.std.specs.List.{AllZip, starts_with}
use Rattle.std.proofs.Math.Seq.{drop-append_seam}
use Rattle.std.proofs.lemmas.Bool.Decides.{Decides-eqb}
use Rattle.std.proofs.lemmas.List.{append-nil, drop-drop, drop_all, take_all}
use Rattle.std.proofs.lemmas.List.Elements.{All-contains}
use Rattle.std.proofs.lemmas.Slice.Eq.{starts_is}
use Rattle.build_outcome.specs.declared.job.JobOutput.{JobOutput}
use Rattle.process_build.specs.Setups.{IsFilled, begins, placeholder_of}
use Rattle.process_build.specs.Setups.IsFilled.{at_end, kept, replaced}
use Rattle.process_build.specs.private.Placeholders.{IsFoundIn, IsPlaceholder}
use Rattle.process_build.specs.declared.process.placeholders.Placeholder.{Placeholder}
use Rattle.process_build.proofs.Zips.{first_of_pair, second_of_pair}

-- no output's placeholder begins a text that none of the program's begins
pub none_begins : (outputs : List JobOutput) (all : List Placeholder) (text : List ℕ)
    → AllZip IsPlaceholder outputs all
    → All (λ p. starts_with nat_eq text p.text.items ≡ false) all
    → All (λ o. begins text o ≡ false) outputs
none_begins outputs all text zip none k d low =
    let pair = second_of_pair IsPlaceholder outputs all k d zip low in
    subst (λ needle. starts_with nat_eq text needle ≡ false) pair.2.0
    (All-contains (λ p. starts_with nat_eq text p.text.items ≡ false) all pair.0 none pair.1)

-- one of the program's placeholders that begins a text is an output's
pub found_in : (outputs : List JobOutput) (all : List Placeholder) (text : List ℕ) (i : ℕ)
    (p : Placeholder) → AllZip IsPlaceholder outputs all → i < length all → p ≡ get_or all i p
    → starts_with nat_eq text p.text.items ≡ true → IsFoundIn outputs text p
found_in outputs all text i p zip low is begun =
    let pair = first_of_pair IsPlaceholder outputs all i p zip low in
    let made : IsPlaceholder pair.0 p = subst (IsPlaceholder pair.0) (sym is) pair.2 in
    let whole : text ≡ p.text.items ++ drop (length p.text.items) text =
    (starts_is {E = nat_eq} Decides-eqb text p.text.items true (sym begun)).0 refl in (
      pair.0,
      drop (length p.text.items) text,
      pair.1,
      made,
      whole ∙ ap (λ n. n ++ drop (length p.text.items) text) made.0,
    )

-- what a text has from an index on
pub rest_is : (text : List ℕ) (i : ℕ) → take (length text - i) (drop i text) ≡ drop i text
rest_is text i = take_all (length text - i) (drop i text) (omega (arith, length-drop i text))

-- one more byte is kept
pub kept_more : (outputs : List JobOutput) (text done : List ℕ) (i : ℕ) → i < length text
    → All (λ o. begins (drop i text) o ≡ false) outputs
    → ((rest : List ℕ) → IsFilled outputs (drop i text) rest
    → IsFilled outputs text (done ++ rest))
    → (rest : List ℕ) → IsFilled outputs (drop (i + 1) text) rest
    → IsFilled outputs text ((done ++ get_or text i 0 ∷ []) ++ rest)
kept_more outputs text done i low none had rest filled =
    let byte : ℕ = get_or text i 0 in
    let split : drop i text ≡ byte ∷ drop (i + 1) text = rw (add-one, drop-cons text i 0) in
    subst (IsFilled outputs text) (sym (append_assoc done (byte ∷ []) rest))
    (had (byte ∷ rest)
    (subst (λ t. IsFilled outputs t (byte ∷ rest)) (sym split)
    (kept byte (drop (i + 1) text) rest
    (subst (λ t. All (λ o. begins t o ≡ false) outputs) split none) filled)))

-- a placeholder that was found is within the text
pub found_within : (outputs : List JobOutput) (text : List ℕ) (i n : ℕ) (p : Placeholder)
    → i ≤ length text → n ≡ length p.text.items → IsFoundIn outputs (drop i text) p
    → i + n ≤ length text
found_within outputs text i n p low len found =
    let same : length (drop i text) ≡ length (placeholder_of found.0.name.items ++ found.1) =
    ap length found.4 in
    let made : length p.text.items ≡ length (placeholder_of found.0.name.items) =
    ap length found.3.0 in
    omega (arith, length-drop i text, length-append (placeholder_of found.0.name.items) found.1)

-- one more placeholder is replaced
pub replaced_more : (outputs : List JobOutput) (text done : List ℕ) (i n : ℕ) (p : Placeholder)
    → n ≡ length p.text.items → IsFoundIn outputs (drop i text) p
    → ((rest : List ℕ) → IsFilled outputs (drop i text) rest
    → IsFilled outputs text (done ++ rest))
    → (rest : List ℕ) → IsFilled outputs (drop (i + n) text) rest
    → IsFilled outputs text ((done ++ p.path.now) ++ rest)
replaced_more outputs text done i n p len found had rest filled =
    let holder : List ℕ = placeholder_of found.0.name.items in
    let left : drop (i + n) text ≡ found.1 =
    sym (drop-drop n i text) ∙ ap (drop n) found.4
    ∙ ap (λ k. drop k (holder ++ found.1)) (len ∙ ap length found.3.0)
    ∙ drop-append_seam holder found.1 in
    let one : IsFilled outputs (holder ++ found.1) (found.0.path ++ rest) =
    replaced found.0 found.1 rest found.2
    (subst (λ t. IsFilled outputs t rest) left filled) in
    subst (IsFilled outputs text) (sym (append_assoc done p.path.now rest))
    (had (p.path.now ++ rest)
    (subst (λ t. IsFilled outputs t (p.path.now ++ rest)) (sym found.4)
    (subst (λ path. IsFilled outputs (holder ++ found.1) (path ++ rest)) (sym found.3.1) one)))

-- at its end a text is filled
pub all_filled : (outputs : List JobOutput) (text done : List ℕ) (i : ℕ) → length text ≤ i
    → ((rest : List ℕ) → IsFilled outputs (drop i text) rest
    → IsFilled outputs text (done ++ rest)) → IsFilled outputs text done
all_filled outputs text done i past had =
    subst (IsFilled outputs text) (append-nil done)
    (had [] (subst (λ t. IsFilled outputs t []) (sym (drop_all i text past)) at_end))
