-- Pairs that may be asked for, and those that may not.
use Rattle.std.proofs.Common.{◌≡◌, ◌∙◌, ℕ, List, [], ◌∷◌, Some, None, Result, Ok, Err, IfErr, IsTrue, All, false, inl, inr, subst, sym, ⊎_elim}
use Rattle.std.specs.Global.{Vec}
use Rattle.std.proofs.lemmas.Bool.{false≢true}
use Rattle.std.proofs.lemmas.Option.{none-some, same_Some}
use Rattle.valid_table.specs.declared.entry.Registration.{Registration}
use Rattle.build_outcome.specs.declared.job.WholeInput.{WholeInput}
use Rattle.build_outcome.specs.declared.preparation.PreparedFile.{PreparedFile}
use Rattle.build_outcome.specs.declared.reason.Reason.{Reason}
use Rattle.build_outcome.specs.declared.reason.Reason.TheVariants.{BadGraph}
use Rattle.builder_start.specs.Entries.{AskForBadGraphs, IsGoodPair, is_file_name, pairs_of, root_of}
use Rattle.builder_start.specs.Graphs.{MayBeGraph}
use Rattle.builder_start.specs.private.Shown.{IsWhy}

pub bad_name : (rows : List Registration) (whole : List WholeInput) (pair : List ℕ × List ℕ) → is_file_name pair.0 ≡ false
    → IsGoodPair rows whole pair → ⊥
bad_name rows whole pair bad good = false≢true (sym bad ∙ good.name)

pub bad_root : (rows : List Registration) (whole : List WholeInput) (pair : List ℕ × List ℕ) → root_of rows pair.1 ≡ None
    → IsGoodPair rows whole pair → ⊥
bad_root rows whole pair bad good = none-some good.root (sym bad ∙ good.is_root)

pub bad_graph : (rows : List Registration) (whole : List WholeInput) (pair : List ℕ × List ℕ)
    (root : List ℕ) → root_of rows pair.1 ≡ Some root
    → (MayBeGraph rows whole (root ∷ []) → ⊥) → IsGoodPair rows whole pair → ⊥
bad_graph rows whole pair root is_root bad good =
    bad
    (subst (λ r. MayBeGraph rows whole (r ∷ []))
    (same_Some good.root root (sym good.is_root ∙ is_root)) good.may_be)

pub good_pair : (rows : List Registration) (whole : List WholeInput) (pair : List ℕ × List ℕ)
    (root : List ℕ) → IsTrue (is_file_name pair.0) → root_of rows pair.1 ≡ Some root
    → MayBeGraph rows whole (root ∷ []) → IsGoodPair rows whole pair
good_pair rows whole pair root named is_root may = record {
  name = named;
  root = root;
  is_root = is_root;
  may_be = may;
}

pub odd_tokens : (rows : List Registration) (whole : List WholeInput) (tokens : List (List ℕ)) → pairs_of tokens ≡ None
    → AskForBadGraphs rows whole tokens
odd_tokens rows whole tokens odd pairs good = none-some pairs (sym odd ∙ good.even)

-- the pairs are not all good, so the tokens ask for what they may not
pub bad_tokens : (rows : List Registration) (whole : List WholeInput) (tokens : List (List ℕ))
    (pairs : List (List ℕ × List ℕ)) (result : Result (Vec PreparedFile) Reason)
    → pairs_of tokens ≡ Some pairs
    → IfErr result (IsWhy BadGraph (All (IsGoodPair rows whole) pairs → ⊥))
    → IfErr result (IsWhy BadGraph (AskForBadGraphs rows whole tokens))
bad_tokens rows whole tokens pairs (Ok files) are bad = tt
bad_tokens rows whole tokens pairs (Err reason) are bad =
    ⊎_elim (λ none. inl none)
    (λ is. inr (
      is.0,
      λ others good. is.1
          (subst (All (IsGoodPair rows whole)) (same_Some others pairs (sym good.even ∙ are)) good.each),
    ))
    bad
