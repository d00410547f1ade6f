-- The files of pairs, one after the other.
use Rattle.std.proofs.Common.{◌≡◌, ◌∙◌, ℕ, ◌+◌, ◌<◌, ◌≤◌, Bool, true, false, List, [], ◌∷◌, ◌++◌, All, Contains, Some, append_assoc, append-nil, ap, drop, get_or, inl, inr, length, map, refl, subst, sym, take, ⊎_elim}
use Rattle.std.specs.List.{AllZip, list_any}
use Rattle.std.specs.Prelude.{if◌then◌else◌}
use Rattle.std.proofs.lemmas.List.{drop_all, drop_more, map-append, take_all}
use Rattle.std.proofs.lemmas.List.Elements.{All-contains, All-nil, All-push}
use Rattle.nix_names.specs.Names.{same_bytes}
use Rattle.nix_names.proofs.Lists.{Contains-map, Contains-middle, parts_at, taken_more}
use Rattle.valid_table.specs.declared.entry.Registration.{Registration}
use Rattle.build_outcome.specs.declared.job.WholeInput.{WholeInput}
use Rattle.build_outcome.specs.declared.preparation.PreparedFile.{PreparedFile}
use Rattle.build_outcome.specs.declared.reason.Reason.{Reason}
use Rattle.builder_start.specs.Entries.{IsFileOf, IsGoodPair, last_pairs, root_of}
use Rattle.builder_start.specs.Graphs.{IsGraph}
use Rattle.builder_start.specs.declared.pairs.Pair.{Pair}
use Rattle.builder_start.specs.private.Files.{IsAdded}
use Rattle.builder_start.specs.private.Shown.{IsWhy, shown_pair}

-- a reason that is true is so of what follows too
pub why_follows : {A B : Type 0} (other reason : Reason) → (A → B) → IsWhy other A reason
    → IsWhy other B reason
why_follows other reason f why =
    ⊎_elim (λ none. inl none) (λ is. inr (is.0, f is.1)) why

-- two lists go on
pub zip_push : {A B : Type 0} (R : A → B → Type 0) (xs : List A) (ys : List B) (x : A) (y : B)
    → AllZip R xs ys → R x y → AllZip R (xs ++ x ∷ []) (ys ++ y ∷ [])
zip_push R [] [] x y zip one = (one, tt)
zip_push R [] (b ∷ ys) x y zip one = absurd zip
zip_push R (a ∷ xs) [] x y zip one = absurd zip
zip_push R (a ∷ xs) (b ∷ ys) x y zip one = (zip.0, zip_push R xs ys x y zip.1 one)

-- The first pairs are good, and those of them that are kept have these files.
pub record FilesSoFar (rows : List Registration) (whole : List WholeInput) (pairs : List Pair) (i : ℕ)
    (files : List PreparedFile) : Type 0 where
  pub good : All (IsGoodPair rows whole) (map shown_pair (take i pairs))
  pub kept : List (List ℕ × List ℕ)
  pub parts : last_pairs (map shown_pair pairs)
      ≡ kept ++ last_pairs (map shown_pair (drop i pairs))
  pub each : AllZip (IsFileOf rows whole) kept files

pub no_files : (rows : List Registration) (whole : List WholeInput) (pairs : List Pair) → FilesSoFar rows whole pairs 0 []
no_files rows whole pairs = record {
  good = All-nil (IsGoodPair rows whole);
  kept = [];
  parts = refl;
  each = tt;
}

pub one_more : (rows : List Registration) (whole : List WholeInput) (pairs : List Pair) (i : ℕ) (pair : Pair)
    (graph : List Registration) (old new : List PreparedFile) → i < length pairs
    → pair ≡ get_or pairs i pair → FilesSoFar rows whole pairs i old → IsGoodPair rows whole (shown_pair pair)
    → ((root : List ℕ) × (root_of rows pair.text.now ≡ Some root) × IsGraph rows whole (root ∷ []) graph)
    → (after : List Pair) → after ≡ drop (i + 1) pairs
    → IsAdded (list_any (λ (other : List ℕ × List ℕ). same_bytes other.0 pair.name.now)
    (map shown_pair after)) pair graph old new
    → FilesSoFar rows whole pairs (i + 1) new
one_more rows whole pairs i pair graph old new within at sofar is_good is_graph after is added =
    step (list_any (λ (other : List ℕ × List ℕ). same_bytes other.0 pair.name.now)
    (map shown_pair after)) refl added
  where
    P : Type 0
    P = List ℕ × List ℕ

    good : All (IsGoodPair rows whole) (map shown_pair (take (i + 1) pairs))
    good = subst (All (IsGoodPair rows whole))
        (sym (ap (map shown_pair) (taken_more pairs i pair within at)
        ∙ map-append shown_pair (take i pairs) (pair ∷ [])))
        (All-push (IsGoodPair rows whole) (map shown_pair (take i pairs)) (shown_pair pair) sofar.good is_good)

    rest : List P
    rest = map shown_pair after

    parts : last_pairs (map shown_pair pairs) ≡ sofar.kept ++ last_pairs (shown_pair pair ∷ rest)
    parts = sofar.parts
        ∙ ap (λ (ps : List Pair). sofar.kept ++ last_pairs (map shown_pair ps))
        (drop_more pairs i pair within ∙ ap (λ (p : Pair). p ∷ drop (i + 1) pairs) (sym at)
        ∙ ap (λ (ps : List Pair). pair ∷ ps) (sym is))

    after_is : (kept : List P) → last_pairs (map shown_pair pairs) ≡ kept ++ last_pairs rest
        → last_pairs (map shown_pair pairs) ≡ kept ++ last_pairs (map shown_pair (drop (i + 1) pairs))
    after_is kept e = e ∙ ap (λ (ps : List Pair). kept ++ last_pairs (map shown_pair ps)) is

    step : (named : Bool)
        → list_any (λ (other : P). same_bytes other.0 pair.name.now) rest ≡ named
        → IsAdded named pair graph old new → FilesSoFar rows whole pairs (i + 1) new
    step true is_named same = record {
      good = good;
      kept = sofar.kept;
      parts = after_is sofar.kept (parts
          ∙ ap (λ b. sofar.kept ++ (if b then last_pairs rest else shown_pair pair ∷ last_pairs rest)) is_named);
      each = subst (AllZip (IsFileOf rows whole) sofar.kept) (sym same) sofar.each;
    }
    step false is_named more =
        let file : IsFileOf rows whole (shown_pair pair) more.0 = record {
          name = more.2;
          root = is_graph.0;
          is_root = is_graph.1;
          graph = graph;
          is_graph = is_graph.2;
          contents = more.3;
        } in
        record {
          good = good;
          kept = sofar.kept ++ shown_pair pair ∷ [];
          parts = after_is (sofar.kept ++ shown_pair pair ∷ []) (parts
              ∙ ap (λ b. sofar.kept ++ (if b then last_pairs rest else shown_pair pair ∷ last_pairs rest)) is_named
              ∙ sym (append_assoc sofar.kept (shown_pair pair ∷ []) (last_pairs rest)));
          each = subst (AllZip (IsFileOf rows whole) (sofar.kept ++ shown_pair pair ∷ [])) (sym more.1)
              (zip_push (IsFileOf rows whole) sofar.kept old (shown_pair pair) more.0 sofar.each file);
        }

-- at the end all pairs are good, and the last of each name have the files
pub all_good : (rows : List Registration) (whole : List WholeInput) (pairs : List Pair) (i : ℕ) (files : List PreparedFile)
    → length pairs ≤ i → FilesSoFar rows whole pairs i files
    → All (IsGoodPair rows whole) (map shown_pair pairs)
all_good rows whole pairs i files end sofar =
    subst (λ (ps : List Pair). All (IsGoodPair rows whole) (map shown_pair ps)) (take_all i pairs end) sofar.good

pub all_files : (rows : List Registration) (whole : List WholeInput) (pairs : List Pair) (i : ℕ) (files : List PreparedFile)
    → length pairs ≤ i → FilesSoFar rows whole pairs i files
    → AllZip (IsFileOf rows whole) (last_pairs (map shown_pair pairs)) files
all_files rows whole pairs i files end sofar =
    subst (λ ps. AllZip (IsFileOf rows whole) ps files)
    (sym (sofar.parts
    ∙ ap (λ (ps : List Pair). sofar.kept ++ last_pairs (map shown_pair ps)) (drop_all i pairs end)
    ∙ append-nil sofar.kept)) sofar.each

-- a bad pair is one of all
pub one_bad : (rows : List Registration) (whole : List WholeInput) (pairs : List Pair) (i : ℕ) (pair : Pair)
    → i < length pairs → pair ≡ get_or pairs i pair
    → (IsGoodPair rows whole (shown_pair pair) → ⊥) → All (IsGoodPair rows whole) (map shown_pair pairs) → ⊥
one_bad rows whole pairs i pair within at bad all =
    bad (All-contains (IsGoodPair rows whole) (map shown_pair pairs) (shown_pair pair) all
    (Contains-map shown_pair pairs pair
    (subst (λ ps. Contains ps pair) (sym (parts_at pairs i pair within at))
    (Contains-middle (take i pairs) (drop (i + 1) pairs) pair))))
