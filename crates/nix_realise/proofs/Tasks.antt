-- The words of `realise` as paths of the store folder.
use Rattle.std.proofs.Common.{◌≡◌, ap, refl, arith, ℕ, zero, suc, List, [], ◌∷◌}
use Rattle.std.proofs.Common.{◌++◌, ◌+◌, ◌<◌, map, take, drop, length, get_or, Bor, Err}
use Rattle.std.proofs.lemmas.List.Elements.{All-push}
use Rattle.std.specs.Prelude.{None}
use Rattle.nix_names.specs.StorePaths.{path_fault}
use Rattle.nix_realise.proofs.Reports.{words_more}
use Rattle.nix_realise.specs.Tasks.{ArePaths, ArePathsOf}
use Rattle.nix_realise.specs.Tasks.{IsWordsPath}
use Rattle.nix_realise.specs.declared.cli.run_error.RunError.{RunError}
use Rattle.nix_realise.specs.declared.cli.run_error.RunError.TheVariants.{NoMemory, NoPath}

-- the words before one, that one, and the words after it
words_split : (words : List (Bor (List ℕ))) (i : ℕ) (d : Bor (List ℕ)) → i < length words
    → map (λ w. w.now) words
    ≡ map (λ w. w.now) (take i words) ++ (get_or words i d).now
    ∷ map (λ w. w.now) (drop (suc i) words)
words_split [] i d within = absurd (omega arith)
words_split (w ∷ ws) zero d within = refl
words_split (w ∷ ws) (suc i) d within = ap (λ l. w.now ∷ l) (words_split ws i d (omega arith))

-- one more word is a path
pub paths_push : (dir : List ℕ) (words : List (Bor (List ℕ))) (i : ℕ) (d : Bor (List ℕ))
    (word : List ℕ)
    → i < length words → word ≡ (get_or words i d).now → path_fault dir word ≡ None
    → ArePaths dir (map (λ w. w.now) (take i words))
    → ArePaths dir (map (λ w. w.now) (take (i + 1) words))
paths_push dir words i d word within same good before =
    rw (words_more words i d word within same)
    (All-push (λ w. path_fault dir w ≡ None) (map (λ w. w.now) (take i words)) word before good)

-- the first word that is no path
pub first_stray : (dir : List ℕ) (words : List (Bor (List ℕ))) (i : ℕ) (d : Bor (List ℕ))
    (stop : RunError)
    → i < length words → ArePaths dir (map (λ w. w.now) (take i words))
    → IsWordsPath dir (get_or words i d) (Err stop)
    → ArePathsOf dir (map (λ w. w.now) words) (Err stop)
first_stray dir words i d (NoPath blamed fault) within before h = record {
  before = map (λ w. w.now) (take i words);
  after = map (λ w. w.now) (drop (suc i) words);
  parts = rw h.0 (words_split words i d within);
  others = before;
  is = rw h.0 h.1;
}
first_stray dir words i d NoMemory within before h = h
first_stray dir words i d stop within before h = absurd h
