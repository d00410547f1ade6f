-- What a binary search among registrations by path finds.
use Rattle.std.proofs.Common.{◌≡◌, ◌∙◌, ◌↔◌, ℕ, ◌+◌, ◌<◌, false, List, [], length, get_or, Result, Ok, Err, None, is_ok, IsTrue, refl, sym, ap, arith, ⊎_elim}
use Rattle.std.specs.Cmp.Lexicographic.{slice_cmp, texts_ties}
use Rattle.std.specs.List.Sorted.{IsBinarySearchResult, IsSearchInRange}
use Rattle.std.specs.Ordering.{is_eq, is_lt, nat_cmp, ordering_reverse}
use Rattle.std.specs.declared.cmp.Ordering.{Ordering}
use Rattle.std.specs.declared.cmp.Ordering.TheVariants.{Less, Equal, Greater}
use Rattle.std.proofs.lemmas.Bool.{cases_lt, false≢true}
use Rattle.std.proofs.lemmas.Cmp.{nat_list_cmp_total, tied_itself}
use Rattle.std.proofs.lemmas.List.Sorted.{searchable_from_sorted}
use Rattle.nix_names.specs.Rising.{IsRising}
use Rattle.nix_names.proofs.RisingLists.{equal_from_eq}
use Rattle.valid_table.specs.Entries.{paths_registered}
use Rattle.valid_table.specs.Valid.{IsValid}
use Rattle.valid_table.specs.declared.entry.Registration.{Registration}
use Rattle.valid_table.proofs.RowNumbers.{path_count, path_read}
use Rattle.valid_table.proofs.SortedOutputs.{neighbours_rise}

-- how a registration's path compares with a path
abbrev pub compared : List ℕ → Registration → Ordering
compared path r = slice_cmp nat_cmp r.path path

-- of neighbours in a rising list the second is not less
pub rising_sorted_at : (rs : List Registration) (k : ℕ) (d : Registration)
    → IsRising (paths_registered rs)
    → k + 1 < length rs → is_lt (slice_cmp nat_cmp (get_or rs (k + 1) d).path (get_or rs k d).path)
    ≡ false
rising_sorted_at rs k d rises lt =
    let less = neighbours_rise _ rises k d lt in
    ap is_lt
    (nat_list_cmp_total.antisymm (get_or rs (k + 1) d).path (get_or rs k d).path
    ∙ ap ordering_reverse less)

-- a search tells whether a path is registered
pub search_tells :
    (rs : List Registration) (path : List ℕ) (found : Result ℕ ℕ) →
    IsRising (paths_registered rs) →
    IsSearchInRange found (length rs) →
    IsBinarySearchResult (compared path) rs found →
    IsTrue (is_ok found) ↔ IsValid rs path
search_tells rs path (Ok i) rises within here = (
  λ _.
      let none : Registration =
      record { path = path; info = record { references = []; digest = None; nar = None } } in
      let same : (get_or rs i none).path ≡ path =
      equal_from_eq _ _ (texts_ties (get_or rs i none).path path ∙ ap is_eq (here none)) in (
        i,
        omega (arith, path_count rs),
        path_read _ i _ _ within ∙ same,
      ),
  λ _. refl,
)
search_tells rs path (Err i) rises within apart = (
  λ no. absurd (false≢true no),
  λ valid.
      let none : Registration =
      record { path = path; info = record { references = []; digest = None; nar = None } } in
      let k = valid.0 in
      let lt : k < length rs = omega (arith, valid.1, path_count rs)
      in
      let parts = apart
      (searchable_from_sorted nat_list_cmp_total (λ (r : Registration). r.path) rs path
      (λ j d low below. rising_sorted_at _ j d rises below)) in
      let same : compared path (get_or rs k none) ≡ Equal =
      ap (λ p. slice_cmp nat_cmp p path) (sym (path_read _ k _ _ lt) ∙ valid.2)
      ∙ tied_itself nat_list_cmp_total path in
      ⊎_elim
      (λ before. let less : compared path (get_or rs k none)
      ≡ Less = parts.0 k none (omega arith) before in cc)
      (λ after. let more : compared path (get_or rs k none) ≡ Greater = parts.1 k none after lt
      in cc)
      (cases_lt k i),
)
