-- Rows whose references are known by number.
use Rattle.std.proofs.Common.{◌≡◌, ◌∙◌, ℕ, ◌+◌, ◌<◌, ◌≤◌, List, [], ◌∷◌, ◌++◌, inl, inr, length, get_or, refl, sym, ap, subst, arith, add-one, All, Option, Some, None, Result, Ok, Err, Bor, MatchOption, IfSome, rules}
use Rattle.std.specs.List.{slice_range}
use Rattle.std.specs.Result.{OkIff, result_ok}
use Rattle.std.proofs.Math.Seq.{drop-append_seam, get_or-append_seam}
use Rattle.std.proofs.lemmas.Bool.{cases_lt}
use Rattle.std.proofs.lemmas.List.{drop-append-le, get_or_append_left, length-append, length-drop, take-append-le, take_all}
use Rattle.std.proofs.lemmas.Option.{none-some, same_Some}
use Rattle.std.proofs.lemmas.List.Elements.{All-head, All-tail, All-weaker, Contains-append_left}
use Rattle.valid_table.specs.private.Closing.{path_at, paths_at}
use Rattle.valid_table.specs.private.Linking.{AreLinked, AreRowsOf, IsLinkedRow, numbers_of, start_of}
use Rattle.valid_table.specs.PathInfos.{PathInfo}
use Rattle.valid_table.specs.Valid.{Registers}
use Rattle.valid_table.specs.declared.entry.Registration.{Registration}
use Rattle.valid_table.proofs.JournalLists.{paths_of-append}
use Rattle.valid_table.proofs.RowNumbers.{path_count}

-- ---- where the numbers of a row begin and end

-- they end at the row's own end
pub end_is : (ends : List ℕ) (row : ℕ) → start_of ends (row + 1) ≡ get_or ends row 0
end_is ends row = search (rules, add-one)

start_kept : (ends : List ℕ) (end row : ℕ) → row ≤ length ends → start_of (ends ++ end ∷ []) row
    ≡ start_of ends row
start_kept ends end row within = search (rules, get_or_append_left)

start_last : (ends : List ℕ) (end : ℕ) → start_of (ends ++ end ∷ []) (length ends + 1) ≡ end
start_last ends end = search (rules, end_is, get_or-append_seam)

range_kept : (xs ys : List ℕ) (i j : ℕ) → i ≤ j → j ≤ length xs → slice_range (xs ++ ys) i j
    ≡ slice_range xs i j
range_kept xs ys i j rises within = search (rules, drop-append-le, take-append-le, length-drop)

range_after : (xs ys : List ℕ) (i j : ℕ) → i ≡ length xs → j ≡ length xs + length ys
    → slice_range (xs ++ ys) i j ≡ ys
range_after xs ys i j first last = search (rules, drop-append_seam, take_all)

-- ---- the rows of paths

-- rows stay where they are when more is registered
pub path_stays : (registrations added : List Registration) (row : ℕ) → row < length registrations
    → path_at (registrations ++ added) row ≡ path_at registrations row
path_stays registrations added row below =
    search (rules, paths_of-append, get_or_append_left, path_count)

paths_stay : (registrations added : List Registration) (rows : List ℕ)
    → All (λ r. r < length registrations) rows → paths_at (registrations ++ added) rows
    ≡ paths_at registrations rows
paths_stay registrations added [] below = refl
paths_stay registrations added (row ∷ rows) below =
    ap (λ (p : List ℕ). p ∷ paths_at (registrations ++ added) rows)
    (path_stays _ _ _
    (All-head (λ r. r < length registrations) _ _ below))
    ∙ ap (λ (ps : List (List ℕ)). path_at registrations row ∷ ps)
    (paths_stay registrations added rows
    (All-tail (λ r. r < length registrations) _ _ below))

rows_stay : (registrations added : List Registration) (paths : List (List ℕ)) (numbers : List ℕ)
    → AreRowsOf registrations paths numbers → AreRowsOf (registrations ++ added) paths numbers
rows_stay registrations added paths numbers are =
    search (rules, All-weaker, length-append, paths_stay)

-- ---- linked rows

-- linked rows stay so when more is registered
pub links_stay : (registrations added : List Registration) (ends numbers : List ℕ)
    → AreLinked registrations ends numbers → AreLinked (registrations ++ added) ends numbers
links_stay registrations added ends numbers are = record {
  count = omega (arith, are.count, length-append registrations added);
  whole = are.whole;
  each = λ row below.
      let linked = are.each row below in
      let within : row < length registrations = omega (arith, are.count) in
      record {
        rises = linked.rises;
        within = linked.within;
        info = linked.info;
        registers = subst (λ (path : List ℕ). Registers (registrations ++ added) path linked.info)
            (sym (path_stays _ _ _ within))
            (Contains-append_left _ _ _ linked.registers);
        links = rows_stay _ _ _
            _ linked.links;
      };
}

row_kept : (registrations : List Registration) (ends numbers more : List ℕ) (end row : ℕ)
    → IsLinkedRow registrations ends numbers row → row < length ends
    → IsLinkedRow registrations (ends ++ end ∷ []) (numbers ++ more) row
row_kept registrations ends numbers more end row linked below =
    search (rules, start_kept, range_kept, length-append)

row_added : (registrations : List Registration) (ends numbers more : List ℕ) (end : ℕ)
    (info : PathInfo) → start_of ends (length ends) ≡ length numbers → end
    ≡ length numbers + length more
    → Registers registrations (path_at registrations (length ends)) info
    → AreRowsOf registrations info.references more
    → IsLinkedRow registrations (ends ++ end ∷ []) (numbers ++ more) (length ends)
row_added registrations ends numbers more end info whole is registers links =
    search (rules, start_kept, start_last, length-append, range_after)

-- one more row is linked
pub linked_more : (registrations : List Registration) (ends numbers more : List ℕ) (end : ℕ)
    (info : PathInfo) → AreLinked registrations ends numbers → length ends < length registrations
    → end ≡ length numbers + length more
    → Registers registrations (path_at registrations (length ends)) info
    → AreRowsOf registrations info.references more
    → AreLinked registrations (ends ++ end ∷ []) (numbers ++ more)
linked_more registrations ends numbers more end info are below is registers links = record {
  count = omega (arith, below, length-append ends (end ∷ []));
  whole = ap (start_of (ends ++ end ∷ [])) (length-append ends (end ∷ []))
      ∙ start_last ends end ∙ is ∙ sym (length-append numbers more);
  each = λ row within.
      elim (cases_lt row (length ends)) [
        | inl before ↦ row_kept registrations ends numbers more end row (are.each row before) before
        | inr past ↦
            let last : length ends ≡ row =
            omega (arith, past, within, length-append ends (end ∷ []))
            in
            subst (IsLinkedRow registrations (ends ++ end ∷ []) (numbers ++ more)) last
            (row_added _ _ _ _ _ _ are.whole is registers links)
      ];
}

-- what is read of the numbers, from where those of a row begin up to their end, are its own
pub part_read : (registrations : List Registration) (ends numbers read : List ℕ)
    (row start end : ℕ) (none : Type 0) (found : Option (Bor (List ℕ)))
    → AreLinked registrations ends numbers → row < length ends → start ≡ start_of ends row
    → end ≡ get_or ends row 0 → read ≡ numbers
    → MatchOption found none (λ x. (start ≤ end) × (end ≤ length read)
    × (x.now ≡ slice_range read start end) × (length x.now + start ≡ end))
    → IfSome found (λ x. (info : PathInfo)
    × Registers registrations (path_at registrations row) info
    × AreRowsOf registrations info.references x.now)
part_read registrations ends numbers read row start end none None are below first last same is = tt
part_read registrations ends numbers read row start end none (Some x) are below first last same is =
    let linked = are.each row below in
    let own : x.now ≡ numbers_of ends numbers row =
    is.2
    ∙ ap (λ (ns : List ℕ). slice_range ns start end) same
    ∙ ap (λ k. slice_range numbers k end) first
    ∙ ap (λ k. slice_range numbers (start_of ends row) k) (last ∙ sym (end_is _ row)) in (
      linked.info,
      linked.registers,
      subst (AreRowsOf registrations linked.info.references) (sym own) linked.links,
    )

-- a number that was taken in is the one that was given
pub number_taken : {E : Type 0} (fits : Type 0) (n end : ℕ) (taken : Result ℕ E)
    → OkIff taken fits n → Some end ≡ result_ok taken → end ≡ n
number_taken fits n end (Ok x) is same = same_Some end x same ∙ is.1
number_taken fits n end (Err e) is same = absurd (none-some end (sym same))
