-- A report grows by a word and its line.
use Rattle.std.proofs.Common.{◌≡◌, ◌∙◌, ap, sym, refl, inl, inr, ℕ, Bool, true, false, List}
use Rattle.std.proofs.Common.{[], ◌∷◌}
use Rattle.std.proofs.Common.{◌++◌, map, take, length, get_or, ◌+◌, ◌<◌, Bor, Ok, Err}
use Rattle.std.proofs.Common.{if◌then◌else◌, ◌&&◌}
use Rattle.std.proofs.lemmas.List.{flat_map_more, map-append, map_more}
use Rattle.std.proofs.lemmas.List.Elements.{All-nil, All-push}
use Rattle.std.proofs.lemmas.List.Folds.{list_all-append}
use Rattle.std.specs.List.{list_all}
use Rattle.nix_drv.specs.Sources.{Answer, GivesSame}
use Rattle.nix_drv.specs.declared.source.SourceFault.TheVariants.{Missing, Device}
use Rattle.nix_realise.specs.CheckLines.{IsCheckReport, IsCheckVerdict, is_good, line_of}
use Rattle.nix_realise.specs.declared.cli.exit.Status.{Status}
use Rattle.nix_realise.specs.declared.cli.exit.Status.TheVariants as ended
use Rattle.nix_realise.specs.declared.queries.check_verdict.Verdict.{Verdict}
use Rattle.nix_realise.specs.declared.queries.check_verdict.Verdict.TheVariants.{Good, NoPath, Unreadable}
use Rattle.nix_realise.specs.declared.queries.check_verdict.Verdict.TheVariants.{Refused}

-- what one source lets be said of a word, one that gives the same answers does too
pub verdict_same : (f g : List ℕ → Answer → Type 0) (dir word : List ℕ) (verdict : Verdict)
    → GivesSame f g → IsCheckVerdict g dir word verdict → IsCheckVerdict f dir word verdict
verdict_same f g dir word (NoPath fault) same h = h
verdict_same f g dir word Unreadable same h = (
  h.0,
  elim h.1 [
    | inl m ↦ inl ((same word (Err Missing)).1 m)
    | inr d ↦ inr ((same word (Err Device)).1 d)
  ],
)
verdict_same f g dir word (Refused fault) same h =
    let given = h.2 in (h.0, h.1, (given.0, (same word (Ok given.0)).1 given.1, given.2))
verdict_same f g dir word Good same h =
    let given = h.1 in (h.0, (given.0, given.1, (same word (Ok given.0)).1 given.2, given.3))

-- the empty report
pub report_nil : (gives : List ℕ → Answer → Type 0) (dir : List ℕ)
    → IsCheckReport gives dir [] [] ended.Done
report_nil gives dir = record {
  rows = [];
  words_are = refl;
  each = All-nil (λ row. IsCheckVerdict gives dir row.0 row.1);
  lines = refl;
  is_status = refl;
}

-- the status of some verdicts and one more
status_for : Bool → Status
status_for good = if good then ended.Done else ended.Refused

and_true : (b : Bool) → (b && true) ≡ b
and_true true = refl
and_true false = refl

status_push : (good more : Bool)
    → status_for (good && more) ≡ (if more then status_for good else ended.Refused)
unfolding status_for
status_push true true = refl
status_push true false = refl
status_push false true = refl
status_push false false = refl

-- whether some rows are good, and one more
all_good_push : (rows : List (List ℕ × Verdict)) (word : List ℕ) (verdict : Verdict)
    → list_all (λ row. is_good row.1) (rows ++ (word, verdict) ∷ [])
    ≡ (list_all (λ row. is_good row.1) rows && is_good verdict)
all_good_push rows word verdict =
    list_all-append (λ row. is_good row.1) rows ((word, verdict) ∷ [])
    ∙ ap (λ b. list_all (λ row. is_good row.1) rows && b) (and_true (is_good verdict))

-- a report and the line of one more word
pub report_push : (gives : List ℕ → Answer → Type 0) (dir : List ℕ) (words : List (List ℕ))
    (text : List ℕ) (before : Status) (word : List ℕ) (verdict : Verdict) (all : List ℕ)
    (after : Status)
    → IsCheckReport gives dir words text before → IsCheckVerdict gives dir word verdict
    → all ≡ text ++ line_of word verdict
    → after ≡ (if is_good verdict then before else ended.Refused)
    → IsCheckReport gives dir (words ++ word ∷ []) all after
unfolding status_for
report_push gives dir words text before word verdict all after report said grown ends = record {
  rows = report.rows ++ (word, verdict) ∷ [];
  words_are =
      map-append (λ row. row.0) report.rows ((word, verdict) ∷ [])
      ∙ ap (λ ws. ws ++ word ∷ []) report.words_are;
  each =
      let P : List ℕ × Verdict → Type 0 = λ row. IsCheckVerdict gives dir row.0 row.1 in
      All-push P report.rows (word, verdict) report.each said;
  lines =
      grown ∙ ap (λ t. t ++ line_of word verdict) report.lines
      ∙ flat_map_more (λ row. line_of row.0 row.1) [] report.rows (word, verdict);
  is_status =
      let good : Bool = list_all (λ row. is_good row.1) report.rows in
      let both = all_good_push report.rows word verdict in
      ends ∙ ap (λ s. if is_good verdict then s else ended.Refused) report.is_status
      ∙ sym (ap status_for both ∙ status_push good (is_good verdict));
}

-- the texts of some words and one more
pub words_more : (words : List (Bor (List ℕ))) (i : ℕ) (d : Bor (List ℕ)) (word : List ℕ)
    → i < length words → word ≡ (get_or words i d).now
    → map (λ w. w.now) (take (i + 1) words) ≡ map (λ w. w.now) (take i words) ++ word ∷ []
words_more words i d word within e =
    map_more (λ w. w.now) words i d within
    ∙ ap (λ last. map (λ w. w.now) (take i words) ++ last ∷ []) (sym e)
