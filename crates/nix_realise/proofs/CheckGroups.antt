-- The lines of a group of words join a report.
use Rattle.std.proofs.Common.{◌≡◌, ◌∙◌, ap, sym, refl, subst, ℕ, Bool, true, false, List, [], ◌∷◌}
use Rattle.std.proofs.Common.{◌+◌, ◌<◌, ◌++◌, Bor, map, get_or, length, take, append_assoc, All, None, Ok, if◌then◌else◌, ◌&&◌}
use Rattle.std.proofs.lemmas.List.{append-nil, flat_map_more, map-append, take_more}
use Rattle.std.proofs.lemmas.List.Elements.{All-head, All-nil, All-push, All-tail, All-weaker}
use Rattle.std.proofs.lemmas.List.Folds.{list_all-append}
use Rattle.std.proofs.lemmas.Simd.{map-map}
use Rattle.std.specs.Global.{Vec}
use Rattle.std.specs.List.{flat_map, list_all}
use Rattle.nix_names.specs.StorePaths.{path_fault}
use Rattle.nix_drv.specs.Sources.{Answer, GivesSame}
use Rattle.nix_realise.proofs.Reports.{report_push, verdict_same, words_more}
use Rattle.nix_realise.specs.CheckLines.{IsCheckReport, IsCheckVerdict, is_good, line_of}
use Rattle.nix_realise.specs.private.CheckGroups.{AreLinesOf, IsFileVerdict, IsFound, IsLineOf, IsVerdictOn}
use Rattle.nix_realise.specs.declared.cli.exit.Status.{Status}
use Rattle.nix_realise.specs.declared.cli.exit.Status.TheVariants as ended
use Rattle.nix_realise.specs.declared.queries.asked_words.AskedWord.{AskedWord}
use Rattle.nix_realise.specs.declared.queries.asked_words.Found.{Found}
use Rattle.nix_realise.specs.declared.queries.asked_words.Found.TheVariants.{Known, File}
use Rattle.nix_realise.specs.declared.queries.check_verdict.Verdict.{Verdict}
use Rattle.nix_realise.specs.declared.queries.check_verdict.Verdict.TheVariants.{Good, NoPath, Unreadable, Refused}

-- what was found of a word by one source is found by one that gives the same answers
pub found_same : (f g : List ℕ → Answer → Type 0) (dir word : List ℕ) (found : Found)
    → GivesSame f g → IsFound g dir word found → IsFound f dir word found
found_same f g dir word (Known verdict) same h = verdict_same f g dir word verdict same h
found_same f g dir word (File path bytes) same h =
    (h.0, h.1, (same word (Ok bytes.items)).1 h.2)

pub all_found_same : (f g : List ℕ → Answer → Type 0) (dir : List ℕ) (asked : List AskedWord)
    → GivesSame f g → All (λ a. IsFound g dir a.word.now a.found) asked
    → All (λ a. IsFound f dir a.word.now a.found) asked
all_found_same f g dir asked same h =
    All-weaker (λ (a : AskedWord). IsFound g dir a.word.now a.found)
    (λ (a : AskedWord). IsFound f dir a.word.now a.found)
    (λ a. found_same f g dir a.word.now a.found same) asked h

-- words that were asked and one more
pub words_push : (asked all : List AskedWord) (last : AskedWord) (words : List (Bor (List ℕ)))
    (i : ℕ) (d : Bor (List ℕ)) → i < length words → last.word.now ≡ (get_or words i d).now
    → all ≡ asked ++ last ∷ []
    → map (λ a. a.word.now) asked ≡ map (λ w. w.now) (take i words)
    → map (λ a. a.word.now) all ≡ map (λ w. w.now) (take (i + 1) words)
words_push asked all last words i d within e grown same =
    ap (λ (it : List AskedWord). map (λ a. a.word.now) it) grown
    ∙ map-append (λ a. a.word.now) asked (last ∷ [])
    ∙ ap (λ ws. ws ++ last.word.now ∷ []) same
    ∙ sym (words_more words i d last.word.now within e)

-- what was found of some words and of one more
pub found_push : (gives : List ℕ → Answer → Type 0) (dir : List ℕ) (asked all : List AskedWord)
    (last : AskedWord) → all ≡ asked ++ last ∷ []
    → All (λ a. IsFound gives dir a.word.now a.found) asked
    → IsFound gives dir last.word.now last.found
    → All (λ a. IsFound gives dir a.word.now a.found) all
found_push gives dir asked all last grown each found =
    let F : AskedWord → Type 0 = λ a. IsFound gives dir a.word.now a.found in
    subst (λ (it : List AskedWord). All F it) (sym grown) (All-push F asked last each found)

-- a verdict on bytes that the file of a word may have is one on the word
file_verdict : (gives : List ℕ → Answer → Type 0) (dir word bytes : List ℕ) (verdict : Verdict)
    → path_fault dir word ≡ None → gives word (Ok bytes)
    → IsFileVerdict dir word bytes verdict → IsCheckVerdict gives dir word verdict
file_verdict gives dir word bytes Good fine given said = (fine, (bytes, said.0, given, said.1))
file_verdict gives dir word bytes (Refused fault) fine given said =
    (fine, said.0, (bytes, given, said.1))
file_verdict gives dir word bytes (NoPath fault) fine given said = absurd said
file_verdict gives dir word bytes Unreadable fine given said = absurd said

-- the verdict on what was found of a word is one on the word
verdict_by_found : (gives : List ℕ → Answer → Type 0) (dir word : List ℕ) (found : Found)
    (verdict : Verdict)
    → IsFound gives dir word found → IsVerdictOn dir found verdict
    → IsCheckVerdict gives dir word verdict
verdict_by_found gives dir word (Known known) verdict is said =
    subst (λ (v : Verdict). IsCheckVerdict gives dir word v) (sym said) is
verdict_by_found gives dir word (File path bytes) verdict is said =
    file_verdict gives dir word bytes.items verdict is.0 is.2
    (subst (λ (p : List ℕ). IsFileVerdict dir p bytes.items verdict) is.1 said)

-- no lines
pub lines_none : (dir text : List ℕ) (status : Status) → AreLinesOf dir [] text status text status
lines_none dir text status = record {
  rows = [];
  asked_are = refl;
  each = All-nil (λ (row : AskedWord × Verdict). IsVerdictOn dir row.0.found row.1);
  lines = sym (append-nil text);
  is_status = refl;
}

status_push : (all last : Bool) (before : Status)
    → (if last then (if all then before else ended.Refused) else ended.Refused)
    ≡ (if all && (last && true) then before else ended.Refused)
status_push true true before = refl
status_push true false before = refl
status_push false true before = refl
status_push false false before = refl

-- some lines and one more
pub lines_push : (dir : List ℕ) (asked : List AskedWord) (text : List ℕ) (before : Status)
    (more : List ℕ) (after : Status) (word : AskedWord) (all : List ℕ) (last : Status)
    → AreLinesOf dir asked text before more after → IsLineOf dir word more after all last
    → AreLinesOf dir (asked ++ word ∷ []) text before all last
lines_push dir asked text before more after word all last lines line = record {
  rows = lines.rows ++ (word, line.verdict) ∷ [];
  asked_are =
      map-append (λ row. row.0) lines.rows ((word, line.verdict) ∷ [])
      ∙ ap (λ ws. ws ++ word ∷ []) lines.asked_are;
  each =
      let P : AskedWord × Verdict → Type 0 = λ row. IsVerdictOn dir row.0.found row.1 in
      All-push P lines.rows (word, line.verdict) lines.each line.is_verdict;
  lines =
      line.line ∙ ap (λ t. t ++ line_of word.word.now line.verdict) lines.lines
      ∙ flat_map_more (λ row. line_of row.0.word.now row.1) text lines.rows (word, line.verdict);
  is_status =
      let P : AskedWord × Verdict → Bool = λ row. is_good row.1 in
      line.is_status ∙ ap (λ s. if is_good line.verdict then s else ended.Refused) lines.is_status
      ∙ status_push (list_all P lines.rows) (is_good line.verdict) before
      ∙ ap (λ b. if b then before else ended.Refused)
      (sym (list_all-append P lines.rows ((word, line.verdict) ∷ [])));
}

-- the lines of the words before a place, and that of the word there
pub lines_more : (dir : List ℕ) (asked : List AskedWord) (i : ℕ) (word : AskedWord)
    (text : List ℕ) (before : Status) (more : List ℕ) (after : Status) (all : List ℕ)
    (last : Status)
    → i < length asked → word ≡ get_or asked i word
    → AreLinesOf dir (take i asked) text before more after
    → IsLineOf dir word more after all last
    → AreLinesOf dir (take (i + 1) asked) text before all last
lines_more dir asked i word text before more after all last within is lines line =
    let grown : take i asked ++ word ∷ [] ≡ take (i + 1) asked =
    ap (λ (w : AskedWord). take i asked ++ w ∷ []) is ∙ sym (take_more asked i word within) in
    subst (λ (xs : List AskedWord). AreLinesOf dir xs text before all last) grown
    (lines_push dir (take i asked) text before more after word all last lines line)

-- the line of a word whose verdict is known
pub known_line : (dir : List ℕ) (asked : AskedWord) (verdict : Verdict) (text : List ℕ)
    (before : Status) (more : List ℕ) (after : Status)
    → asked.found ≡ Known verdict → more ≡ text ++ line_of asked.word.now verdict
    → after ≡ (if is_good verdict then before else ended.Refused)
    → IsLineOf dir asked text before more after
known_line dir asked verdict text before more after is line ends = record {
  verdict = verdict;
  is_verdict = subst (λ (f : Found). IsVerdictOn dir f verdict) (sym is) refl;
  line = line;
  is_status = ends;
}

-- the line of a word by the verdict on its file
pub file_line : (dir : List ℕ) (asked : AskedWord) (path : List ℕ) (bytes : Vec ℕ)
    (lent : List ℕ) (verdict : Verdict) (text : List ℕ) (before : Status) (more : List ℕ)
    (after : Status)
    → asked.found ≡ File path bytes → lent ≡ bytes.items → IsFileVerdict dir path lent verdict
    → more ≡ text ++ line_of asked.word.now verdict
    → after ≡ (if is_good verdict then before else ended.Refused)
    → IsLineOf dir asked text before more after
file_line dir asked path bytes lent verdict text before more after is same said line ends = record {
  verdict = verdict;
  is_verdict =
      subst (λ (f : Found). IsVerdictOn dir f verdict) (sym is)
      (subst (λ (b : List ℕ). IsFileVerdict dir path b verdict) same said);
  line = line;
  is_status = ends;
}

status_join : (first rest : Bool) (before : Status)
    → (if rest then (if first then before else ended.Refused) else ended.Refused)
    ≡ (if first && rest then before else ended.Refused)
status_join true true before = refl
status_join true false before = refl
status_join false true before = refl
status_join false false before = refl

-- a report and the lines of some rows
report_rows : (gives : List ℕ → Answer → Type 0) (dir : List ℕ) (rows : List (AskedWord × Verdict))
    (words : List (List ℕ)) (text : List ℕ) (before : Status)
    → All (λ a. IsFound gives dir a.word.now a.found) (map (λ row. row.0) rows)
    → All (λ row. IsVerdictOn dir row.0.found row.1) rows
    → IsCheckReport gives dir words text before
    → IsCheckReport gives dir (words ++ map (λ row. row.0.word.now) rows)
    (text ++ flat_map (λ row. line_of row.0.word.now row.1) rows)
    (if list_all (λ row. is_good row.1) rows then before else ended.Refused)
report_rows gives dir [] words text before found said report =
    rw (append-nil words, append-nil text) report
report_rows gives dir (row ∷ rows) words text before found said report =
    let F : AskedWord → Type 0 = λ a. IsFound gives dir a.word.now a.found in
    let V : AskedWord × Verdict → Type 0 = λ r. IsVerdictOn dir r.0.found r.1 in
    let word : List ℕ = row.0.word.now in
    let line : List ℕ = line_of word row.1 in
    let status : Status = if is_good row.1 then before else ended.Refused in
    let asked : List AskedWord = map (λ r. r.0) rows in
    let verdict =
    verdict_by_found gives dir word row.0.found row.1 (All-head F row.0 asked found)
    (All-head V row rows said) in
    let once : IsCheckReport gives dir (words ++ word ∷ []) (text ++ line) status =
    report_push gives dir words text before word row.1 (text ++ line) status report verdict refl
    refl in
    let all =
    report_rows gives dir rows (words ++ word ∷ []) (text ++ line) status
    (All-tail F row.0 asked found) (All-tail V row rows said) once in
    let rest : List (List ℕ) = map (λ r. r.0.word.now) rows in
    let lines : List ℕ = flat_map (λ r. line_of r.0.word.now r.1) rows in
    subst (λ (s : Status). IsCheckReport gives dir (words ++ word ∷ rest) (text ++ (line ++ lines)) s)
    (status_join (is_good row.1) (list_all (λ r. is_good r.1) rows) before)
    (rw (append_assoc words (word ∷ []) rest, append_assoc text line lines) at all)

-- a report and the lines of a group of words
pub report_join : (gives : List ℕ → Answer → Type 0) (dir : List ℕ) (words : List (List ℕ))
    (text : List ℕ) (before : Status) (asked : List AskedWord) (group : List (List ℕ))
    (more : List ℕ) (after : Status)
    → IsCheckReport gives dir words text before
    → All (λ a. IsFound gives dir a.word.now a.found) asked
    → map (λ a. a.word.now) asked ≡ group
    → AreLinesOf dir asked text before more after
    → IsCheckReport gives dir (words ++ group) more after
report_join gives dir words text before asked group more after report found same lines =
    let F : AskedWord → Type 0 = λ a. IsFound gives dir a.word.now a.found in
    let each = subst (λ (all : List AskedWord). All F all) (sym lines.asked_are) found in
    let all = report_rows gives dir lines.rows words text before each lines.each report in
    let words_are : map (λ row. row.0.word.now) lines.rows ≡ group =
    sym (map-map (λ a. a.word.now) (λ row. row.0) lines.rows)
    ∙ ap (λ all. map (λ a. a.word.now) all) lines.asked_are ∙ same in
    rw (← words_are, lines.lines, lines.is_status) all
