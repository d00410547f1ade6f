-- Single lines, as steps from one position to the next.
use Rattle.std.proofs.Common.{◌≡◌, ℕ, List, [], ◌∷◌, ◌++◌, length, get_or, sym, ap, ◌∙◌, rules}
use Rattle.std.proofs.lemmas.List.{append-nil, append_assoc}
use Rattle.valid_table.specs.private.LineTexts.{lines_text}
use Rattle.valid_table.specs.private.Readers.{StopsWhere}
use Rattle.valid_table.specs.declared.journal_text.reading.LineFault.{LineFault}
use Rattle.valid_table.specs.declared.journal_text.reading.LineFault.TheVariants.{NoMemory, Left}
use Rattle.valid_table.specs.private.Steps.{Position, Ahead, GoesOnWith, MayBeLine, Stops, position_after}
use Rattle.valid_table.specs.Texts.{Line, line_text}
use Rattle.valid_table.specs.declared.path_table.version.Version.{Version}
use Rattle.valid_table.proofs.LineLists.{IsBackward}

-- the first byte
abbrev pub first : List ℕ → ℕ
first bytes = get_or bytes 0 0

-- where no line goes on with bytes that begin with something, the lines stop
pub stop_here : (version : Version) (dir : List ℕ) (position : Position) (bad : List ℕ) (c : ℕ)
    (more : List ℕ) → bad ≡ c
    ∷ more → Ahead position bad → ((line : Line) (rest : List ℕ)
    → GoesOnWith version dir position bad line rest → ⊥)
    → Stops version dir position bad (length bad)
stop_here version dir position bad c more begins ahead stuck = search rules

-- one line, and where the lines after it stop
pub stop_after : (version : Version) (dir : List ℕ) (from : Position) (bytes : List ℕ)
    (line : Line)
    (more : List ℕ)
    (left : ℕ) → bytes ≡ line_text version line ++ more → MayBeLine version dir from line
    → Stops version dir (position_after from line) more left → Stops version dir from bytes left
stop_after version dir from bytes line more left parts may h = record {
  lines = line ∷ h.lines;
  bad = h.bad;
  parts = parts ∙ ap (λ (t : List ℕ). line_text version line ++ t) h.parts
      ∙ sym (append_assoc (line_text version line) (lines_text version h.lines) h.bad);
  leads = (may, h.leads);
  is_left = h.is_left;
  some = h.some;
}

-- in lines and the rest, the lines stop with so many bytes left
abbrev pub StopsIn : Version → List ℕ → List ℕ → ℕ → Position → List Line → Type 0
StopsIn version dir rest left from lines =
    Stops version dir from (lines_text version lines ++ rest) left

-- they stop where those after the first one do
pub stops_back : (version : Version) (dir rest : List ℕ) (left : ℕ)
    → IsBackward version dir (StopsIn version dir rest left)
stops_back version dir rest left from line more may h = search (rules, stop_after, append_assoc)

-- equal bytes stop with as many left
pub stops_in : (version : Version) (dir : List ℕ) (from : Position) (lines : List Line)
    (bytes rest : List ℕ) (left : ℕ)
    → bytes ≡ lines_text version lines ++ rest → StopsIn version dir rest left from (lines ++ [])
    → Stops version dir from bytes left
stops_in version dir from lines bytes rest left parts h = search (rules, append-nil)

-- what follows from where a reader stopped
pub stops_where : (P Q : ℕ → Type 0) → ((left : ℕ) → P left → Q left) → (stop : LineFault)
    → StopsWhere P stop → StopsWhere Q stop
stops_where P Q weaker NoMemory h = tt
stops_where P Q weaker (Left left) h = weaker left h
