-- Entries whose lines are right, and the first wrong line of entries.
use Rattle.std.proofs.Common.{◌≡◌, ◌∙◌, ℕ, ◌+◌, ◌<◌, ◌≤◌, ◌⊎◌, inl, inr, ⊎_elim, List, [], ◌∷◌, ◌++◌, length, map, flat_map, take, drop, get_or, refl, sym, ap, subst, arith, length-append, rules}
use Rattle.std.specs.Prelude.{All, Contains, Err, Result}
use Rattle.std.proofs.lemmas.List.{append-nil, append_assoc, flat_map_more, take_all}
use Rattle.std.proofs.lemmas.List.Concat.{flat_map-append}
use Rattle.std.proofs.lemmas.List.Elements.{All-append, All-contains, All-cons, All-head, All-nil, All-tail}
use Rattle.valid_table.specs.private.Checking.{IsEntryCheck, IsRight, IsRightUpTo, RefersToOther, RegistersKnown, header}
use Rattle.valid_table.specs.Entries.{paths_registered, registered, registered_by}
use Rattle.valid_table.specs.LineFaults.{IsLeastFault, IsNotClosedAt, IsTwiceAt, StandsAt}
use Rattle.valid_table.specs.Reading.{IsEntriesChecking}
use Rattle.valid_table.specs.Texts.{Line, First, Added, Output, Reference, entry_lines, lines}
use Rattle.valid_table.specs.Valid.{IsClosed, IsClosedAfter, references_of}
use Rattle.valid_table.specs.declared.entry.Entry.{Entry}
use Rattle.valid_table.specs.declared.entry.Registration.{Registration}
use Rattle.valid_table.specs.declared.fault.TableFault.{TableFault}
use Rattle.valid_table.specs.declared.fault.TableFault.TheVariants.{NoMemory, NotClosed, Twice}
use Rattle.valid_table.proofs.CheckedEntries.{entry_lines_are, lines_of}
use Rattle.valid_table.proofs.PathLists.{All-right}
use Rattle.nix_names.proofs.Lists.{All-left, Contains-middle, parts_at, taken_more}

-- a line of an entry after earlier registrations is right
abbrev pub IsRightAfter : List Registration → Entry → Line → Type 0
IsRightAfter earlier entry line = IsRight (paths_registered earlier)
    (paths_registered (earlier ++ registered_by entry)) line

-- all lines of entries are right, after earlier registrations
abbrev pub AreRight : List Registration → List Entry → Type 0
AreRight earlier [] = Unit {0}
AreRight earlier (entry ∷ entries) = All (IsRightAfter earlier entry) (entry_lines entry)
    × AreRight (earlier ++ registered_by entry) entries

-- right entries stay so with one more
right_push :
    (earlier : List Registration) (entries : List Entry) (entry : Entry) →
    AreRight earlier entries →
    All (IsRightAfter (earlier ++ registered entries) entry) (entry_lines entry) →
    AreRight earlier (entries ++ entry ∷ [])
right_push earlier [] entry right more = search (rules, append-nil)
right_push earlier (first ∷ entries) entry right more = (
  right.0,
  right_push (earlier ++ registered_by first) entries entry right.1
      (subst (λ rs. All (IsRightAfter rs entry) (entry_lines entry))
      (sym (append_assoc earlier (registered_by first) (registered entries))) more),
)

-- the lines of one of right entries are right
pub right_at :
    (earlier : List Registration) (before : List Entry) (entry : Entry) (after : List Entry) →
    AreRight earlier (before ++ entry ∷ after) →
    All (IsRightAfter (earlier ++ registered before) entry) (entry_lines entry)
right_at earlier [] entry after right = search (rules, append-nil)
right_at earlier (first ∷ before) entry after right =
    search (
      rules,
      append_assoc,
      (right_at (earlier ++ registered_by first) before entry after right.1),
    )

-- the references of right lines are valid
references_valid : (known all references : List (List ℕ))
    → All (IsRight known all) (map Reference references) → All (Contains all) references
references_valid known all [] right = All-nil (Contains all)
references_valid known all (path ∷ references) right =
    search (
      rules,
      All-cons,
      All-head,
      All-tail,
      (references_valid _ _ references
          (All-tail (IsRight known all) (Reference path) (map Reference references) right)),
    )

-- so the references of registrations whose lines are right are known
references_valid_of :
    (known all : List (List ℕ)) (entry : Entry) (rs : List Registration) →
    All (IsRight known all) (lines_of entry rs) →
    All (Contains all) (references_of rs)
references_valid_of known all entry [] right = All-nil (Contains all)
references_valid_of known all entry (r ∷ rs) right =
    let Right = IsRight known all in
    let later = All-tail Right _ _ right in
    All-append (Contains all) _ _
    (references_valid _ all r.info.references
    (All-left Right (map Reference r.info.references) (lines_of entry rs) later))
    (references_valid_of known all entry rs
    (All-right Right _ _ later))

-- right entries are closed
right_closed : (earlier : List Registration) (entries : List Entry) → AreRight earlier entries
    → IsClosedAfter earlier entries
right_closed earlier [] right = tt
right_closed earlier (entry ∷ entries) right =
    let Right = IsRightAfter earlier entry in
    let own = lines_of entry (registered_by entry) in (
      references_valid_of (paths_registered earlier)
          _ entry
          (registered_by entry)
          (All-right Right (header entry) own
          (subst (All Right) (entry_lines_are _) right.0)),
      right_closed (earlier ++ registered_by entry) entries right.1,
    )

-- Two ways to split a list: one of them is further on, or they are the same.
split_two :
    {X : Type 0} (a : List X) (x : X) (xs : List X) (b : List X) (y : X) (ys : List X) →
    a ++ x ∷ xs ≡ b ++ y ∷ ys →
    ((mid : List X) × (b ≡ a ++ x ∷ mid))
    ⊎ (((a ≡ b) × (x ≡ y)) ⊎ ((mid : List X) × (a ≡ b ++ y ∷ mid)))
split_two [] x xs [] y ys same = inr (inl (refl, cc))
split_two [] x xs (z ∷ b) y ys same = search rules
split_two (z ∷ a) x xs [] y ys same = search rules
split_two (z ∷ a) x xs (w ∷ b) y ys same =
    let first : z ≡ w = cc in
    let rest : a ++ x ∷ xs ≡ b ++ y ∷ ys = cc in
    ⊎_elim
    (λ h. inl (h.0, ap (λ l. w ∷ l) h.1 ∙ ap (λ v. v ∷ (a ++ x ∷ h.0)) (sym first)))
    (⊎_elim
    (λ h. inr (inl (ap (λ l. z ∷ l) h.0 ∙ ap (λ v. v ∷ b) first, h.1)))
    (λ h. inr (inr (h.0, ap (λ l. z ∷ l) h.1 ∙ ap (λ v. v ∷ (b ++ y ∷ h.0)) first))))
    (split_two a x _ b y _ rest)

-- entries with another after them, and more, have at least its lines more
lines_after : (entries : List Entry) (entry : Entry) (more : List Entry) → length (lines entries)
    + length (entry_lines entry) ≤ length (lines (entries ++ entry ∷ more))
lines_after entries entry more = search (rules, flat_map-append, entry, length-append, flat_map)

-- Line m of a journal is wrong.
pub record IsWrongAt (entries : List Entry) (m : ℕ) : Type 0 where
  pub before : List Entry
  pub entry : Entry
  pub line : Line
  pub stands : StandsAt entries before entry line m
  pub wrong : IsRightAfter (registered before) entry line → ⊥

-- a line with a fault is wrong
pub wrong_line : (entries : List Entry) (m : ℕ) → IsNotClosedAt entries m ⊎ IsTwiceAt entries m
    → IsWrongAt entries m
wrong_line entries m (inl (before, entry, path, stands, open_there)) = search rules
wrong_line entries m (inr (before, entry, path, digest, nar, inl stands, valid)) = search rules
wrong_line entries m (inr (before, entry, path, digest, nar, inr stands, valid)) = search rules

-- a wrong line isn't among right ones
not_among : (known all : List (List ℕ)) (before : List Line) (line : Line) (after : List Line)
    → All (IsRight known all) (before ++ line ∷ after) → IsRight known all line
not_among known all before line after right =
    All-contains (IsRight known all) _ _ right (Contains-middle _ _ _)

-- so its entry isn't among right ones
pub none_wrong : (entries : List Entry) (m : ℕ) (w : IsWrongAt entries m) (after : List Entry)
    → AreRight [] (w.before ++ w.entry ∷ after) → ⊥
none_wrong entries m w after right =
    let s = w.stands in
    w.wrong
    (not_among _ _ _ _ _
    (subst (All (IsRightAfter (registered w.before) w.entry)) s.is_line
    (right_at [] w.before w.entry after right)))

-- in the entry whose first lines are right, a wrong line stands after these
least_within :
    (entries pre : List Entry) (e : Entry) (first : List Line) (line : Line) (last : List Line)
    (m : ℕ) (w : IsWrongAt entries m) →
    w.before ≡ pre →
    w.entry ≡ e →
    entry_lines e ≡ first ++ line ∷ last →
    All (IsRightAfter (registered pre) e) first →
    length first ≤ length w.stands.first
least_within entries pre e first line last m w same_before same_entry split right =
    let s = w.stands in
    let lines_are : s.first ++ w.line ∷ s.last ≡ first ++ line ∷ last = sym s.is_line
    ∙ ap entry_lines same_entry ∙ split in
    ⊎_elim
    (λ h.
    let here = not_among _
    _
    _ _ _ (subst (All (IsRightAfter (registered pre) e)) h.1 right) in
    let mine = subst (λ x. IsRightAfter (registered pre) x w.line) (sym same_entry) here in
    absurd (w.wrong
    (subst (λ b. IsRightAfter (registered b) w.entry w.line) (sym same_before) mine)))
    (⊎_elim
    (λ h. omega (arith, ap length h.0))
    (λ h. omega (arith, ap length h.1, length-append first (line ∷ h.0))))
    (split_two _ _ _ _ _ _ lines_are)

-- after right entries, and the right first lines of the next one, a wrong line stands no earlier
least_wrong :
    (entries pre : List Entry) (e : Entry) (rest : List Entry) (first : List Line) (line : Line)
    (last : List Line) (m : ℕ) →
    entries ≡ pre ++ e ∷ rest →
    AreRight [] pre →
    entry_lines e ≡ first ++ line ∷ last →
    All (IsRightAfter (registered pre) e) first →
    IsWrongAt entries m →
    length (lines pre) + length first + 1 ≤ m
least_wrong entries pre e rest first line last m parts right split first_right w =
    let s = w.stands in
    let number = s.number in
    ⊎_elim
    (λ h. absurd (none_wrong _ m w _ (subst (AreRight []) h.1 right)))
    (⊎_elim
    (λ h. omega (
      arith,
      least_within _ _ e _ _ _ m w h.0 h.1 split first_right,
      ap (λ es. length (lines es)) h.0,
    ))
    (λ h.
    let long = lines_after pre e h.0 in
    let count = ap length split ∙ length-append first (line ∷ last) in
    omega (arith, ap (λ es. length (lines es)) h.1)))
    (split_two w.before w.entry s.after pre e rest (sym s.parts ∙ parts))

-- no fault stands before a line up to which all are right
pub least_fault :
    (entries pre : List Entry) (e : Entry) (rest : List Entry) (line : Line) (index n : ℕ) →
    entries ≡ pre ++ e ∷ rest →
    AreRight [] pre →
    IsRightUpTo (paths_registered (registered pre))
    (paths_registered (registered pre ++ registered_by e))
    (entry_lines e) line index →
    n ≡ length (lines pre) + index + 1 →
    IsLeastFault entries n
least_fault entries pre e rest line index n parts right up number m fault =
    omega (
      arith,
      least_wrong _ _ e _ _ _ _ m parts right up.parts
          up.right (wrong_line _ m fault),
      up.is_index,
    )

-- a line that registers a known path
twice_at : (entries before : List Entry) (entry : Entry) (line : Line) (n : ℕ)
    → StandsAt entries before entry line n → RegistersKnown (paths_registered (registered before))
    line
    → IsTwiceAt entries n
twice_at entries before entry (Added path digest nar) n stands known =
    (before, entry, path, digest, nar, inl stands, known)
twice_at entries before entry (Output path digest nar) n stands known =
    (before, entry, path, digest, nar, inr stands, known)
twice_at entries before entry line n stands known = absurd known

-- a line that refers to another path
open_at :
    (entries before : List Entry) (entry : Entry) (line : Line) (n : ℕ) →
    StandsAt entries before entry line n →
    RefersToOther (paths_registered (registered before ++ registered_by entry)) line →
    IsNotClosedAt entries n
open_at entries before entry (Reference path) n stands other = (before, entry, path, stands, other)
open_at entries before entry line n stands other = absurd other

-- what an entry after others is checked against
abbrev pub IsCheckAfter : List Entry → Entry → ℕ → Result ℕ TableFault → Type 0
IsCheckAfter pre entry first result =
    IsEntryCheck (paths_registered (registered pre))
    (paths_registered (registered pre ++ registered_by entry))
    (entry_lines entry) first result

-- that is what it is checked against where the known registrations are theirs
pub check_after :
    (pre : List Entry) (entry : Entry) (known : List Registration) (first : ℕ)
    (result : Result ℕ TableFault) →
    known ≡ registered pre →
    IsEntryCheck (paths_registered known) (paths_registered (known ++ registered_by entry))
    (entry_lines entry)
    first result →
    IsCheckAfter pre entry first result
check_after pre entry known first result same check = search rules

-- one of some entries, and those before it
module _ (entries : List Entry) (i : ℕ) (entry : Entry) (lt : i < length entries)
    (is : entry ≡ get_or entries i entry) where
  -- a line up to which all are right stands there
  stands_there : (line : Line) (index n : ℕ)
      → IsRightUpTo (paths_registered (registered (take i entries)))
      (paths_registered (registered (take i entries) ++ registered_by entry)) (entry_lines entry)
      line index
      → n ≡ length (lines (take i entries)) + index + 1
      → StandsAt entries (take i entries) entry line n
  stands_there line index n up number = record {
    after = drop (i + 1) entries;
    parts = parts_at _ i _ lt is;
    first = up.before;
    last = up.after;
    is_line = up.parts;
    number = omega (arith, up.is_index);
  }

  -- the first fault of entries
  pub first_fault : (first : ℕ) (fault : TableFault) → AreRight [] (take i entries)
      → first ≡ length (lines (take i entries)) + 1
      → IsCheckAfter (take i entries) entry first (Err fault)
      → IsEntriesChecking entries (Err fault)
  first_fault first (Twice n) right number (line, index, up, known, counted) =
      let at : n ≡ length (lines (take i entries)) + index + 1 = omega arith in (
        twice_at _ _ _ _ n (stands_there _ _ n up at) known,
        least_fault _ _ _ _ _ _ n
            (parts_at _ i _ lt is) right up at,
      )
  first_fault first (NotClosed n) right number (line, index, up, other, counted) =
      let at : n ≡ length (lines (take i entries)) + index + 1 = omega arith in (
        open_at _ _ _ _ n (stands_there _ _ n up at) other,
        least_fault _ _ _ _ _ _ n
            (parts_at _ i _ lt is) right up at,
      )
  first_fault first NoMemory right number check = search rules
  first_fault first other right number check = check

  -- its lines and those before it are no more than all
  pub lines_fit : length (lines (take i entries)) + length (entry_lines entry)
      ≤ length (lines entries)
  lines_fit =
      let long = lines_after (take i entries) entry (drop (i + 1) entries) in
      omega (arith, ap (λ es. length (lines es)) (parts_at entries i entry lt is))

  -- with it those before it are right
  pub right_more : AreRight [] (take i entries)
      → All (IsRightAfter (registered (take i entries)) entry) (entry_lines entry)
      → AreRight [] (take (i + 1) entries)
  right_more right more = subst (AreRight []) (sym (taken_more _ i _ lt is))
      (right_push [] (take i entries) entry right more)

  -- its lines are counted
  pub lines_more : length (lines (take (i + 1) entries)) ≡ length (lines (take i entries))
      + length (entry_lines entry)
  lines_more =
      ap (λ es. length (lines es)) (taken_more _ i _ lt is)
      ∙ ap (λ ls. length (First ∷ ls)) (sym (flat_map_more entry_lines [] (take i entries) entry))
      ∙ length-append (lines (take i entries)) (entry_lines entry)

  -- and what it registers is known
  pub known_more : (known next : List Registration) → known ≡ registered (take i entries)
      → next ≡ known ++ registered_by entry → next ≡ registered (take (i + 1) entries)
  known_more known next same added =
      added
      ∙ ap (λ l. l ++ registered_by entry) same
      ∙ flat_map_more registered_by [] (take i entries) entry
      ∙ sym (ap registered (taken_more _ i _ lt is))

-- where all entries are right, they are closed
pub closed_after : (entries : List Entry) (i : ℕ) → length entries ≤ i
    → AreRight [] (take i entries) → IsClosed entries
closed_after entries i long right = search (rules, right_closed, take_all)
