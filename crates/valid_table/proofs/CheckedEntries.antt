-- The lines of an entry, checked by what it registers.
use Rattle.std.proofs.Common.{◌≡◌, ◌∙◌, ℕ, suc, ◌+◌, ◌<◌, List, [], ◌∷◌, ◌++◌, length, map, flat_map, take, drop, refl, sym, ap, subst, arith, length-append, rules}
use Rattle.std.specs.Prelude.{All, Contains, Err, Ok, Option, Result, Some, slice_get}
use Rattle.std.proofs.lemmas.List.{append-nil, append_assoc, length-map, map-append, take-map, take-take, take_at}
use Rattle.std.proofs.lemmas.List.Concat.{flat_map-append, length-flat_map}
use Rattle.std.proofs.lemmas.List.Elements.{All-append, All-cons, All-head, All-map, All-nil, All-tail, All-take}
use Rattle.std.proofs.lemmas.Option.{MatchOption-at_some}
use Rattle.nix_names.specs.declared.method.MethodDigest.{MethodDigest}
use Rattle.valid_table.specs.PathInfos.{NarInfo}
use Rattle.valid_table.specs.private.Checking.{IsEntryCheck, IsLineCheck, IsRight, RegistersKnown, header}
use Rattle.valid_table.specs.private.Entering.{AreUnknown, IsNewPrefix, IsNotKnown}
use Rattle.valid_table.specs.Entries.{paths_registered, registered_by}
use Rattle.valid_table.specs.Texts.{Line, Added, Output, Reference, entry_lines}
use Rattle.valid_table.specs.Valid.{references_of}
use Rattle.valid_table.specs.declared.entry.Entry.{Entry}
use Rattle.valid_table.specs.declared.entry.Entry.TheVariants.{Add, Done}
use Rattle.valid_table.specs.declared.entry.Registration.{Registration}
use Rattle.valid_table.specs.declared.fault.TableFault.{TableFault}
use Rattle.valid_table.specs.declared.fault.TableFault.TheVariants.{NoMemory, NotClosed, Twice}
use Rattle.valid_table.proofs.CheckedLines.{line_count}
use Rattle.valid_table.proofs.EnteredPaths.{all_new}
use Rattle.valid_table.proofs.JournalLists.{paths_of-append}
use Rattle.valid_table.proofs.RowNumbers.{path_count}
use Rattle.nix_names.proofs.Lists.{All-left, element_at, get_mapped, split_get}
use Rattle.valid_table.proofs.PathLists.{All-right}

-- which line begins a registration of an entry
abbrev pub starts : Entry → List ℕ → Option MethodDigest → Option NarInfo → Line
starts (Add r) = Added
starts (Done deriver outputs) = Output

-- the lines of a registration of an entry
abbrev own_lines : Entry → Registration → List Line
own_lines entry r = starts entry r.path r.info.digest r.info.nar ∷ map Reference r.info.references

-- and of several
abbrev pub lines_of : Entry → List Registration → List Line
lines_of entry rs = flat_map (own_lines entry) rs

-- an entry's lines
pub entry_lines_are : (entry : Entry) → entry_lines entry ≡ header entry
    ++ lines_of entry (registered_by entry)
entry_lines_are (Add r) = sym (append-nil (entry_lines (Add r)))
entry_lines_are (Done deriver outputs) = refl

-- how many lines of an entry stand before those of a registration
up_to_count : (entry : Entry) (before : List Registration)
    → length (header entry ++ lines_of entry before) ≡ length (header entry) + line_count before
up_to_count entry before = search (rules, length-flat_map)

-- an entry's lines, split at those of a registration
split_lines :
    (entry : Entry) (before : List Registration) (r : Registration) (after : List Registration) →
    registered_by entry ≡ before ++ r ∷ after →
    entry_lines entry ≡ (header entry ++ lines_of entry before)
    ++ (own_lines entry r ++ lines_of entry after)
split_lines entry before r after parts =
    search (rules, entry_lines_are, flat_map-append, append_assoc)

-- the line of a known path registers it
start_known : (known : List (List ℕ)) (entry : Entry) (path : List ℕ)
    (digest : Option MethodDigest) (nar : Option NarInfo)
    → Contains known path → RegistersKnown known (starts entry path digest nar)
start_known known (Add r) path digest nar there = there
start_known known (Done deriver outputs) path digest nar there = there

-- of paths whose first ones are new, those before one of these are, and it is
new_prefix : (known xs ys : List (List ℕ)) (x : List ℕ) (new : ℕ)
    → AreUnknown known (take new (xs ++ x ∷ ys)) → length xs < new
    → AreUnknown known xs × IsNotKnown known x
new_prefix known xs ys x new all lt =
    let New = IsNotKnown known in
    let k = length xs + 1 in
    let prefix : take k (take new (xs ++ x ∷ ys)) ≡ xs ++ x ∷ [] =
    take-take k new (xs ++ x ∷ ys) (omega arith)
    ∙ ap (take k) (sym (append_assoc xs (x ∷ []) ys))
    ∙ take_at (xs ++ x ∷ []) ys k (length-append xs (x ∷ [])) in
    let both = subst (All New) prefix (All-take New k _ all) in
    (All-left New _ _ both, All-head New x [] (All-right New xs (x ∷ []) both))

module _ (known all : List (List ℕ)) where
  -- a line is right
  abbrev Right : Line → Type 0
  Right = IsRight known all

  -- the lines before those of what an entry registers are right
  header_right : (entry : Entry) → All Right (header entry)
  header_right (Add r) = All-nil Right
  header_right (Done deriver outputs) = search (rules, All-cons, All-nil)

  -- the line of a new path is right
  start_right : (entry : Entry) (path : List ℕ) (digest : Option MethodDigest)
      (nar : Option NarInfo) → IsNotKnown known path
      → Right (starts entry path digest nar)
  start_right (Add r) path digest nar new = new
  start_right (Done deriver outputs) path digest nar new = new

  -- and so, with some lines of known references, are those of a registration
  own_right : (entry : Entry) (r : Registration) (references : List (List ℕ))
      → IsNotKnown known r.path → All (Contains all) references
      → All Right (starts entry r.path r.info.digest r.info.nar ∷ map Reference references)
  own_right entry r references new valid = search (rules, All-cons, start_right, All-map)

  -- the lines of registrations with new paths and known references are right
  lines_right : (entry : Entry) (rs : List Registration) → AreUnknown known (paths_registered rs)
      → All (Contains all) (references_of rs) → All Right (lines_of entry rs)
  lines_right entry [] new closed = All-nil Right
  lines_right entry (r ∷ rs) new closed =
      let New = IsNotKnown known in
      let own = r.info.references in
      All-append Right (own_lines entry r) _
      (own_right entry r own (All-head New _ _ new)
      (All-left (Contains all) own (references_of rs) closed))
      (lines_right entry rs (All-tail New r.path _ new)
      (All-right (Contains all) _ _ closed))

  -- an entry's lines up to those of a registration are right
  pub up_to : (entry : Entry) (before : List Registration)
      → AreUnknown known (paths_registered before)
      → All (Contains all) (references_of before)
      → All Right (header entry ++ lines_of entry before)
  up_to entry before new closed = search (rules, All-append, header_right, lines_right)

  -- what the lines of what an entry registers answer, its own do
  entry_checked :
      (entry : Entry) (new first : ℕ) (result : Result ℕ TableFault) →
      IsNewPrefix known (paths_registered (registered_by entry)) new →
      IsLineCheck all (registered_by entry) new (first + length (header entry)) result →
      IsEntryCheck known all (entry_lines entry) first result
  entry_checked entry new first (Ok following) prefix (long, closed, number) =
      let rs = registered_by entry in
      let lines = entry_lines_are _ in (
        subst (All Right) (sym lines) (up_to _ _ (all_new _ _ _ prefix long) closed),
        omega (arith, up_to_count entry rs, ap length lines),
      )
  entry_checked entry new first (Err (Twice n)) prefix (lt, closed, number) =
      let rs = registered_by entry in
      let paths = paths_registered rs in
      let (r, is) = element_at _ _ lt in
      let before = take new rs in
      let after = drop (suc new) rs in
      let at : slice_get paths new ≡ Some r.path =
      get_mapped (λ (x : Registration). x.path) rs new r is
      in
      let new_before : AreUnknown known (paths_registered before) =
      subst (AreUnknown known) (take-map (λ (x : Registration). x.path) new rs) prefix.new in (
        starts entry r.path r.info.digest r.info.nar,
        length (header entry) + line_count before,
        record {
          before = header entry ++ lines_of entry before;
          after = map Reference r.info.references ++ lines_of entry after;
          parts = split_lines _ _ r _ (split_get _ _ r is);
          is_index = sym (up_to_count _ _);
          right = up_to _ _ new_before closed;
        },
        start_known _ _ _ _ _
            (MatchOption-at_some (Unit {0}) (Contains known) r.path at prefix.next),
        omega arith,
      )
  entry_checked entry new first (Err (NotClosed n)) prefix
      (before, r, after, index, parts, lt, closed, (path, unknown, at), number) =
      let up = header entry ++ lines_of entry before in
      let earlier = starts entry r.path r.info.digest r.info.nar ∷ map Reference unknown.before in
      let later = map Reference unknown.after in
      let rest = lines_of entry after in
      let paths = ap paths_registered parts ∙ paths_of-append before (r ∷ after) in
      let fresh = new_prefix known (paths_registered before) (paths_registered after) r.path new
      (subst (λ l. AreUnknown known (take new l)) paths prefix.new)
      (omega (arith, path_count before)) in
      let split : entry_lines entry ≡ (up ++ earlier) ++ Reference path ∷ (later ++ rest) =
      split_lines entry before r after parts
      ∙ ap (λ refs. up ++ (starts entry r.path r.info.digest r.info.nar
      ∷ (map Reference refs ++ rest)))
      unknown.parts
      ∙ ap (λ l. up ++ (starts entry r.path r.info.digest r.info.nar ∷ (l ++ rest)))
      (map-append Reference unknown.before (path ∷ unknown.after))
      ∙ ap (λ l. up ++ l) (append_assoc earlier (Reference path ∷ later) rest)
      ∙ sym (append_assoc up earlier (Reference path ∷ (later ++ rest))) in
      let counted = length-append up earlier in (
        Reference path,
        length (up ++ earlier),
        record {
          before = up ++ earlier;
          after = later ++ rest;
          parts = split;
          is_index = refl;
          right = All-append Right up earlier (up_to entry before fresh.0 closed)
              (own_right entry r unknown.before fresh.1 unknown.others);
        },
        unknown.is,
        omega (arith, up_to_count entry before, length-map unknown.before Reference),
      )
  entry_checked entry new first (Err NoMemory) prefix check = tt
  entry_checked entry new first (Err other) prefix check = check

-- what the lines of an entry's registrations answer, the entry's own do, after known registrations
pub own_checked :
    (known : List Registration) (entry : Entry) (rs : List Registration) (new first at : ℕ)
    (result : Result ℕ TableFault) →
    rs ≡ registered_by entry →
    at ≡ first + length (header entry) →
    IsNewPrefix (paths_registered known) (paths_registered rs) new →
    IsLineCheck (paths_registered (known ++ rs)) rs new at result →
    IsEntryCheck (paths_registered known) (paths_registered (known ++ registered_by entry))
    (entry_lines entry)
    first result
own_checked known entry rs new first at result own number prefix check =
    search (rules, entry_checked)
