-- What `clap` found where it finds no fault: each value of an argument is one that its parser takes.
use Rattle.std.proofs.Common.{◌≡◌, ◌∙◌, ◌++◌, ◌&&◌, ◌||◌, ap, refl, sym, subst, ℕ, zero, suc, Bool, true, false, List, [], ◌∷◌, Option, Some, None, cond, arith}
use Rattle.std.specs.Prelude.{find, slice_get, fold, not, length, drop, encode_utf8, is_some}
use Rattle.std.specs.List.{list_all}
use Rattle.std.specs.Option.{option_map_or}
use Rattle.std.specs.Str.{bytes_eq, chars}
use Rattle.std.proofs.lemmas.Bool.{false≢true, ne_eqb}
use Rattle.std.proofs.lemmas.List.Folds.{list_all-append}
use Rattle.std.proofs.lemmas.Slice.Eq.{bytes_eq-Decides}
use Rattle.clap.specs.Facts.{parser_of_value}
use Rattle.clap.specs.Values.{reading_of}
use Rattle.clap.specs.ValueTests.{accepts}
use Rattle.clap.specs.declared.error.kind.ErrorKind.TheVariants as kind
use Rattle.clap.specs.Kinds.{Kinds, or_else, request_kinds, value_kinds, values_kinds}
use Rattle.clap.specs.Lexer.{long_of, short_of}
use Rattle.clap.specs.Faults.{action_fault, bundle_fault, bundle_step_fault, stray_fault, default_fault, defaults_fault, flag_word_fault, flags_fault, level_fault, long_fault, option_fault, other_fault, positional_fault, react_fault, settle_fault, short_fault, step_fault, turn_fault, use_fault, values_fault, walk_fault, word_fault}
use Rattle.clap.specs.Simple.{Shape}
use Rattle.clap.specs.Walk.{bundle, has_long, has_short, stronger, nothing_held, value, trailing, option, done, waits, plain, Held, Names, Outcome, Row, Rule, Step, Text, Waiting, Walk, action_of, after_flag, after_step, arg_by_id, arg_by_index, arg_by_long, arg_by_short, attached_value, bundle_met, bundle_step, default_rows, flag_met, has_row, is_empty, is_pending, long_met, long_or_other, more_values, option_met, option_word, plain_word, reacted, reading_by, rows_after, settled, settled_rows, short_met, short_or_plain, subcommand_met, subcommand_or_other, takes_several, takes_values, to_positional, used, used_as, used_by_id, values_or_missing, walk, walk_from, walked, walked_from, with_default, with_values, without, word_met}
use Rattle.clap.specs.declared.builder.action.ArgAction.{ArgAction}
use Rattle.clap.specs.declared.builder.action.ArgAction.TheVariants.{Set, Append, SetTrue, SetFalse, Count}
use Rattle.clap.specs.declared.builder.value_parser.Reading.{Reading}
use Rattle.clap.specs.declared.builder.value_parser.ValueParser.{ValueParser}
use Rattle.clap.specs.declared.parser.matches.ValueSource.{ValueSource}
use Rattle.clap.specs.declared.parser.matches.ValueSource.TheVariants.{CommandLine, DefaultValue}
use Rattle.clap.specs.declared.error.kind.ErrorKind.{ErrorKind}

-- each element of a list
abbrev pub Each : {X : Type 0} → (X → Type 0) → List X → Type 0
Each P [] = Unit {0}
Each P (x ∷ xs) = P x × Each P xs

-- the value that is there, if one is
abbrev pub AtSome : {X : Type 0} → (X → Type 0) → Option X → Type 0
AtSome P None = Unit {0}
AtSome P (Some x) = P x

-- what a search finds passes its test, and is one of the list
at_choice : {X : Type 0} (P : X → Type 0) (b : Bool) (x : X) (rest : Option X)
    → (b ≡ true → P x) → AtSome P rest → AtSome P (cond b (Some x) rest)
at_choice P true x rest h k = h refl
at_choice P false x rest h k = k

pub at_found : {X : Type 0} (P : X → Type 0) (q : X → Bool) (xs : List X)
    → Each P xs → AtSome (λ x. P x × (q x ≡ true)) (find q xs)
at_found P q [] h = tt
at_found P q (x ∷ xs) h =
    at_choice (λ x. P x × (q x ≡ true)) (q x) x (find q xs) (λ e. (h.0, e)) (at_found P q xs h.1)

-- neither of two steps has a fault
pub neither : (a b : Kinds) → or_else a b ≡ [] → (a ≡ []) × (b ≡ [])
neither [] b e = (refl, e)
neither (k ∷ ks) b e = cc

accepted : (b : Bool) (k : ErrorKind) → cond b [] (k ∷ []) ≡ [] → b ≡ true
accepted true k e = refl
accepted false k e = cc

both_true : (a b : Bool) → a ≡ true → b ≡ true → (a && b) ≡ true
both_true true b x y = y
both_true false b x y = absurd (false≢true x)

-- values without a fault are accepted
all_accepted : (p : ValueParser) (vs : List Text) → values_kinds false p vs ≡ []
    → list_all (accepts false p) vs ≡ true
all_accepted p [] e = refl
all_accepted p (v ∷ vs) e =
    let parts = neither (value_kinds false p v) (values_kinds false p vs) e in
    both_true (accepts false p v) _ (accepted _ _ parts.0) (all_accepted p vs parts.1)

abbrev pub is_count : ArgAction → Bool
is_count Count = true
is_count _ = false

module _ (id : Text) (p : ValueParser) where
  -- a row of the argument has values that the parser takes, and is read as it says
  abbrev pub Passes : Row → Type 0
  Passes r =
      bytes_eq r.id id ≡ true
      → (r.reading ≡ reading_of p) × (list_all (accepts false p) r.values ≡ true)

  -- the argument, if it has this id, has this parser, and no argument is a count
  abbrev pub IsRead : Rule → Type 0
  IsRead a =
      (is_count (action_of a) ≡ false)
      × (bytes_eq a.id id ≡ true → (parser_of_value a.parser ≡ p) × (a.ignore_case ≡ false))

  -- values that are added under an id
  abbrev Adds : Text → Reading → List Text → Type 0
  Adds x how vs =
      bytes_eq x id ≡ true → (how ≡ reading_of p) × (list_all (accepts false p) vs ≡ true)

  at_row_of : (b : Bool) (xs ys : List Row) → (b ≡ true → Each Passes xs) → Each Passes ys
      → Each Passes (cond b xs ys)
  at_row_of true xs ys h k = h refl
  at_row_of false xs ys h k = k

  without_passes : (x : Text) (rows : List Row) → Each Passes rows → Each Passes (without x rows)
  without_passes x [] h = tt
  without_passes x (r ∷ rs) h =
      at_row_of (bytes_eq r.id x) rs (r ∷ without x rs) (λ e. h.1) (h.0, without_passes x rs h.1)

  values_pass : (x : Text) (how : Reading) (s : ValueSource) (vs : List Text) (rows : List Row)
      → Adds x how vs → Each Passes rows → Each Passes (with_values x how s vs rows)
  values_pass x how s vs [] adds h = (adds, tt)
  values_pass x how s vs (r ∷ rs) adds h =
      let more : bytes_eq r.id x ≡ true → Passes (record r { values = r.values ++ vs; source = Some (stronger r.source s) }) = λ same own.
      let is_x = (bytes_eq-Decides r.id x).0 same in
      let added = adds (subst (λ (t : Text). bytes_eq t id ≡ true) is_x own) in
      let before = h.0 own in (
        before.0,
        list_all-append (accepts false p) r.values vs ∙ both_true _ _ before.1 added.1,
      ) in
      at_row_of (bytes_eq r.id x) (more_values s vs r ++ rs) (r ∷ with_values x how s vs rs)
      (λ e. (more e, h.1)) (h.0, values_pass x how s vs rs adds h.1)

  adds_of : (a : Rule) (vs : List Text) → IsRead a → values_fault a vs ≡ []
      → Adds a.id (reading_by a) vs
  adds_of a vs is none same =
      let read = is.1 same in (
        ap reading_of read.0,
        all_accepted p vs (rw (read.0, read.1) at none),
      )

  -- one use of an argument
  acted : (x : ArgAction) (again : Bool) (a : Rule) (vs : List Text) (rows : List Row)
      → is_count x ≡ false → (values_fault a vs ≡ [] → Adds a.id (reading_by a) vs)
      → action_fault x again a vs rows ≡ [] → Each Passes rows
      → Each Passes (used_as x a.id (reading_by a) vs rows)
  acted Set again a vs rows counts adds none h =
      values_pass a.id (reading_by a) CommandLine vs (without a.id rows)
      (adds (neither _ _ none).1) (without_passes a.id rows h)
  acted SetTrue again a vs rows counts adds none h =
      values_pass a.id (reading_by a) CommandLine vs (without a.id rows)
      (adds (neither _ _ none).1) (without_passes a.id rows h)
  acted SetFalse again a vs rows counts adds none h =
      values_pass a.id (reading_by a) CommandLine vs (without a.id rows)
      (adds (neither _ _ none).1) (without_passes a.id rows h)
  acted Append again a vs rows counts adds none h =
      values_pass a.id (reading_by a) CommandLine vs rows (adds none) h
  acted Count again a vs rows counts adds none h = absurd (false≢true (sym counts))
  acted x again a vs rows counts adds none h = h

  use_passes : (again : Bool) (a : Rule) (vs : List Text) (rows : List Row) → IsRead a
      → use_fault again a vs rows ≡ [] → Each Passes rows → Each Passes (used a vs rows)
  use_passes again a vs rows is none h =
      acted (action_of a) again a (values_or_missing a vs) rows is.0
      (adds_of a (values_or_missing a vs) is) (neither _ _ none).1 h

  -- the pending argument
  by_id_passes : (again : Bool) (found : Option Rule) (vs : List Text) (rows : List Row)
      → AtSome IsRead found
      → option_map_or (λ a. use_fault again a vs rows) found [] ≡ [] → Each Passes rows
      → Each Passes (used_by_id found vs rows)
  by_id_passes again None vs rows is none h = h
  by_id_passes again (Some a) vs rows is none h = use_passes again a vs rows is none h

  module _ (c : List Rule) (again : Bool) (all : Each IsRead c) where
    read_found : (q : Rule → Bool) → AtSome IsRead (find q c)
    read_found q = first_at (find q c) (at_found IsRead q c all)
      where
        first_at : (o : Option Rule) → AtSome (λ a. IsRead a × (q a ≡ true)) o → AtSome IsRead o
        first_at None h = tt
        first_at (Some a) h = h.0

    pending_passes : (pending : Option (Text × List Text)) (rows : List Row)
        → option_map_or (λ q. option_map_or (λ a. use_fault again a q.1 rows) (arg_by_id c q.0) [])
        pending []
        ≡ []
        → Each Passes rows → Each Passes (settled_rows c pending rows)
    pending_passes None rows none h = h
    pending_passes (Some q) rows none h =
        by_id_passes again (arg_by_id c q.0) q.1 rows (read_found (λ a. bytes_eq a.id q.0)) none h

    settle_passes : (h : Held) → settle_fault c again h ≡ [] → Each Passes h.rows
        → Each Passes (settled c h).rows
    settle_passes h none rows = pending_passes h.pending h.rows none rows

    react_passes : (a : Rule) (vs : List Text) (h : Held) → IsRead a
        → react_fault c again a vs h ≡ [] → Each Passes h.rows
        → Each Passes (reacted c a vs h).rows
    react_passes a vs h is none rows =
        let parts = neither (settle_fault c again h) _ none in
        use_passes again a vs (settled c h).rows is parts.1 (settle_passes h parts.0 rows)

    -- a flag or an option
    option_passes : (a : Rule) (v : Option Text) (h : Held) → IsRead a
        → option_fault c again a v h ≡ [] → Each Passes h.rows
        → Each Passes (option_met c a v h).0.rows
    option_passes a (Some v) h is none rows = react_passes a (v ∷ []) h is none rows
    option_passes a None h is none rows = settle_passes h none rows

    flag_passes : (a : Rule) (v : Option Text) (h : Held) → IsRead a
        → cond (is_some v) (kind.TooManyValues ∷ []) (react_fault c again a [] h) ≡ []
        → Each Passes h.rows → Each Passes (flag_met c a v h).0.rows
    flag_passes a (Some v) h is none rows = rows
    flag_passes a None h is none rows = react_passes a [] h is none rows

    long_choice : (b : Bool) (a : Rule) (v : Option Text) (h : Held) → IsRead a
        → cond b (option_fault c again a v h)
        (cond (is_some v) (kind.TooManyValues ∷ []) (react_fault c again a [] h))
        ≡ []
        → Each Passes h.rows
        → Each Passes (cond b (option_met c a v h) (flag_met c a v h)).0.rows
    long_choice true a v h is none rows = option_passes a v h is none rows
    long_choice false a v h is none rows = flag_passes a v h is none rows

    long_passes : (found : Option Rule) (v : Option Text) (h : Held) → AtSome IsRead found
        → long_fault c again found v h ≡ [] → Each Passes h.rows
        → Each Passes (long_met c found v h).0.rows
    long_passes None v h is none rows = rows
    long_passes (Some a) v h is none rows = long_choice (takes_values a) a v h is none rows

    short_choice : (b : Bool) (a : Rule) (v : Option Text) (h : Held) (fault : Held → Kinds)
        (met : Held → Held × Outcome)
        → ((h : Held) → fault h ≡ [] → Each Passes h.rows → Each Passes (met h).0.rows)
        → IsRead a
        → cond b (option_fault c again a v h)
        (or_else (react_fault c again a [] h) (fault (reacted c a [] h)))
        ≡ []
        → Each Passes h.rows
        → Each Passes (cond b (option_met c a v h) (met (reacted c a [] h))).0.rows
    short_choice true a v h fault met next is none rows = option_passes a v h is none rows
    short_choice false a v h fault met next is none rows =
        let parts = neither (react_fault c again a [] h) _ none in
        next (reacted c a [] h) parts.1 (react_passes a [] h is parts.0 rows)

    short_passes : (found : Option Rule) (rest : Text) (h : Held) (fault : Held → Kinds)
        (met : Held → Held × Outcome)
        → ((h : Held) → fault h ≡ [] → Each Passes h.rows → Each Passes (met h).0.rows)
        → AtSome IsRead found
        → short_fault c again found rest h fault ≡ [] → Each Passes h.rows
        → Each Passes (short_met c found rest h met).0.rows
    short_passes None rest h fault met next is none rows = rows
    short_passes (Some a) rest h fault met next is none rows =
        short_choice (takes_values a) a (attached_value rest) h fault met next is none rows

    -- the characters of a bundle
    step_passes : (x : Option ℕ) (flags : Text) (skip : ℕ) (so_far : Outcome) (h : Held)
        (fault : Text → ℕ → Held → Kinds) (met : Text → ℕ → Outcome → Held → Held × Outcome)
        → ((rest : Text) (n : ℕ) (out : Outcome) (h : Held)
        → fault rest n h ≡ [] → Each Passes h.rows → Each Passes (met rest n out h).0.rows)
        → bundle_step_fault c again x flags skip h fault ≡ [] → Each Passes h.rows
        → Each Passes (bundle_step c x flags skip so_far h met).0.rows
    step_passes None flags skip so_far h fault met next none rows = rows
    step_passes (Some x) flags zero so_far h fault met next none rows =
        let rest : Text = drop (length (encode_utf8 x)) flags in
        short_passes (arg_by_short c x) rest h (fault rest 0) (met rest 0 done)
        (next rest 0 done) (read_found (λ a. not (is_some a.index) && has_short a x)) none rows
    step_passes (Some x) flags (suc skip) so_far h fault met next none rows =
        next (drop (length (encode_utf8 x)) flags) skip so_far h none rows

    flags_pass : (k : ℕ) (flags : Text) (skip : ℕ) (so_far : Outcome) (h : Held)
        → flags_fault c again k flags skip h ≡ [] → Each Passes h.rows
        → Each Passes (bundle_met c k flags skip so_far h).0.rows
    unfolding flags_fault bundle_met
    flags_pass zero flags skip so_far h none rows = rows
    flags_pass (suc k) flags skip so_far h none rows =
        step_passes (slice_get (chars flags) 0) flags skip so_far h (flags_fault c again k)
        (bundle_met c k) (flags_pass k) none rows

    -- a word that is no flag, and one that may be
    value_passes : (found : Option Rule) (name word : Text) (h : Held) → Each Passes h.rows
        → Each Passes (option_word found name word h).0.rows
    value_passes None name word h rows = rows
    value_passes (Some a) name word h rows = rows

    plain_passes : (waiting : Waiting) (word : Text) (h : Held) → Each Passes h.rows
        → Each Passes (plain_word c waiting word h).0.rows
    plain_passes (option name) word h rows = value_passes (arg_by_id c name) name word h rows
    plain_passes waiting word h rows = rows

    after_passes : (waiting : Waiting) (word : Text) (h : Held) (out : Outcome)
        → Each Passes h.rows → Each Passes (after_flag c waiting word h out).0.rows
    after_passes waiting word h done rows = rows
    after_passes waiting word h (waits name) rows = rows
    after_passes waiting word h out rows = plain_passes waiting word h rows

    short_word_passes : (waiting : Waiting) (word : Text) (found : Option Text) (h : Held)
        → option_map_or (λ flags. bundle_fault c again flags h) found [] ≡ []
        → Each Passes h.rows → Each Passes (short_or_plain c waiting word found h).0.rows
    short_word_passes waiting word None h none rows = plain_passes waiting word h rows
    short_word_passes waiting word (Some flags) h none rows =
        after_passes waiting word (bundle c flags h).0 (bundle c flags h).1
        (flags_pass (length flags) flags h.skip plain (record h { skip = 0 }) none rows)

    flag_word_passes : (waiting : Waiting) (word : Text) (found : Option (Text × Option Text))
        (h : Held)
        → flag_word_fault c again found word h ≡ [] → Each Passes h.rows
        → Each Passes (long_or_other c waiting word found h).0.rows
    flag_word_passes waiting word (Some q) h none rows =
        let met = long_met c (arg_by_long c q.0) q.1 h in
        after_passes waiting word met.0 met.1
        (long_passes (arg_by_long c q.0) q.1 h
        (read_found (λ a. not (is_some a.index) && has_long a q.0)) none rows)
    flag_word_passes waiting word None h none rows =
        short_word_passes waiting word (short_of word) h none rows

    dashes_choice : (b : Bool) (waiting : Waiting) (position : ℕ) (word : Text) (h : Held)
        → cond b [] (flag_word_fault c again (long_of word) word h) ≡ [] → Each Passes h.rows
        → Each Passes
        (cond b (h, trailing position) (long_or_other c waiting word (long_of word) h)).0.rows
    dashes_choice true waiting position word h none rows = rows
    dashes_choice false waiting position word h none rows =
        flag_word_passes waiting word (long_of word) h none rows

  -- a walk over words
  module _ (s : Shape) (names : Names) (all : Each IsRead s.rules) where
    other_passes : (name : Option Text) (waiting : Waiting) (position : ℕ) (word : Text) (h : Held)
        → other_fault s name word h ≡ [] → Each Passes h.rows
        → Each Passes (subcommand_or_other s.rules name waiting position word h).0.rows
    other_passes (Some name) waiting position word h none rows = rows
    other_passes None waiting position word h none rows =
        dashes_choice s.rules s.args_override_self all (bytes_eq word (45 ∷ 45 ∷ [])) waiting
        position word h none rows

    word_passes : (is_trailing : Bool) (waiting : Waiting) (position : ℕ) (word : Text) (h : Held)
        → word_fault s names is_trailing waiting word h ≡ [] → Each Passes h.rows
        → Each Passes (word_met s.rules names is_trailing waiting position word h).0.rows
    word_passes true waiting position word h none rows = rows
    word_passes false waiting position word h none rows =
        other_passes (subcommand_met names waiting word) waiting position word h none rows

    held_choice : (b : Bool) (h : Held)
        → cond b [] (settle_fault s.rules s.args_override_self h) ≡ [] → Each Passes h.rows
        → Each Passes (cond b h (settled s.rules h)).rows
    held_choice true h none rows = rows
    held_choice false h none rows = settle_passes s.rules s.args_override_self all h none rows

    position_passes : (found : Option Rule) (word : Text) (w : Walk) (h : Held)
        → option_map_or (λ a. positional_fault s.rules s.args_override_self a h) found
        (stray_fault s)
        ≡ []
        → Each Passes h.rows → Each Passes (to_positional s.rules found word w h).held.rows
    position_passes None word w h none rows = rows
    position_passes (Some a) word w h none rows =
        held_choice (is_pending a h.pending && takes_several a) h none rows

    after_step_passes : (word : Text) (w : Walk) (h : Held) (step : Step)
        → step_fault s w.position h step ≡ [] → Each Passes h.rows
        → Each Passes (after_step s.rules word w h step).held.rows
    after_step_passes word w h value none rows =
        position_passes (arg_by_index s.rules w.position) word w h none rows
    after_step_passes word w h step none rows = rows

    walked_passes : (stopped : Option (Text × List Text)) (w : Walk) (word : Text)
        → cond (is_some stopped) []
        (or_else (word_fault s names w.is_trailing w.waiting word w.held)
        (step_fault s w.position
        (word_met s.rules names w.is_trailing w.waiting w.position word w.held).0
        (word_met s.rules names w.is_trailing w.waiting w.position word w.held).1))
        ≡ []
        → Each Passes w.held.rows
        → Each Passes (walked_from s.rules names stopped w word).held.rows
    walked_passes (Some q) w word none rows = rows
    walked_passes None w word none rows =
        let met = word_met s.rules names w.is_trailing w.waiting w.position word w.held in
        let parts =
        neither (word_fault s names w.is_trailing w.waiting word w.held) _ none in
        after_step_passes word w met.0 met.1 parts.1
        (word_passes w.is_trailing w.waiting w.position word w.held parts.0 rows)

    walk_passes : (words : List Text) (w : Walk) → walk_fault s names w words ≡ []
        → Each Passes w.held.rows
        → Each Passes (fold (walked s.rules names) w words).held.rows
    unfolding walked walk_fault
    walk_passes [] w none rows = rows
    walk_passes (word ∷ rest) w none rows =
        let parts = neither (turn_fault s names w word) _ none in
        walk_passes rest (walked s.rules names w word) parts.1
        (walked_passes w.stopped w word parts.0 rows)

  -- defaults
  default_choice : (b : Bool) (a : Rule) (rows : List Row) → IsRead a
      → cond (b || is_empty a.defaults) []
      (or_else (request_kinds (action_of a)) (values_fault a a.defaults))
      ≡ []
      → Each Passes rows
      → Each Passes (cond b rows (default_rows a.id (reading_by a) a.defaults rows))
  default_choice true a rows is none h = h
  default_choice false a rows is none h = defaults_pass a.defaults none
    where
      defaults_pass : (vs : List Text)
          → cond (is_empty vs) [] (or_else (request_kinds (action_of a)) (values_fault a vs)) ≡ []
          → Each Passes (default_rows a.id (reading_by a) vs rows)
      defaults_pass [] none = h
      defaults_pass (v ∷ vs) none =
          let full : is_empty (v ∷ vs) ≡ false =
          ne_eqb (length (v ∷ vs)) 0 (λ e. omega arith) in
          values_pass a.id (reading_by a) DefaultValue (v ∷ vs) rows
          (adds_of a (v ∷ vs) is (neither (request_kinds (action_of a)) _ (rw full at none)).1) h

  finish_passes : (c : List Rule) (rows : List Row) → Each IsRead c → defaults_fault rows c ≡ []
      → Each Passes rows → Each Passes (fold with_default rows c)
  unfolding defaults_fault
  finish_passes [] rows all none h = h
  finish_passes (a ∷ rest) rows all none h =
      let parts = neither (default_fault rows a) _ none in
      finish_passes rest (with_default rows a) all.1 parts.1
      (default_choice (has_row a.id rows) a rows all.0 parts.0 h)

  -- the rows of a level whose words have no fault
  pub level_passes : (s : Shape) (names : Names) (words : List Text) (has : Bool) (below : Kinds)
      → Each IsRead s.rules → level_fault s names nothing_held words has below ≡ []
      → Each Passes (rows_after s.rules names words)
  level_passes s names words has below all none =
      let end = (walk s.rules names nothing_held words).held in
      let first = neither (walk_fault s names (walk_from nothing_held) words) _ none in
      let second = neither below _ first.1 in
      let third = neither (settle_fault s.rules s.args_override_self end) _ second.1 in
      let fourth = neither (defaults_fault (settled s.rules end).rows s.rules) _ third.1 in
      let walked = walk_passes s names all words (walk_from nothing_held) first.0 no_rows in
      finish_passes s.rules (settled s.rules end).rows all fourth.0
      (settle_passes s.rules s.args_override_self all end third.0 walked)
    where
      no_rows : Each Passes []
      no_rows = tt
