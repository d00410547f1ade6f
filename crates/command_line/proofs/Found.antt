-- What `clap` found in the words of this command line, where it finds no fault in them.
use Rattle.std.proofs.Common.{◌≡◌, ◌∙◌, ◌||◌, ◌&&◌, ◌⊎◌, ap, inl, inr, refl, sym, subst, ℕ, zero, suc, Bool, true, false, List, [], ◌∷◌, Option, Some, None, cond, get_or}
use Rattle.std.specs.Prelude.{IfSome, codes, drop, find, fold, is_some, not, option_map, pos, slice_get}
use Rattle.std.specs.Prelude.{take}
use Rattle.std.specs.List.{list_all}
use Rattle.std.specs.Option.{option_map_or}
use Rattle.std.specs.Str.{bytes_eq}
use Rattle.std.proofs.lemmas.Bool.{false≢true}
use Rattle.std.proofs.lemmas.Slice.Eq.{bytes_eq-Decides}
use Rattle.clap.specs.Lexer.{long_of, short_of}
use Rattle.clap.specs.ValueTests.{accepts}
use Rattle.clap.proofs.ValueTestLemmas.{accepts-Accepts}
use Rattle.clap.proofs.WalkLemmas.{both}
use Rattle.clap.specs.Values.{Accepts, reading_of}
use Rattle.clap.specs.Kinds.{Kinds, or_else}
use Rattle.clap.specs.Faults.{check_fault, defaults_fault, entered_fault, level_fault, other_fault, settle_fault, turn_fault, walk_fault, word_fault}
use Rattle.clap.specs.Simple.{App, Shape, argument_words, built, entered, label_of, names_of, rows_at, subcommand_of}
use Rattle.clap.specs.Walk.{Held, Names, Outcome, Row, Rule, Step, Text, Waiting, Walk, action_of, after_flag, after_step, answers_to, arg_by_index, done, finished, long_or_other, next, nothing_held, option, plain_word, settled, short_or_plain, subcommand, subcommand_met, subcommand_or_other, to_positional, trailing, value, waits, walk, walk_from, walked, walked_from, word_met}
use Rattle.clap.specs.declared.builder.value_parser.ValueParser.{ValueParser}
use Rattle.clap.specs.declared.builder.value_parser.ValueParser.TheVariants.{Signed, Unsigned}
use Rattle.clap.specs.declared.error.kind.ErrorKind.{ErrorKind}
use Rattle.command_line.proofs.CommandLines.{not_true}
use Rattle.command_line.proofs.Walks.{AtSome, Each, IsRead, Passes, at_found, is_count, level_passes}
use Rattle.command_line.proofs.Walks.{neither}
use Rattle.command_line.specs.CommandLine.{command_line}
use Rattle.command_line.specs.private.Found.{IsFound, IsSubcommand}
use Rattle.command_line.specs.Usage.{faults_in}

-- where a walk stopped is not at `help`
abbrev NotHelp : Option (Text × List Text) → Type 0
NotHelp None = Unit {0}
NotHelp (Some q) = bytes_eq q.0 (codes "help") ≡ false

abbrev NoHelpStep : Step → Type 0
NoHelpStep (subcommand name) = bytes_eq name (codes "help") ≡ false
NoHelpStep step = Unit {0}

plain_step : (c : List Rule) (waiting : Waiting) (word : Text) (h : Held)
    → NoHelpStep (plain_word c waiting word h).1
plain_step c (option name) word h = tt
plain_step c waiting word h = tt

after_flag_step : (c : List Rule) (waiting : Waiting) (word : Text) (h : Held) (out : Outcome)
    → NoHelpStep (after_flag c waiting word h out).1
after_flag_step c waiting word h done = tt
after_flag_step c waiting word h (waits name) = tt
after_flag_step c waiting word h out = plain_step c waiting word h

short_step : (c : List Rule) (waiting : Waiting) (word : Text) (found : Option Text) (h : Held)
    → NoHelpStep (short_or_plain c waiting word found h).1
short_step c waiting word None h = plain_step c waiting word h
short_step c waiting word (Some flags) h = after_flag_step c waiting word _ _

long_step : (c : List Rule) (waiting : Waiting) (word : Text) (found : Option (Text × Option Text))
    (h : Held)
    → NoHelpStep (long_or_other c waiting word found h).1
long_step c waiting word (Some q) h = after_flag_step c waiting word _ _
long_step c waiting word None h = short_step c waiting word (short_of word) h

dashes_step : (b : Bool) (c : List Rule) (waiting : Waiting) (position : ℕ) (word : Text) (h : Held)
    → NoHelpStep (cond b (h, trailing position) (long_or_other c waiting word (long_of word) h)).1
dashes_step true c waiting position word h = tt
dashes_step false c waiting position word h = long_step c waiting word (long_of word) h

pub no_help : (b : Bool) (ks : Kinds) (k : ErrorKind) → cond (b && true) (k ∷ ks) [] ≡ [] → b ≡ false
no_help true ks k e = cc
no_help false ks k e = refl

module _ (s : Shape) (names : Names) (helps : s.disable_help_subcommand ≡ false) where
  other_step : (name : Option Text) (waiting : Waiting) (position : ℕ) (word : Text) (h : Held)
      → other_fault s name word h ≡ []
      → NoHelpStep (subcommand_or_other s.rules name waiting position word h).1
  other_step (Some name) waiting position word h none =
      no_help (bytes_eq name (codes "help")) _ _ (rw helps at none)
  other_step None waiting position word h none =
      dashes_step (bytes_eq word (45 ∷ 45 ∷ [])) s.rules waiting position word h

  word_step : (is_trailing : Bool) (waiting : Waiting) (position : ℕ) (word : Text) (h : Held)
      → word_fault s names is_trailing waiting word h ≡ []
      → NoHelpStep (word_met s.rules names is_trailing waiting position word h).1
  word_step true waiting position word h none = tt
  word_step false waiting position word h none =
      other_step (subcommand_met names waiting word) waiting position word h none

  position_stop : (found : Option Rule) (word : Text) (w : Walk) (h : Held) → NotHelp w.stopped
      → NotHelp (to_positional s.rules found word w h).stopped
  position_stop None word w h not_help = not_help
  position_stop (Some a) word w h not_help = tt

  step_stop : (word : Text) (w : Walk) (h : Held) (step : Step) → NoHelpStep step
      → NotHelp w.stopped → NotHelp (after_step s.rules word w h step).stopped
  step_stop word w h (subcommand name) is not_help = is
  step_stop word w h value is not_help =
      position_stop (arg_by_index s.rules w.position) word w h not_help
  step_stop word w h (next waiting) is not_help = not_help
  step_stop word w h (trailing position) is not_help = not_help

  turn_stop : (stopped : Option (Text × List Text)) (w : Walk) (word : Text)
      → (is_some stopped ≡ false → word_fault s names w.is_trailing w.waiting word w.held ≡ [])
      → NotHelp stopped → NotHelp w.stopped
      → NotHelp (walked_from s.rules names stopped w word).stopped
  turn_stop (Some q) w word none not_help before = not_help
  turn_stop None w word none not_help before =
      let met = word_met s.rules names w.is_trailing w.waiting w.position word w.held in
      step_stop word w met.0 met.1
      (word_step w.is_trailing w.waiting w.position word w.held (none refl)) before

  word_has_none : (stopped : Bool) (a b : Kinds)
      → cond stopped [] (or_else a b) ≡ [] → stopped ≡ false → a ≡ []
  word_has_none true a b none is = absurd (false≢true (sym is))
  word_has_none false a b none is = (neither a b none).0

  walk_stop : (words : List Text) (w : Walk) → walk_fault s names w words ≡ []
      → NotHelp w.stopped → NotHelp (fold (walked s.rules names) w words).stopped
  unfolding walked walk_fault
  walk_stop [] w none before = before
  walk_stop (word ∷ rest) w none before =
      let parts = neither (turn_fault s names w word) _ none in
      walk_stop rest (walked s.rules names w word) parts.1
      (turn_stop w.stopped w word (word_has_none (is_some w.stopped) _ _ parts.0) before before)

-- a command that wants a subcommand has one
has_one : (s : Shape) (rows : List Row) (has : Bool) → s.subcommand_required ≡ true
    → check_fault s rows has ≡ [] → has ≡ true
has_one s rows true wanted none = refl
has_one s rows false wanted none = absurd (asks _ _ _ (rw wanted at none))
  where
    asks : (b : Bool) (k l : ErrorKind) → cond b (k ∷ []) (l ∷ []) ≡ [] → ⊥
    asks true k l e = cc
    asks false k l e = cc

-- a subcommand of the program, or `help`; its arguments are read as they should be
abbrev IsSub : Shape → Type 0
IsSub s =
    (IsSubcommand s.name ⊎ ((s.name ≡ codes "help") × (s.aliases ≡ [])))
    × Each (IsRead (codes "jobs") (Signed (pos 1) (pos 64))) s.rules
    × Each (IsRead (codes "cores") (Unsigned 0 65535)) s.rules

-- what was found of an argument among the rows of a subcommand
found_row : (id : Text) (p : ValueParser) (rows : List Row) → Each (Passes id p) rows
    → IfSome (find (λ r. bytes_eq r.id id) rows)
    (λ r. (r.reading ≡ reading_of p) × IfSome (slice_get r.values 0) (Accepts false p))
found_row id p rows each =
    at_row (find (λ r. bytes_eq r.id id) rows)
    (at_found (Passes id p) (λ r. bytes_eq r.id id) rows each)
  where
    first : (values : List Text) → list_all (accepts false p) values ≡ true
        → IfSome (slice_get values 0) (Accepts false p)
    first [] e = tt
    first (v ∷ vs) e = accepts-Accepts false p v (both _ _ e).0

    at_row : (found : Option Row)
        → AtSome (λ r. Passes id p r × (bytes_eq r.id id ≡ true)) found
        → IfSome found
        (λ r. (r.reading ≡ reading_of p) × IfSome (slice_get r.values 0) (Accepts false p))
    at_row None h = tt
    at_row (Some r) h =
        let is = h.0 h.1 in (is.0, first r.values is.1)

own_name : (s : Shape) (word : Text)
    → IsSubcommand s.name ⊎ ((s.name ≡ codes "help") × (s.aliases ≡ []))
    → answers_to word (label_of s) ≡ true → bytes_eq word (codes "help") ≡ false
    → IsSubcommand s.name
own_name s word (inl own) answers other = own
own_name s word (inr help) answers other =
    let is = rw (help.0, help.1) at answers in
    let same : codes "help" ≡ word = (bytes_eq-Decides (codes "help") word).0 (alone _ is) in
    absurd (false≢true (sym other ∙ ap (λ (t : Text). bytes_eq t (codes "help")) (sym same)))
  where
    alone : (b : Bool) → (b || false) ≡ true → b ≡ true
    alone true e = refl
    alone false e = e

at_sub : (found : Option Shape) (word : Text) (words : List Text)
    → AtSome (λ s. IsSub s × (answers_to word (label_of s) ≡ true)) found
    → bytes_eq word (codes "help") ≡ false
    → option_map_or (λ s. level_fault s [] nothing_held words false []) found [] ≡ []
    → is_some (option_map (λ s. rows_at s words) found) ≡ true
    → IsFound (option_map (λ s. rows_at s words) found)
at_sub None word words is other none has = absurd (false≢true has)
at_sub (Some s) word words is other none has = (
  own_name s word is.0.0 is.1 other,
  found_row (codes "jobs") (Signed (pos 1) (pos 64)) (rows_at s words).1
      (level_passes (codes "jobs") (Signed (pos 1) (pos 64)) s [] words false [] is.0.1 none),
  found_row (codes "cores") (Unsigned 0 65535) (rows_at s words).1
      (level_passes (codes "cores") (Unsigned 0 65535) s [] words false [] is.0.2 none),
)

at_stop : (a : App) (stop : Option (Text × List Text)) → Each IsSub a.subs → NotHelp stop
    → entered_fault a stop ≡ [] → is_some (entered a stop) ≡ true → IsFound (entered a stop)
at_stop a None subs other none has = absurd (false≢true has)
at_stop a (Some q) subs other none has =
    at_sub (find (λ s. answers_to q.0 (label_of s)) a.subs) q.0 q.1
    (at_found IsSub (λ s. answers_to q.0 (label_of s)) a.subs subs) other none has

-- a built command that wants a subcommand
at_level : (a : App) (words : List Text) → Each IsSub a.subs
    → a.top.subcommand_required ≡ true → a.top.disable_help_subcommand ≡ false
    → (stop : Option (Text × List Text))
    → stop ≡ (walk a.top.rules (names_of a) nothing_held words).stopped
    → level_fault a.top (names_of a) nothing_held words (is_some (entered a stop))
    (entered_fault a stop)
    ≡ []
    → IsFound (entered a stop)
at_level a words subs wanted helps stop is none =
    let end = (walk a.top.rules (names_of a) nothing_held words).held in
    let first =
    neither (walk_fault a.top (names_of a) (walk_from nothing_held) words) _ none in
    let second = neither (entered_fault a stop) _ first.1 in
    let third = neither (settle_fault a.top.rules a.top.args_override_self end) _ second.1 in
    let fourth =
    neither (defaults_fault (settled a.top.rules end).rows a.top.rules) _ third.1 in
    let has =
    has_one a.top (finished a.top.rules end) (is_some (entered a stop)) wanted fourth.1 in
    let other = walk_stop a.top (names_of a) helps words (walk_from nothing_held) first.0 tt in
    at_stop a stop subs (subst NotHelp (sym is) other) second.0 has

-- an argument of another id, and no count
abbrev is_other : (id : Text) → Rule → Bool
is_other id a = not (is_count (action_of a)) && not (bytes_eq a.id id)

module _ (id : Text) (p : ValueParser) where
  other_read : (a : Rule) → is_other id a ≡ true → IsRead id p a
  other_read a e =
      let parts = both _ _ e in (
        not_true _ parts.0,
        λ own. absurd (false≢true (sym (not_true _ parts.1) ∙ own)),
      )

  others_read : (rules : List Rule) → list_all (is_other id) rules ≡ true
      → Each (IsRead id p) rules
  others_read [] e = tt
  others_read (a ∷ rest) e =
      let parts = both _ _ e in (other_read a parts.0, others_read rest parts.1)

  -- all arguments, where the first ones are others
  read_from : (n : ℕ) (rules : List Rule) → list_all (is_other id) (take n rules) ≡ true
      → Each (IsRead id p) (drop n rules) → Each (IsRead id p) rules
  read_from n [] e h = tt
  read_from zero (a ∷ rest) e h = h
  read_from (suc n) (a ∷ rest) e h =
      let parts = both _ _ e in (other_read a parts.0, read_from n rest parts.1 h)

-- a subcommand without numbers
plain_sub : (s : Shape) → IsSubcommand s.name ⊎ ((s.name ≡ codes "help") × (s.aliases ≡ []))
    → list_all (is_other (codes "jobs")) s.rules ≡ true
    → list_all (is_other (codes "cores")) s.rules ≡ true → IsSub s
plain_sub s own jobs cores = (own, others_read _ _ s.rules jobs, others_read _ _ s.rules cores)

-- a subcommand with both, each after so many other arguments
numbers_sub : (s : Shape) → IsSubcommand s.name ⊎ ((s.name ≡ codes "help") × (s.aliases ≡ []))
    → (j k : ℕ) → list_all (is_other (codes "jobs")) (take j s.rules) ≡ true
    → Each (IsRead (codes "jobs") (Signed (pos 1) (pos 64))) (drop j s.rules)
    → list_all (is_other (codes "cores")) (take k s.rules) ≡ true
    → Each (IsRead (codes "cores") (Unsigned 0 65535)) (drop k s.rules) → IsSub s
numbers_sub s own j k before jobs earlier cores = (
  own,
  read_from _ _ j s.rules before jobs,
  read_from _ _ k s.rules earlier cores,
)

-- the subcommand with this number
abbrev sub_at : ℕ → Shape
sub_at number = get_or (built command_line).subs number (built command_line).top

own_subs : Each IsSub (built command_line).subs
own_subs = (
  plain_sub (sub_at 0) (inl (inl refl)) refl refl,
  (
    plain_sub (sub_at 1) (inl (inr (inl refl))) refl refl,
    (
      plain_sub (sub_at 2) (inl (inr (inr (inl refl)))) refl refl,
      (
        plain_sub (sub_at 3) (inl (inr (inr (inr (inl refl))))) refl refl,
        (
          numbers_sub (sub_at 4) (inl (inr (inr (inr (inr (inl refl)))))) 6 14 refl (
            (refl, λ e. (refl, refl)),
            others_read (codes "jobs") (Signed (pos 1) (pos 64)) (drop 7 (sub_at 4).rules) refl,
          ) refl (
            (refl, λ e. (refl, refl)),
            others_read (codes "cores") (Unsigned 0 65535) (drop 15 (sub_at 4).rules) refl,
          ),
          (
            plain_sub (sub_at 5) (inl (inr (inr (inr (inr (inr (inl refl))))))) refl refl,
            (
              plain_sub (sub_at 6) (inl (inr (inr (inr (inr (inr (inr (inl refl)))))))) refl refl,
              (
                plain_sub (sub_at 7) (inl (inr (inr (inr (inr (inr (inr (inr (inl refl))))))))) refl refl,
                (
                  plain_sub (sub_at 8) (inl (inr (inr (inr (inr (inr (inr (inr (inr refl))))))))) refl refl,
                  (
                    plain_sub (sub_at 9) (inr (refl, refl)) refl refl,
                    tt,
                  ),
                ),
              ),
            ),
          ),
        ),
      ),
    ),
  ),
)

-- what is found where there is no fault
pub found_rows : (words : List Text) → faults_in words ≡ []
    → IsFound (subcommand_of command_line words)
unfolding faults_in
found_rows words none =
    at_level (built command_line) (argument_words command_line words) own_subs refl refl _ refl none
