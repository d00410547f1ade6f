-- The first bad line: the first one from which no line leads on, and so the only one.
use Rattle.std.proofs.Common.{◌≡◌, ◌≢◌, ◌<◌, ◌≤◌, ◌+◌, ◌-◌, ℕ, zero, suc, List, [], ◌∷◌, ◌++◌, ◌⊎◌, inl, inr, length, take, drop, refl, ap, sym, subst, ◌∙◌, arith, None, count_by, replicate, Bool, false, cond, All, rules}
use Rattle.std.specs.Prelude.{codes}
use Rattle.std.proofs.lemmas.Bool.{cases_lt, ne_eqb}
use Rattle.std.proofs.lemmas.List.{append-nil, append_assoc, length-append, length-take-le, nil_from_length, take-append-drop, take_at}
use Rattle.std.proofs.lemmas.List.Concat.{flat_map-append}
use Rattle.std.proofs.lemmas.List.Elements.{All-head, All-tail}
use Rattle.std.proofs.lemmas.List.Sums.{sum_by-cons}
use Rattle.memchr.specs.Find.{is_byte, places}
use Rattle.memchr.proofs.lemmas.CallerLemmas.{length-places}
use Rattle.nix_names.specs.Names.{IsStoreDir, is_dotted, is_name, is_name_char}
use Rattle.nix_names.specs.StorePaths.{IsPathOf, is_hash_part, path_text}
use Rattle.valid_table.specs.BadLines.{AreLines, BadLineIsOne, BeginsOutput, IsBadLine, Stands, TextsHaveNoBadLine}
use Rattle.valid_table.specs.private.LineTexts.{lines_text}
use Rattle.valid_table.specs.private.Readers.{BeginsNoVersion}
use Rattle.valid_table.specs.Reading.{BeginsVersion}
use Rattle.valid_table.specs.private.Steps.{Position, Start, Begun, Opened, Within, Ahead, IsStuck, LeadsTo, Stops}
use Rattle.valid_table.specs.Texts.{IsTextIn, Line, First, Output, line_text, lines, text, version_line}
use Rattle.valid_table.specs.declared.entry.Entry.{Entry}
use Rattle.valid_table.specs.declared.path_table.version.Version.{Version}
use Rattle.valid_table.specs.declared.path_table.version.Version.TheVariants.{One}
use Rattle.valid_table.proofs.Leading.{GoesOn, ahead_of, go_on, leads_end, leads_prefix, leads_joined, leads_some, leads_weaker, lines_of, one_more, text_and, text_push}
use Rattle.valid_table.proofs.LineLists.{Ends, MayEnd, end_ahead, lines_end, lines_of_text, text_of_lines}
use Rattle.valid_table.proofs.LineTexts.{IsLineOf, body_lacks, line_and, texts_are_lines}
use Rattle.valid_table.proofs.Separators.{Lacks, dir_lacks, newline, same_cut}
use Rattle.valid_table.proofs.Versions.{one_version, text_begins}

-- Lines that lead from the start of some bytes to the rest.
pub record Led (version : Version) (dir bytes rest : List ℕ) : Type 0 where
  pub lines : List Line
  pub leads : LeadsTo version dir (λ to. Ahead to rest) Start lines
  pub parts : bytes ≡ lines_text version lines ++ rest

-- ---- so many lines have so many newlines

line_newlines : (line rest : List ℕ) → Lacks 10 line → count_by (is_byte 10) (line ++ 10 ∷ rest)
    ≡ suc (count_by (is_byte 10) rest)
line_newlines [] rest clear = sum_by-cons (λ b. cond (is_byte 10 b) 1 0) 10 rest ∙ omega arith
line_newlines (b ∷ line) rest clear =
    let other : is_byte 10 b ≡ false = ne_eqb b 10 (All-head (λ c. c ≢ 10) b _ clear) in
    let later = line_newlines line rest (All-tail (λ c. c ≢ 10) b line clear) in
    sum_by-cons (λ c. cond (is_byte 10 c) 1 0) b (line ++ 10 ∷ rest)
    ∙ ap (λ (t : Bool). cond t 1 0 + count_by (is_byte 10) (line ++ 10 ∷ rest)) other
    ∙ omega arith

lines_newlines : (n : ℕ) (bytes : List ℕ) → AreLines n bytes → count_by (is_byte 10) bytes ≡ n
lines_newlines zero bytes none = ap (count_by (is_byte 10)) none
lines_newlines (suc n) bytes (line, rest, clear, parts, more) =
    search (rules, line_newlines, (lines_newlines n _ more))

-- the texts of lines that lead on are so many lines
leads_are_lines : (version : Version) (dir : List ℕ) (Is : Position → Type 0) (lines : List Line)
    → IsStoreDir dir
    → LeadsTo version dir Is Start lines → AreLines (length lines) (lines_text version lines)
leads_are_lines version dir Is lines is_dir leads =
    texts_are_lines _ _ (dir_lacks _ newline _ is_dir) _ (lines_of _ _ Is _ _ leads)

-- the number of newlines before the position where lines stop
pub stops_count : (version : Version) (dir bytes : List ℕ) (left : ℕ) → IsStoreDir dir
    → (h : Stops version dir Start bytes left) → length
    (places (is_byte 10) (take (length bytes - left) bytes)) ≡ length h.lines
stops_count version dir bytes left is_dir h =
    search (rules, take_at, length-append, length-places, lines_newlines, leads_are_lines)

-- ---- lines that lead on stand

-- a path of each folder
sample : List ℕ → List ℕ
sample dir = path_text dir (replicate 32 97) (codes "a")

-- it is one
sample_is_path : (dir : List ℕ) → IsPathOf dir (sample dir)
unfolding sample is_hash_part is_name is_name_char is_dotted
sample_is_path dir = record {
  hash = replicate 32 97;
  name = codes "a";
  is_hash = refl;
  named = refl;
  parts = refl;
}

-- a text ends, or goes on with an output, as some bytes do
abbrev EndsAs : List ℕ → List ℕ → Type 0
EndsAs after rest = (after ≡ []) ⊎ (BeginsOutput after × BeginsOutput rest)

-- lines end a journal from a position, and their text ends or goes on so
abbrev EndsIn : Version → List ℕ → List ℕ → List Line → Position → Type 0
EndsIn version dir rest come position = Ends version dir position come
    × EndsAs (lines_text version come) rest

-- there are such lines: an output after a deriver, else none
ending : (version : Version) (dir : List ℕ) (position : Position) (rest : List ℕ)
    → Ahead position rest
    → (come : List Line)
    × EndsIn version dir rest come position
ending version dir Opened rest ahead =
    let come : List Line = Output (sample dir) None None ∷ [] in (
      come,
      (
        ((sample_is_path _, (tt, tt), tt), tt),
        inr
            ((drop 2 (lines_text version come), refl), ahead),
      ),
    )
ending version dir Start rest ahead = ([], (tt, inl refl))
ending version dir Begun rest ahead = ([], (tt, inl refl))
ending version dir (Within output last) rest ahead = ([], (tt, inl refl))

pub led_stands : (version : Version) (dir bytes rest : List ℕ) → IsStoreDir dir
    → (led : Led version dir bytes rest)
    → Stands dir (length led.lines) bytes rest
led_stands version dir bytes rest is_dir led =
    let end = leads_some _ _ _ (EndsIn version dir rest) _ _
    (leads_weaker _ _ (λ to. Ahead to rest)
    (λ to. (come : List Line) × EndsIn version dir rest come to)
    (λ to ahead. ending _ _ _ _ ahead) _ _ led.leads) in
    let whole : List Line = led.lines ++ end.0 in
    let text = text_of_lines _ _ _
    (leads_joined _ _ MayEnd _ _ _
    (leads_weaker _ _ (EndsIn version dir rest end.0) (λ to. Ends version dir to end.0)
    (λ to both. both.0)
    _ _ end.1)) in
    record {
      prefix = lines_text version led.lines;
      parts = led.parts;
      counted = leads_are_lines _ _ (λ to. Ahead to rest) _ is_dir led.leads;
      entries = text.0;
      whole = lines_text version whole;
      is_text = text.1;
      after = lines_text version end.0;
      begins = flat_map-append (line_text version) led.lines end.0;
      next = (leads_end _ _ (EndsIn version dir rest end.0) _ _ end.1).1.1;
    }

-- ---- lines that stand lead on

-- the first lines of a text, so many, are the first of its lines
cut_lines : (version : Version) (dir : List ℕ) → Lacks 10 dir
    → (n : ℕ) (come : List Line) (prefix after : List ℕ)
    → All (IsLineOf version dir) come → AreLines n prefix
    → lines_text version come ≡ prefix ++ after
    → (a : List Line) × (b : List Line) × (come ≡ a ++ b) × (length a ≡ n)
    × (prefix ≡ lines_text version a)
    × (after ≡ lines_text version b)
cut_lines version dir clear zero come prefix after each none parts = search rules
cut_lines version dir clear (suc n) [] prefix after each (first, more, plain, is, lines) parts =
    absurd (omega (
      arith,
      ap length (parts ∙ ap (λ (bytes : List ℕ). bytes ++ after) is),
      length-append (first ++ 10 ∷ more) after,
      length-append first (10 ∷ more),
    ))
cut_lines version dir clear (suc n) (line ∷ come) prefix after each (first, more, plain, is, lines)
    parts =
    let split = same_cut _ _ _ _ _
    (body_lacks _ _ _ clear (All-head (IsLineOf version dir) _ _ each)) plain
    (sym (line_and _ _ _) ∙ parts ∙ ap
    (λ (bytes : List ℕ). bytes ++ after) is
    ∙ append_assoc first (10 ∷ more) after) in
    let later = cut_lines _ _ clear n _ _ _
    (All-tail (IsLineOf version dir) _ _ each) lines
    split.1 in (
      line ∷ later.0,
      later.1,
      ap (λ (ls : List Line). line ∷ ls) later.2,
      ap suc later.3,
      is ∙ ap (λ (bytes : List ℕ). bytes ++ 10 ∷ more) (sym split.0) ∙ sym
          (line_and _ _ _)
          ∙ ap (λ (bytes : List ℕ). line_text version line ++ bytes) later.4,
      later.5,
    )

-- what comes after a position comes in bytes that go on alike
ahead_as : (position : Position) (after rest : List ℕ) → Ahead position after → EndsAs after rest
    → Ahead position rest
ahead_as Opened after rest ahead (inl none) = search rules
ahead_as Opened after rest ahead (inr both) = both.1
ahead_as position after rest ahead next = tt

-- lines that stand lead on, in a version
pub stands_led : (dir bytes rest : List ℕ) (n : ℕ) → IsStoreDir dir → Stands dir n bytes rest
    → (version : Version) × (led : Led version dir bytes rest) × (length led.lines ≡ n)
stands_led dir bytes rest n is_dir stands =
    let text = lines_of_text _ _ _ stands.is_text in
    let version = text.0 in
    let come = text.1 in
    let cut = cut_lines _ _ (dir_lacks _ newline _ is_dir) n _ _
    _ (lines_of _ _ MayEnd _ _ text.2) stands.counted
    (sym text.3 ∙ stands.begins) in
    let after_is : lines_text version cut.1 ++ [] ≡ stands.after =
    append-nil (lines_text version cut.1) ∙ sym cut.5 in
    let leads = leads_weaker _ _ (λ to. Ends version dir to cut.1) (λ to. Ahead to rest)
    (λ to ends. ahead_as _ _ _
    (subst (Ahead to) after_is (ahead_of _ _ MayEnd _ _ [] end_ahead ends))
    stands.next) _ _
    (leads_prefix _ _ MayEnd _ _ _
    (subst (Ends version dir Start) cut.2 text.2)) in (
      version,
      record {
        lines = cut.0;
        leads = leads;
        parts = stands.parts
            ∙ ap (λ (bytes : List ℕ). bytes ++ rest) cut.4;
      },
      cut.3,
    )

-- where a line leads on, the bytes begin with the version's line
led_begins : (version : Version) (dir bytes rest : List ℕ) (n : ℕ)
    (led : Led version dir bytes rest)
    → length led.lines ≡ suc n → BeginsVersion version bytes
led_begins version dir bytes rest n led long = begins led.lines led.leads led.parts long
  where
    begins : (lines : List Line) → LeadsTo version dir (λ to. Ahead to rest) Start lines
        → bytes ≡ lines_text version lines ++ rest → length lines ≡ suc n
        → BeginsVersion version bytes
    begins [] leads parts long = absurd (omega (arith, long))
    begins (First ∷ more) leads parts long = (
      lines_text version more ++ rest,
      parts ∙ append_assoc (version_line version) (lines_text version more) rest,
    )
    begins (line ∷ more) leads parts long = absurd leads.0

-- lines that stand lead on in the version with whose line the bytes begin
led_in : (version : Version) (dir bytes rest : List ℕ) (n : ℕ) → IsStoreDir dir
    → BeginsVersion version bytes → Stands dir n bytes rest
    → (led : Led version dir bytes rest) × (length led.lines ≡ n)
led_in version dir bytes rest zero is_dir begins stands =
    let some = stands_led _ _ _ _ is_dir stands in
    let none : some.1.lines ≡ [] = nil_from_length _ some.2 in (
      record {
        lines = [];
        leads = tt;
        parts = some.1.parts ∙ ap (λ (ls : List Line). lines_text some.0 ls ++ rest) none;
      },
      refl,
    )
led_in version dir bytes rest (suc n) is_dir begins stands =
    let some = stands_led _ _ _ _ is_dir stands in
    let same = one_version _ _ _
    (led_begins _ dir _ rest n some.1 some.2) begins in
    subst (λ v. (led : Led v dir bytes rest) × (length led.lines ≡ suc n)) same
    (some.1, some.2)

-- ---- the laws

-- where lines stop, the next one is the first bad one
pub bad_line : (version : Version) (dir bytes : List ℕ) (left : ℕ) → IsStoreDir dir
    → BeginsVersion version bytes → (h : Stops version dir Start bytes left)
    → IsBadLine dir bytes (suc (length h.lines))
bad_line version dir bytes left is_dir begins h = record {
  before = length h.lines;
  is_next = refl;
  rest = h.bad;
  some = h.some;
  stands = led_stands version _ _ _ is_dir
      (record {
        lines = h.lines;
        leads = leads_weaker version dir (IsStuck version dir h.bad) (λ to. Ahead to h.bad)
            (λ to stuck. stuck.ahead) Start h.lines h.leads;
        parts = h.parts;
      });
  falls = λ more stands.
      let led = led_in _ _ _ _ _ is_dir begins stands in
      let next = one_more version dir (IsStuck version dir h.bad) (λ to. Ahead to more) Start
      h.lines led.0.lines h.bad more (λ to ahead. ahead) h.leads led.0.leads led.1
      (sym h.parts ∙ led.0.parts) in
      let end = leads_end version dir _ Start h.lines next.2 in
      end.1.0.stuck next.0 next.1 end.1.1;
}

-- where no version's line begins the bytes, their first line is bad
pub bad_first : (dir bytes : List ℕ) → IsStoreDir dir → BeginsNoVersion bytes → bytes ≢ []
    → IsBadLine dir bytes 1
bad_first dir bytes is_dir none some = record {
  before = zero;
  is_next = refl;
  rest = bytes;
  some = some;
  stands = led_stands One _ _ _ is_dir (record { lines = []; leads = tt; parts = refl });
  falls = λ more stands.
      let led = stands_led dir bytes more 1 is_dir stands in
      none led.0 (led_begins led.0 dir bytes more zero led.1 led.2);
}

-- lines that lead into a journal's text lead to its end, or one more does
next_line : (version : Version) (dir bytes rest : List ℕ) (entries : List Entry)
    (Is : Position → Type 0) (lines : List Line) → IsTextIn version dir entries bytes
    → LeadsTo version dir Is Start lines → bytes ≡ lines_text version lines ++ rest
    → (rest ≡ []) ⊎ GoesOn version dir Is Start lines rest
unfolding text
next_line version dir bytes rest entries Is some is leads parts =
    go_on version dir Is MayEnd Start some (lines entries) rest end_ahead leads
    (lines_end _ _ _ is.of_dir) (sym parts ∙ is.bytes_are)

-- a text of a version has no bad line
none_bad : (version : Version) (dir bytes : List ℕ) (entries : List Entry) (n : ℕ) → IsStoreDir dir
    → IsTextIn version dir entries bytes → IsBadLine dir bytes n → ⊥
none_bad version dir bytes entries n is_dir is bad =
    let led = led_in _ _ _ _ _ is_dir
    (text_begins _ _ _ _ is) bad.stands in
    elim (next_line _ _ _ _ _ (λ to. Ahead to bad.rest) _ is
    led.0.leads led.0.parts) [
      | inl none ↦ bad.some none
      | inr next ↦
          let line = next.0 in
          let more = next.1 in
          let goes = (leads_end _ _ _ _ led.0.lines next.2).1.1 in
          let longer : Led version dir bytes more = record {
            lines = led.0.lines ++ line ∷ [];
            leads = leads_joined version dir (λ to. Ahead to more) Start led.0.lines (line ∷ [])
                (leads_weaker version dir _
                (λ to. LeadsTo version dir (λ at. Ahead at more) to (line ∷ []))
                (λ to both. (both.1.may, both.1.ahead)) Start led.0.lines next.2);
            parts = led.0.parts ∙ ap (λ (t : List ℕ). lines_text version led.0.lines ++ t)
                goes.parts
                ∙ text_push version led.0.lines line more;
          } in
          let long : length (led.0.lines ++ line ∷ [])
          ≡ n = omega (arith, length-append led.0.lines (line ∷ []), led.1, bad.is_next) in
          bad.falls more
          (subst (λ (k : ℕ). Stands dir k bytes more) long
          (led_stands version dir bytes more is_dir longer))
    ]

-- a text of a journal has no bad line
pub texts_have_no_bad_line : TextsHaveNoBadLine
texts_have_no_bad_line dir bytes entries n is_dir (inl (version, is)) bad =
    none_bad _ _ _ _ n is_dir is bad
texts_have_no_bad_line dir bytes entries n is_dir (inr none) bad =
    nothing_left bad.stands.prefix bad.rest bad.some (sym none.1 ∙ bad.stands.parts)
  where
    nothing_left : (prefix rest : List ℕ) → rest ≢ [] → [] ≡ prefix ++ rest → ⊥
    nothing_left [] rest some e = some (sym e)
    nothing_left (b ∷ prefix) rest some e = cc e

-- the first of lines that stand do so
first_stand : (version : Version) (dir bytes rest : List ℕ) (m : ℕ) → IsStoreDir dir
    → (led : Led version dir bytes rest) → m
    ≤ length led.lines → (more : List ℕ) × Stands dir m bytes more
first_stand version dir bytes rest m is_dir led few =
    let a = take m led.lines in
    let b = drop m led.lines in
    let more = lines_text version b ++ rest in
    let whole : led.lines ≡ a ++ b = sym (take-append-drop m led.lines) in
    let first : Led version dir bytes more = record {
      lines = a;
      leads = leads_weaker _ _ (λ to. LeadsTo version dir (λ at. Ahead at rest) to b)
          (λ to. Ahead to more)
          (λ to leads. ahead_of _ _ (λ at. Ahead at rest) _ b _ (λ at ahead. ahead)
          leads) _
          a
          (leads_prefix _ dir (λ at. Ahead at rest) Start a b
          (subst (LeadsTo version dir (λ at. Ahead at rest) Start) whole led.leads));
      parts = led.parts ∙ ap (λ (ls : List Line). lines_text version ls ++ rest) whole
          ∙ sym (text_and version a b rest);
    } in (
      more,
      subst (λ (k : ℕ). Stands dir k bytes more) (length-take-le m led.lines few)
          (led_stands version dir bytes more is_dir first),
    )

-- no bad line stands before another
none_before : (dir bytes : List ℕ) (m n : ℕ) → IsStoreDir dir → IsBadLine dir bytes m
    → IsBadLine dir bytes n → m < n → ⊥
none_before dir bytes m n is_dir one two less =
    let led = stands_led _ _ _ _ is_dir two.stands in
    let first = first_stand led.0 dir bytes two.rest m is_dir led.1
    (omega (arith, two.is_next, led.2)) in
    one.falls first.0 first.1

-- the first bad line is one
pub bad_line_is_one : BadLineIsOne
bad_line_is_one dir bytes m n is_dir one two =
    elim (cases_lt m n) [
      | inl less ↦ absurd (none_before _ _ m n is_dir one two less)
      | inr more ↦ elim (cases_lt n m) [
        | inl less ↦ absurd (none_before _ _ n m is_dir two one less)
        | inr least ↦ omega
            arith
      ]
    ]
