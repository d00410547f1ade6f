-- Lines that lead from position to position, told apart by their bytes.
use Rattle.std.proofs.Common.{◌≡◌, ℕ, suc, List, [], ◌∷◌, ◌++◌, ◌⊎◌, inl, inr, length, refl, ap, sym, subst, ◌∙◌, arith, All, Some, rules}
use Rattle.std.proofs.lemmas.List.{append-nil, append_assoc, length-append}
use Rattle.std.proofs.lemmas.List.Concat.{flat_map-append}
use Rattle.std.proofs.lemmas.List.Elements.{All-cons, All-nil, All-head, All-tail}
use Rattle.valid_table.specs.private.LineTexts.{lines_text}
use Rattle.valid_table.specs.private.Steps.{Position, Start, Begun, Opened, Within, Ahead, GoesOnWith, LeadsTo, MayBeLine, position_after}
use Rattle.valid_table.specs.Texts.{Line, First, Added, Deriver, Output, Reference, line_text}
use Rattle.valid_table.specs.declared.path_table.version.Version.{Version}
use Rattle.valid_table.proofs.LineTexts.{IsLineOf, same_lines}

-- ---- to where lines lead

-- the first of some lines lead to where the others lead on
pub leads_prefix : (version : Version) (dir : List ℕ) (Is : Position → Type 0) (from : Position)
    (a b : List Line)
    → LeadsTo version dir Is from (a ++ b) → LeadsTo version dir
    (λ to. LeadsTo version dir Is to b) from a
leads_prefix version dir Is from [] b leads = leads
leads_prefix version dir Is from (line ∷ a) b leads =
    (leads.0, leads_prefix version dir Is (position_after from line) a b leads.1)

-- and back
pub leads_joined : (version : Version) (dir : List ℕ) (Is : Position → Type 0) (from : Position)
    (a b : List Line)
    → LeadsTo version dir (λ to. LeadsTo version dir Is to b) from a
    → LeadsTo version dir Is from (a ++ b)
leads_joined version dir Is from [] b leads = leads
leads_joined version dir Is from (line ∷ a) b leads =
    (leads.0, leads_joined _ dir Is (position_after from line) a b leads.1)

-- what holds of the position to which lines lead
pub leads_weaker : (version : Version) (dir : List ℕ) (Is Also : Position → Type 0)
    → ((to : Position) → Is to → Also to)
    → (from : Position) (a : List Line) → LeadsTo version dir Is from a
    → LeadsTo version dir Also from a
leads_weaker version dir Is Also weaker from [] leads = weaker from leads
leads_weaker version dir Is Also weaker from (line ∷ a) leads =
    (leads.0, leads_weaker _ dir Is Also weaker (position_after from line) a leads.1)

pub leads_both : (version : Version) (dir : List ℕ) (Is Also : Position → Type 0) (from : Position)
    (a : List Line)
    → LeadsTo version dir Is from a → LeadsTo version dir Also from a
    → LeadsTo version dir (λ to. Is to × Also to) from a
leads_both version dir Is Also from [] one two = (one, two)
leads_both version dir Is Also from (line ∷ a) one two =
    (one.0, leads_both _ dir Is Also (position_after from line) a one.1 two.1)

pub leads_some : (version : Version) (dir : List ℕ) (X : Type 0) (Is : X → Position → Type 0)
    (from : Position)
    (a : List Line) → LeadsTo version dir (λ to. (x : X) × Is x to) from a → (x : X)
    × LeadsTo version dir (Is x) from a
leads_some version dir X Is from [] leads = leads
leads_some version dir X Is from (line ∷ a) leads =
    search (rules, leads_some _ dir X Is (position_after from line) a leads.1)

pub leads_end : (version : Version) (dir : List ℕ) (Is : Position → Type 0) (from : Position)
    (a : List Line)
    → LeadsTo version dir Is from a → (to : Position) × Is to
leads_end version dir Is from [] leads = (from, leads)
leads_end version dir Is from (line ∷ a) leads =
    leads_end _ dir Is (position_after from line) a leads.1

-- after a deriver the lines go on with an output
pub ahead_of : (version : Version) (dir : List ℕ) (Is : Position → Type 0) (position : Position)
    (lines : List Line)
    (rest : List ℕ) → ((to : Position) → Is to → Ahead to rest)
    → LeadsTo version dir Is position lines
    → Ahead position (lines_text version lines ++ rest)
ahead_of version dir Is position [] rest weaker leads = weaker position leads
ahead_of version dir Is Opened (Output path digest nar ∷ lines) rest weaker leads = search rules
ahead_of version dir Is Opened (line ∷ lines) rest weaker leads = absurd leads.0
ahead_of version dir Is position (line ∷ lines) rest weaker leads = tt

-- ---- lines have their forms

-- a line that may stand somewhere has its form
pub line_of : (version : Version) (dir : List ℕ) (position : Position) (line : Line)
    → MayBeLine version dir position line
    → IsLineOf version dir line
line_of version dir Start First may = tt
line_of version dir Begun (Added path digest nar) may = may
line_of version dir Begun (Deriver path) may = may
line_of version dir Opened (Output path digest nar) may = (may.0, may.1)
line_of version dir (Within output last) (Added path digest nar) may = may
line_of version dir (Within output last) (Deriver path) may = may
line_of version dir (Within (Some before) last) (Output path digest nar) may = (may.0, may.1)
line_of version dir (Within output last) (Reference path) may = may.0
line_of version dir position line may = absurd may

-- and so has each of some lines that lead on
pub lines_of : (version : Version) (dir : List ℕ) (Is : Position → Type 0) (from : Position)
    (lines : List Line)
    → LeadsTo version dir Is from lines → All (IsLineOf version dir) lines
lines_of version dir Is from [] leads = All-nil (IsLineOf version dir)
lines_of version dir Is from (line ∷ more) leads =
    search (rules, All-cons, line_of, lines_of _ _ Is (position_after from line) more leads.1)

-- ---- bytes tell lines

-- lines, their bytes and others are the lines with one more, and theirs
pub text_push : (version : Version) (a : List Line) (line : Line) (rest : List ℕ)
    → lines_text version a
    ++ (line_text version line ++ rest) ≡ lines_text version (a ++ line ∷ []) ++ rest
text_push version a line rest = search (rules, append_assoc, flat_map-append, append-nil)

-- lines with what stands after them, and those before others
pub text_and : (version : Version) (a b : List Line) (rest : List ℕ)
    → lines_text version a ++ (lines_text version b ++ rest)
    ≡ lines_text version (a ++ b) ++ rest
text_and version a b rest = search (rules, append_assoc, flat_map-append)

-- some lines, with bytes after them, are others with more lines
abbrev pub GoOn : Version → List Line → List Line → List ℕ → List ℕ → Type 0
GoOn version a b x y = (c : List Line) × (b ≡ a ++ c) × (x ≡ lines_text version c ++ y)

-- of two lists of lines in the same bytes one begins the other
pub aligned : (version : Version) (dir : List ℕ) (a b : List Line) (x y : List ℕ)
    → All (IsLineOf version dir) a
    → All (IsLineOf version dir) b → lines_text version a ++ x ≡ lines_text version b ++ y
    → GoOn version a b x y ⊎ GoOn version b a y x
aligned version dir [] b x y one two e = inl (b, refl, e)
aligned version dir (l ∷ a) [] x y one two e = inr (l ∷ a, refl, sym e)
aligned version dir (l ∷ a) (m ∷ b) x y one two e =
    let same = same_lines _ _ l m _ _
    (All-head (IsLineOf version dir) l a one) (All-head (IsLineOf version dir) m b two)
    (sym (append_assoc (line_text version l) (lines_text version a) x) ∙ e
    ∙ append_assoc (line_text version m) (lines_text version b) y) in
    elim (aligned _ _ a b x y (All-tail (IsLineOf version dir) l a one)
    (All-tail (IsLineOf version dir) m b two)
    same.1) [
      | inl d ↦ inl (
        d.0,
        ap (λ (k : Line). k ∷ b) (sym same.0) ∙ ap (λ (t : List Line). l ∷ t) d.1,
        d.2,
      )
      | inr d ↦ inr (d.0, ap (λ (k : Line). k ∷ a) same.0 ∙ ap (λ (t : List Line). m ∷ t) d.1, d.2)
    ]

-- where a line stands after the first ones, it goes on from where these lead
goes_after : (version : Version) (dir : List ℕ) (Is Also : Position → Type 0) (from : Position)
    (a b : List Line)
    (line : Line) (c : List Line) (x y : List ℕ) → ((to : Position) → Also to → Ahead to y)
    → LeadsTo version dir Is from a → LeadsTo version dir Also from b
    → b ≡ a ++ line ∷ c → x ≡ lines_text version (line ∷ c) ++ y
    → LeadsTo version dir (λ to. Is to × GoesOnWith version dir to x line
    (lines_text version c ++ y)) from a
goes_after version dir Is Also from a b line c x y weaker one two is rest =
    leads_both _ _ Is (λ to. GoesOnWith version dir to x line (lines_text version c ++ y))
    _ a one
    (leads_weaker _ _ (λ to. LeadsTo version dir Also to (line ∷ c))
    (λ to. GoesOnWith version dir to x line (lines_text version c ++ y))
    (λ to leads. record {
      parts = rest ∙ append_assoc (line_text version line) (lines_text version c) y;
      may = leads.0;
      ahead = ahead_of _ _ Also _ c y weaker leads.1;
    }) _ a (leads_prefix _ _ Also _ a _
    (subst (LeadsTo version dir Also from) is two)))

-- Some lines lead into bytes, in which a line goes on from there.
abbrev pub GoesOn : Version → List ℕ → (Position → Type 0) → Position → List Line → List ℕ → Type 0
GoesOn version dir Is from a x = (line : Line) × (more : List ℕ)
    × LeadsTo version dir (λ to. Is to × GoesOnWith version dir to x line more) from a

nothing_after : (a x : List ℕ) → [] ≡ a ++ x → x ≡ []
nothing_after [] x e = sym e
nothing_after (b ∷ a) x e = cc e

-- lines in the bytes of others lead to their end, or one goes on
pub go_on : (version : Version) (dir : List ℕ) (Is Also : Position → Type 0) (from : Position)
    (a b : List Line) (x : List ℕ)
    → ((to : Position) → Also to → Ahead to []) → LeadsTo version dir Is from a
    → LeadsTo version dir Also from b
    → lines_text version a ++ x ≡ lines_text version b
    → (x ≡ []) ⊎ GoesOn version dir Is from a x
go_on version dir Is Also from a b x weaker one two e =
    elim (aligned _ _ a b x [] (lines_of _ _ Is _ a one)
    (lines_of _ _ Also _ b two)
    (e ∙ sym (append-nil (lines_text version b)))) [
      | inl d ↦ on d.0 d.1 d.2
      | inr d ↦ inl (nothing_after _ x d.2)
    ]
  where
    on : (c : List Line) → b ≡ a ++ c → x ≡ lines_text version c ++ [] → (x ≡ [])
        ⊎ GoesOn version dir Is from a x
    on [] is rest = inl rest
    on (line ∷ c) is rest = inr (
      line,
      lines_text version c ++ [],
      goes_after _ _ Is Also _ a b _ c x [] weaker one two is rest,
    )

-- where one line more leads on in the same bytes, it goes on
pub one_more : (version : Version) (dir : List ℕ) (Is Also : Position → Type 0) (from : Position)
    (a b : List Line)
    (x y : List ℕ) → ((to : Position) → Also to → Ahead to y) → LeadsTo version dir Is from a
    → LeadsTo version dir Also from b → length b ≡ suc (length a)
    → lines_text version a ++ x ≡ lines_text version b ++ y → GoesOn version dir Is from a x
one_more version dir Is Also from a b x y weaker one two long e =
    elim (aligned _ _ a b x y (lines_of _ _ Is _ a one)
    (lines_of _ _ Also _ b two) e) [
      | inl d ↦ on d.0 d.1 d.2
      | inr d ↦ absurd (omega (arith, ap length d.1, length-append b d.0))
    ]
  where
    on : (c : List Line) → b ≡ a ++ c → x ≡ lines_text version c ++ y
        → GoesOn version dir Is from a x
    on [] is rest = search (rules, append-nil)
    on (line ∷ c) is rest = (
      line,
      lines_text version c ++ y,
      goes_after _ _ Is Also _ a b _ c x y weaker one two is rest,
    )
