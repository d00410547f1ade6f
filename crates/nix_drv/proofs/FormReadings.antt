-- Reading a form part by part, each with the fixed bytes before it.
use Rattle.std.proofs.Common.{◌≡◌, ℕ, List, [], ◌∷◌, Result, Ok, Err, refl, rules}
use Rattle.nix_drv.specs.declared.fault.ParseFault.{ParseFault}
use Rattle.nix_drv.specs.declared.fault.ParseFault.TheVariants.{NoMemory, Left}
use Rattle.std.specs.Prelude.{codes}
use Rattle.nix_drv.specs.Derivation.{comma, entry_form, input_form, build_form}
use Rattle.nix_drv.specs.Grammar.{ListOrder, Rising, Free, Grammar, Value, Fixed, Str, Then, Many}
use Rattle.nix_drv.specs.private.Reading.{◌>>=◌, fixed_at, read}
use Rattle.nix_drv.specs.private.AfterBytes.{string_after, strings_after, list_after}
use Rattle.nix_drv.specs.private.ParseFaults.{Fails}

-- a value that was read, after others
abbrev with_one : {A B : Type 0} → A → B × List ℕ → Result ((A × B) × List ℕ) ℕ
with_one v z = Ok ((v, z.0), z.1)

abbrev with_fixed : {B : Type 0} → B × List ℕ → Result ((Unit {0} × B) × List ℕ) ℕ
with_fixed z = Ok ((tt, z.0), z.1)

abbrev with_two : {A B : Type 0} → A → B × List ℕ → Result ((Unit {0} × (A × B)) × List ℕ) ℕ
with_two v z = Ok ((tt, (v, z.0)), z.1)

-- a part and the one after it, both after fixed bytes
abbrev then_of : {A B : Type 0} → Result (A × List ℕ) ℕ → (List ℕ → Result (B × List ℕ) ℕ)
    → Result ((Unit {0} × (A × B)) × List ℕ) ℕ
then_of first second = first >>= λ y. second y.1 >>= with_two y.0

after_second : {A B : Type 0} (r : Result (B × List ℕ) ℕ) (v : A)
    → ((r >>= with_one v) >>= with_fixed) ≡ (r >>= with_two v)
after_second (Ok z) v = refl
after_second (Err left) v = refl

after_first : {A B : Type 0} (r : Result (A × List ℕ) ℕ) (second : List ℕ → Result (B × List ℕ) ℕ)
    → ((r >>= λ y. second y.1 >>= with_one y.0) >>= with_fixed) ≡ then_of r second
after_first (Ok y) second = after_second _ _
after_first (Err left) second = refl

after_fixed : {A B : Type 0} (r : Result (Unit {0} × List ℕ) ℕ)
    (first : List ℕ → Result (A × List ℕ) ℕ) (second : List ℕ → Result (B × List ℕ) ℕ)
    → (r >>= λ x. (first x.1 >>= λ y. second y.1 >>= with_one y.0) >>= with_one x.0)
    ≡ then_of (r >>= λ x. first x.1) second
after_fixed (Ok x) first second = after_first _ second
after_fixed (Err left) first second = refl

string_then : (bytes : List ℕ) (b : Grammar) (s : List ℕ) → read (Then (Fixed bytes) (Then Str b)) s
    ≡ then_of (string_after bytes s) (read b)
unfolding read string_after
string_then bytes b s = search (rules, after_fixed)

list_then : (bytes : List ℕ) (order : ListOrder) (g b : Grammar) (s : List ℕ)
    → read (Then (Fixed bytes) (Then (Many order g) b)) s
    ≡ then_of (list_after bytes (read g) s) (read b)
unfolding read list_after
list_then bytes order g b s = search (rules, after_fixed)

fails_on : {X Y : Type 0} (stop : ParseFault) (r : Result X ℕ) (f : X → Result Y ℕ) → Fails stop r
    → Fails stop (r >>= f)
fails_on NoMemory r f fails = tt
fails_on (Left left) r f fails = rw fails refl

-- ---- fixed bytes

pub fixed_fails : (stop : ParseFault) (bytes s : List ℕ) → Fails stop (fixed_at bytes s)
    → Fails stop (read (Fixed bytes) s)
unfolding read
fixed_fails stop bytes s fails = fails

pub fixed_read : (bytes s rest : List ℕ) → fixed_at bytes s ≡ Ok (tt, rest) → read (Fixed bytes) s
    ≡ Ok (tt, rest)
unfolding read
fixed_read bytes s rest e = e

-- ---- a string and what follows it

pub string_fails : (stop : ParseFault) (bytes : List ℕ) (b : Grammar) (s : List ℕ)
    → Fails stop (string_after bytes s) → Fails stop (read (Then (Fixed bytes) (Then Str b)) s)
string_fails stop bytes b s fails = search (rules, string_then, fails_on, with_two)

pub string_later : (stop : ParseFault) (bytes : List ℕ) (b : Grammar) (s v rest : List ℕ)
    → string_after bytes s ≡ Ok (v, rest) → Fails stop (read b rest)
    → Fails stop (read (Then (Fixed bytes) (Then Str b)) s)
string_later stop bytes b s v rest e fails = search (rules, string_then, fails_on, with_two)

pub string_read : (bytes : List ℕ) (b : Grammar) (s v rest : List ℕ) (w : Value b) (end : List ℕ)
    → string_after bytes s ≡ Ok (v, rest) → read b rest ≡ Ok (w, end)
    → read (Then (Fixed bytes) (Then Str b)) s ≡ Ok ((tt, (v, w)), end)
string_read bytes b s v rest w end e more = rw (string_then _ b s, e, more) refl

-- ---- a list and what follows it

pub list_fails : (stop : ParseFault) (bytes : List ℕ) (order : ListOrder) (g b : Grammar)
    (s : List ℕ) → Fails stop (list_after bytes (read g) s)
    → Fails stop (read (Then (Fixed bytes) (Then (Many order g) b)) s)
list_fails stop bytes order g b s fails = search (rules, list_then, fails_on, with_two)

pub list_later : (stop : ParseFault) (bytes : List ℕ) (order : ListOrder) (g b : Grammar)
    (s : List ℕ) (v : List (Value g)) (rest : List ℕ) → list_after bytes (read g) s ≡ Ok (v, rest)
    → Fails stop (read b rest) → Fails stop (read (Then (Fixed bytes) (Then (Many order g) b)) s)
list_later stop bytes order g b s v rest e fails = search (rules, list_then, fails_on, with_two)

pub list_read : (bytes : List ℕ) (order : ListOrder) (g b : Grammar) (s : List ℕ)
    (v : List (Value g)) (rest : List ℕ) (w : Value b) (end : List ℕ) → list_after bytes (read g) s
    ≡ Ok (v, rest) → read b rest ≡ Ok (w, end) → read (Then (Fixed bytes) (Then (Many order g) b)) s
    ≡ Ok ((tt, (v, w)), end)
list_read bytes order g b s v rest w end e more = search (rules, list_then)

-- ---- two strings and what follows them

abbrev TwoStrings : List ℕ → Grammar → Grammar
TwoStrings bytes b = Then (Fixed bytes) (Then Str (Then (Fixed (44 ∷ [])) (Then Str b)))

abbrev second_of : List ℕ × List ℕ → Result ((List ℕ × List ℕ) × List ℕ) ℕ
second_of x = string_after (44 ∷ []) x.1 >>= with_one x.0

-- the two that were read, and what follows them
abbrev strings_with : (b : Grammar) → (List ℕ × List ℕ) × List ℕ
    → Result (Value (TwoStrings [] b) × List ℕ) ℕ
strings_with b p = read b p.1 >>= λ z. Ok ((tt, (p.0.0, (tt, (p.0.1, z.0)))), z.1)

after_last : {B : Type 0} (r : Result (B × List ℕ) ℕ) (v u : List ℕ)
    (f : B × List ℕ → Result ((Unit {0} × (List ℕ × (Unit {0} × (List ℕ × B)))) × List ℕ) ℕ)
    → ((z : B × List ℕ) → Ok ((tt, (v, (tt, (u, z.0)))), z.1) ≡ f z)
    → ((r >>= with_two u) >>= with_two v) ≡ (r >>= f)
after_last (Ok z) v u f same = same z
after_last (Err left) v u f same = refl

after_string : (b : Grammar) (r : Result (List ℕ × List ℕ) ℕ) (v : List ℕ)
    → (then_of r (read b) >>= with_two v) ≡ ((r >>= with_one v) >>= strings_with b)
after_string b (Ok u) v = search (rules, after_last)
after_string b (Err left) v = refl

after_strings : (b : Grammar) (r : Result (List ℕ × List ℕ) ℕ)
    → then_of r (read (Then (Fixed (44 ∷ [])) (Then Str b)))
    ≡ ((r >>= second_of) >>= strings_with b)
after_strings b (Ok y) = search (rules, string_then, after_string)
after_strings b (Err left) = refl

strings_then : (bytes : List ℕ) (b : Grammar) (s : List ℕ) → read (TwoStrings bytes b) s
    ≡ (strings_after bytes s >>= strings_with b)
unfolding strings_after
strings_then bytes b s = search (rules, string_then, after_strings)

pub strings_fails : (stop : ParseFault) (bytes : List ℕ) (b : Grammar) (s : List ℕ)
    → Fails stop (strings_after bytes s) → Fails stop
    (read (Then (Fixed bytes) (Then Str (Then (Fixed (44 ∷ [])) (Then Str b)))) s)
strings_fails stop bytes b s fails = search (rules, strings_then, fails_on, strings_with)

pub strings_later : (stop : ParseFault) (bytes : List ℕ) (b : Grammar) (s v u rest : List ℕ)
    → strings_after bytes s ≡ Ok ((v, u), rest) → Fails stop (read b rest)
    → Fails stop (read (Then (Fixed bytes) (Then Str (Then (Fixed (44 ∷ [])) (Then Str b)))) s)
strings_later stop bytes b s v u rest e fails = search (rules, strings_then, fails_on)

pub strings_read : (bytes : List ℕ) (b : Grammar) (s v u rest : List ℕ) (w : Value b) (end : List ℕ)
    → strings_after bytes s ≡ Ok ((v, u), rest) → read b rest ≡ Ok (w, end)
    → read (Then (Fixed bytes) (Then Str (Then (Fixed (44 ∷ [])) (Then Str b)))) s
    ≡ Ok ((tt, (v, (tt, (u, w)))), end)
strings_read bytes b s v u rest w end e more = rw (strings_then _ b s, e, more) refl

-- ---- the ends of the forms

abbrev pub close_form : Grammar
close_form = Fixed (codes ")")

abbrev pub hash_form : Grammar
hash_form = Then comma (Then Str (Then comma (Then Str close_form)))

abbrev pub names_form : Grammar
names_form = Then comma (Then (Many Rising Str) close_form)

abbrev pub env_form : Grammar
env_form = Then comma (Then (Many Rising entry_form) close_form)

abbrev pub args_form : Grammar
args_form = Then comma (Then (Many Free Str) env_form)

abbrev pub sources_form : Grammar
sources_form = Then comma (Then (Many Rising Str) (Then comma build_form))

abbrev pub inputs_form : Grammar
inputs_form = Then comma (Then (Many Rising input_form) sources_form)
