-- The texts of a derivation's parts, put together.
use Rattle.std.proofs.Common.{◌≡◌, ◌∙◌, ℕ, List, ◌∷◌, ◌++◌, append_assoc, Result, Ok, Err, OnOk}
use Rattle.std.specs.Prelude.{codes, if◌then◌else◌, is_ok}
use Rattle.nix_drv.specs.Strings.{string_text}
use Rattle.nix_drv.specs.Grammar.{Value, Str, text}
use Rattle.nix_drv.specs.private.Listings.{list_text}
use Rattle.nix_drv.specs.Derivation.{EnvEntry, Input, Output, output_form, output_value, input_form, input_value, entry_form, entry_value, build_form, derivation_form}

pub on_ok : {E : Type 0} (r : Result (Unit {0}) E) (P Q : Type 0) → (P → Q) → OnOk r P → OnOk r Q
on_ok (Ok x) P Q f h = f h
on_ok (Err x) P Q f h = tt

-- bytes are added last
pub added_last : {E : Type 0} (r : Result (Unit {0}) E) (old new last whole : List ℕ) → old ++ last
    ≡ whole → new ≡ (if is_ok r then old ++ last else old) → OnOk r (new ≡ whole)
added_last (Ok x) old new last whole same e = e ∙ same
added_last (Err x) old new last whole same e = tt

-- a mark and then a text
pub after_mark : (old marked new mark t : List ℕ) → marked ≡ old ++ mark → new ≡ marked ++ t → new
    ≡ old ++ (mark ++ t)
after_mark old marked new mark t marked_is new_is = rw (new_is, marked_is) (simp append_assoc)

-- two strings
pub strings_written : (old first new mark a b : List ℕ) → first ≡ old ++ (mark ++ string_text a)
    → new ≡ first ++ (codes "," ++ string_text b) → new ≡ old
    ++ (mark ++ string_text a ++ 44 ∷ string_text b)
strings_written old first new mark a b first_is new_is = rw (new_is, first_is) (simp append_assoc)

-- the texts of an entry's parts, of an input's, of an output's, of how a derivation is built and of
-- all of it, put together
entry_parts : (old q n r p u : List ℕ) → (old ++ (q ++ (n ++ (r ++ p)))) ++ u ≡ old
    ++ (q ++ (n ++ (r ++ (p ++ u))))
entry_parts old q n r p u = simp append_assoc

input_parts : (old q n r l u : List ℕ) → ((old ++ (q ++ n)) ++ (r ++ l)) ++ u ≡ old
    ++ (q ++ (n ++ (r ++ (l ++ u))))
input_parts old q n r l u = simp append_assoc

output_parts : (old q n r p k m u : List ℕ)
    → ((old ++ (q ++ (n ++ (r ++ p)))) ++ (r ++ (k ++ (r ++ m)))) ++ u ≡ old
    ++ (q ++ (n ++ (r ++ (p ++ (r ++ (k ++ (r ++ (m ++ u))))))))
output_parts old q n r p k m u = simp append_assoc

build_parts : (old n r p k m u : List ℕ)
    → (((old ++ (r ++ (n ++ (r ++ p)))) ++ (r ++ k)) ++ (r ++ m)) ++ u ≡ old
    ++ (r ++ (n ++ (r ++ (p ++ (r ++ (k ++ (r ++ (m ++ u))))))))
build_parts old n r p k m u = simp append_assoc

all_parts : (old q o r i s b : List ℕ) → (((old ++ (q ++ o)) ++ (r ++ i)) ++ (r ++ s)) ++ (r ++ b)
    ≡ old ++ (q ++ (o ++ (r ++ (i ++ (r ++ (s ++ (r ++ b)))))))
all_parts old q o r i s b = simp append_assoc

-- and each is its text
pub entry_written : (e : EnvEntry) (old a : List ℕ) → a ≡ old
    ++ (codes "(" ++ string_text e.key ++ 44 ∷ string_text e.value)
    → a ++ codes ")" ≡ old ++ text entry_form (entry_value e)
unfolding text
entry_written e old a a_is =
    rw a_is (entry_parts old (codes "(") (string_text e.key) (codes ",") (string_text e.value)
    (codes ")"))

pub input_written : (i : Input) (old a b : List ℕ) → a ≡ old ++ (codes "(" ++ string_text i.path)
    → b ≡ a ++ (codes "," ++ list_text (text Str) i.names)
    → b ++ codes ")" ≡ old ++ text input_form (input_value i)
unfolding text
input_written i old a b a_is b_is = rw (b_is, a_is)
    (input_parts old (codes "(") (string_text i.path) (codes ",") (list_text (text Str) i.names)
    (codes ")"))

pub output_written : (o : Output) (old a b : List ℕ) → a ≡ old
    ++ (codes "(" ++ string_text o.name ++ 44 ∷ string_text o.path) → b ≡ a
    ++ (codes "," ++ string_text o.algo ++ 44 ∷ string_text o.hash)
    → b ++ codes ")" ≡ old ++ text output_form (output_value o)
unfolding text
output_written o old a b a_is b_is =
    rw (b_is, a_is)
    (output_parts old (codes "(") (string_text o.name) (codes ",") (string_text o.path)
    (string_text o.algo) (string_text o.hash) (codes ")"))

pub build_written : (old a b c system builder : List ℕ) (args : List (List ℕ))
    (env : List (Value entry_form))
    → a ≡ old ++ (codes "," ++ string_text system ++ 44 ∷ string_text builder) → b ≡ a
    ++ (codes "," ++ list_text (text Str) args) → c ≡ b
    ++ (codes "," ++ list_text (text entry_form) env)
    → c ++ codes ")" ≡ old ++ 44 ∷ text build_form
    (system, (tt, (builder, (tt, (args, (tt, (env, tt)))))))
unfolding text
build_written old a b c system builder args env a_is b_is c_is =
    rw (c_is, b_is, a_is)
    (build_parts old (string_text system) (codes ",") (string_text builder)
    (list_text (text Str) args) (list_text (text entry_form) env) (codes ")"))

pub parts_written : (old a b c new : List ℕ) (outputs : List (Value output_form))
    (inputs : List (Value input_form)) (sources : List (List ℕ)) (build : Value build_form)
    → a ≡ old ++ (codes "Derive(" ++ list_text (text output_form) outputs) → b ≡ a
    ++ (codes "," ++ list_text (text input_form) inputs) → c ≡ b
    ++ (codes "," ++ list_text (text Str) sources)
    → new ≡ c ++ 44 ∷ text build_form build
    → new ≡ old ++ text derivation_form
    (tt, (outputs, (tt, (inputs, (tt, (sources, (tt, build)))))))
unfolding text
parts_written old a b c new outputs inputs sources build a_is b_is c_is new_is =
    rw (new_is, c_is, b_is, a_is)
    (all_parts old (codes "Derive(") (list_text (text output_form) outputs) (codes ",")
    (list_text (text input_form) inputs) (list_text (text Str) sources) (text build_form build))
