-- What look-ups tell of a system, and of what a derivation asks of it.
use Rattle.std.proofs.Common.{◌≡◌, ◌∙◌, ◌+◌, ℕ, Bool, true, false, Decides, List, [], ◌∷◌, ◌++◌, ◌||◌, ◌&&◌, Option, Some, None, ap, codes, cond, drop, length, map, refl, sym, take, rules}
use Rattle.std.specs.Prelude.{Vec, find, not}
use Rattle.std.specs.declared.alloc.Global.{Global}
use Rattle.std.specs.Cmp.Lexicographic.{bytes_decides, pointwise_decides}
use Rattle.std.specs.List.{list_any, position, prefix_len}
use Rattle.std.proofs.lemmas.List.{length-map}
use Rattle.std.specs.Option.{option_map}
use Rattle.nix_names.specs.Names.{same_bytes}
use Rattle.nix_names.proofs.Tests.{both_parts}
use Rattle.nix_drv.specs.Derivation.{Drv, EnvEntry}
use Rattle.nix_drv.specs.Parts.{bytes_of, entry_of}
use Rattle.nix_drv.specs.declared.derivation.EnvEntry.{EnvEntry as EnvEntryStruct}
use Rattle.run_states.specs.Structured.{value_of}
use Rattle.run_states.specs.Systems.{Platform, has_program, offers, same_platform}

-- a test of some made elements
pub any_mapped : {X Y : Type 0} (p : Y → Bool) (h : X → Y) (xs : List X) → list_any p (map h xs)
    ≡ list_any (λ x. p (h x)) xs
any_mapped p h [] = refl
any_mapped p h (x ∷ xs) = ap (λ b. p (h x) || b) (any_mapped p h xs)

-- how many made elements pass from the front on, and the index of the first that passes
prefix_mapped : {X Y : Type 0} (p : Y → Bool) (h : X → Y) (xs : List X)
    → prefix_len (λ x. p (h x)) xs ≡ prefix_len p (map h xs)
prefix_mapped p h [] = refl
prefix_mapped p h (x ∷ xs) = ap (λ n. cond (p (h x)) (1 + n) 0) (prefix_mapped p h xs)

pub position_mapped : {X Y : Type 0} (p : Y → Bool) (h : X → Y) (xs : List X)
    → position (λ x. p (h x)) xs ≡ position p (map h xs)
position_mapped p h xs =
    rw (prefix_mapped (λ y. not (p y)) h xs, length-map xs h) refl

-- the first of some made elements
find_step : {X Y : Type 0} (h : X → Y) (b : Bool) (x : X) (found : Option Y) (other : Option X)
    → found ≡ option_map h other
    → cond b (Some (h x)) found ≡ option_map h (cond b (Some x) other)
find_step h true x found other is = refl
find_step h false x found other is = is

mapped_twice : {X Y Z : Type 0} (g : Y → Z) (h : X → Y) (found : Option X)
    → option_map (λ x. g (h x)) found ≡ option_map g (option_map h found)
mapped_twice g h None = refl
mapped_twice g h (Some x) = refl

pub find_mapped : {X Y : Type 0} (p : Y → Bool) (h : X → Y) (xs : List X) → find p (map h xs)
    ≡ option_map h (find (λ x. p (h x)) xs)
find_mapped p h [] = refl
find_mapped p h (x ∷ xs) = find_step h (p (h x)) x _ _ (find_mapped p h xs)

-- the value of an entry, by the entries of the environment in memory
pub value_told : (drv : Drv) (key : List ℕ) (env : List EnvEntryStruct)
    (found : Option EnvEntryStruct) → map entry_of env ≡ drv.env
    → found ≡ find (λ (e : EnvEntryStruct). same_bytes e.key.items key) env
    → option_map (λ (e : EnvEntryStruct). e.value.items) found ≡ value_of key drv
value_told drv key env found deref_is is =
    rw (sym deref_is, find_mapped (λ (e : EnvEntry). same_bytes e.key key) entry_of env, sym is)
    (mapped_twice (λ (e : EnvEntry). e.value) entry_of found)

-- whether a system offers a feature, by its features in memory
pub offer_told : (system : Platform) (feature : List ℕ) (features : List (Vec ℕ Global))
    (told : Bool) → map bytes_of features ≡ system.features
    → told ≡ list_any (λ (v : Vec ℕ Global). same_bytes feature v.items) features
    → told ≡ offers system feature
offer_told system feature features told deref_is is =
    is ∙ sym (any_mapped (same_bytes feature) bytes_of features)
    ∙ ap (list_any (same_bytes feature)) deref_is

-- whether a text is a mark with another text after it
same_after_mark : (mark text rest : List ℕ) → same_bytes text (mark ++ rest)
    ≡ (same_bytes (take (length mark) text) mark && same_bytes (drop (length mark) text) rest)
same_after_mark [] text rest = search rules
same_after_mark (m ∷ mark) [] rest = search rules
same_after_mark (m ∷ mark) (t ∷ text) rest = search (rules, same_after_mark mark text rest)

any_none : (texts : List (List ℕ)) → list_any (λ name. false) texts ≡ false
any_none [] = refl
any_none (text ∷ texts) = any_none texts

-- a builtin builder has a program where its name is one of those
pub program_told : (system : Platform) (drv : Drv) (name : List ℕ)
    (builtins : List (Vec ℕ Global)) (told : Bool) → map bytes_of builtins ≡ system.builtins
    → same_bytes (take 8 drv.builder) (codes "builtin:") ≡ true → name ≡ drop 8 drv.builder
    → told ≡ list_any (λ (v : Vec ℕ Global). same_bytes name v.items) builtins
    → told ≡ has_program system drv
program_told system drv name builtins told deref_is begins is_name is =
    simp (same_after_mark (codes "builtin:") drv.builder, begins)
    (is ∙ sym (any_mapped (same_bytes name) bytes_of builtins)
    ∙ ap (λ (n : List ℕ). list_any (same_bytes n) (map bytes_of builtins)) is_name
    ∙ ap (list_any (same_bytes (drop 8 drv.builder))) deref_is)

-- any other builder has none
pub no_program : (system : Platform) (drv : Drv)
    → same_bytes (take 8 drv.builder) (codes "builtin:") ≡ false → false ≡ has_program system drv
no_program system drv begins =
    simp (same_after_mark (codes "builtin:") drv.builder, begins) (sym (any_none system.builtins))

-- the name and the features of a system
abbrev offer_of : Platform → List ℕ × List (List ℕ)
offer_of system = (system.name, system.features)

-- systems that are equal by `==` are the same
pub platforms_decide : (a b : Platform) → Decides (same_platform a b) (a ≡ b)
platforms_decide a b =
    both_parts _ _
    (both_parts {R = offer_of a ≡ offer_of b} _ _
    (bytes_decides a.name b.name) (pointwise_decides bytes_decides a.features b.features)
    (λ p q j. (p j, q j)) (λ e. ap (λ (r : List ℕ × List (List ℕ)). r.0) e)
    (λ e. ap (λ (r : List ℕ × List (List ℕ)). r.1) e))
    (pointwise_decides bytes_decides a.builtins b.builtins)
    (λ p q j. record { name = (p j).0; features = (p j).1; builtins = q j })
    (λ e. ap offer_of e)
    (λ e. ap (λ (s : Platform). s.builtins) e)
