-- Lists that grow by one item for each item of another.
use Rattle.std.proofs.Common.{◌≡◌, ◌∙◌, ap, sym, refl, ℕ, Bool, true, false, List, [], ◌∷◌, ◌++◌}
use Rattle.std.proofs.Common.{Bor, ◌+◌, ◌<◌, append_assoc, get_or, length, map, take, Option, Some, None}
use Rattle.std.proofs.Common.{if◌then◌else◌}
use Rattle.std.proofs.Common.{Result, Ok, Err, arith, zero, suc}
use Rattle.std.specs.Prelude.{◌||◌, IfErr, IfOk, bytes_eq, codes, filter}
use Rattle.std.specs.List.{Contains, list_any}
use Rattle.std.proofs.lemmas.List.{map-append, map_more}
use Rattle.std.proofs.lemmas.List.Elements.{filter-append}
use Rattle.std.proofs.lemmas.List.Sums.{fold-append}
use Rattle.nix_drv.specs.Derivation.{EnvEntry}
use Rattle.nix_drv.specs.Parts.{entry_of}
use Rattle.nix_drv.specs.declared.derivation.EnvEntry.{EnvEntry as OwnEntry}
use Rattle.process_build.specs.Setups.{entry, entry_under_nix, file_name_of, is_among, or_empty, value_of}
use Rattle.process_build.specs.Setups.{entry_of_builtin, or_text}
use Rattle.process_build.specs.declared.process.builtins.OwnBuiltin.{OwnBuiltin}

-- one more item after others
pub mapped_after : {X Y Z W : Type 0} (f : X → Z) (g : W → Z) (h : Y → W) (old now more : List X)
    (x : X) (ys : List Y) (i : ℕ) (d : Y) → i < length ys → more ≡ now ++ x ∷ []
    → map f now ≡ map f old ++ map g (map h (take i ys)) → f x ≡ g (h (get_or ys i d))
    → map f more ≡ map f old ++ map g (map h (take (i + 1) ys))
mapped_after f g h old now more x ys i d low is_more had same =
    ap (map f) is_more ∙ map-append f now (x ∷ []) ∙ ap (λ l. l ++ f x ∷ []) had
    ∙ append_assoc (map f old) (map g (map h (take i ys))) (f x ∷ [])
    ∙ ap (λ l. map f old ++ l)
    (ap (λ v. map g (map h (take i ys)) ++ v ∷ []) same
    ∙ sym (ap (map g) (map_more h ys i d low)
    ∙ map-append g (map h (take i ys)) (h (get_or ys i d) ∷ [])))

-- one more item after others, without a second function
pub mapped_next : {X Y Z : Type 0} (f : X → Z) (g : Y → Z) (old now more : List X)
    (x : X) (ys : List Y) (i : ℕ) (d : Y) → i < length ys → more ≡ now ++ x ∷ []
    → map f now ≡ map f old ++ map g (take i ys) → f x ≡ g (get_or ys i d)
    → map f more ≡ map f old ++ map g (take (i + 1) ys)
mapped_next f g old now more x ys i d low is_more had same =
    ap (map f) is_more ∙ map-append f now (x ∷ []) ∙ ap (λ l. l ++ f x ∷ []) had
    ∙ append_assoc (map f old) (map g (take i ys)) (f x ∷ [])
    ∙ ap (λ l. map f old ++ l)
    (ap (λ v. map g (take i ys) ++ v ∷ []) same ∙ sym (map_more g ys i d low))

-- a list that grows by three parts
pub three_more : {A : Type 0} (w a b c d p q r p' q' r' : List A) → a ≡ w → b ≡ a ++ p → c ≡ b ++ q
    → d ≡ c ++ r → p ≡ p' → q ≡ q' → r ≡ r' → d ≡ w ++ p' ++ q' ++ r'
three_more w a b c d p q r p' q' r' begun first second third ps qs rs =
    third ∙ ap (λ l. l ++ r) (second ∙ ap (λ l. l ++ q) (first ∙ ap (λ l. l ++ p) begun))
    ∙ ap (λ l. ((w ++ l) ++ q) ++ r) ps ∙ ap (λ l. ((w ++ p') ++ l) ++ r) qs
    ∙ ap (λ l. ((w ++ p') ++ q') ++ l) rs

-- a test of names as the program holds them
pub any_mapped : (names : List (Bor (List ℕ))) (key : List ℕ)
    → list_any (λ n. bytes_eq n.now key) names ≡ is_among (map (λ n. n.now) names) key
any_mapped [] key = refl
any_mapped (name ∷ names) key = ap (λ b. bytes_eq name.now key || b) (any_mapped names key)

-- where no value goes into a file, the entries are the derivation's own
pub all_own : (folder : List ℕ) (entries : List EnvEntry)
    → map (entry_under_nix folder []) entries ≡ entries
all_own folder [] = refl
all_own folder (e ∷ entries) = ap (λ l. e ∷ l) (all_own folder entries)

empty_of : (b : Bool) (value : List ℕ) (before : Option (List ℕ))
    → or_empty (if b then Some value else before) ≡ (if b then value else or_empty before)
empty_of true value before = refl
empty_of false value before = refl

-- the value of a key after one more entry
pub value_more : (key : List ℕ) (entries : List OwnEntry) (i : ℕ) (e : OwnEntry)
    → i < length entries → e ≡ get_or entries i e
    → or_empty (value_of key (map entry_of (take (i + 1) entries)))
    ≡ (if bytes_eq (entry_of e).key key then (entry_of e).value
    else or_empty (value_of key (map entry_of (take i entries))))
value_more key entries i e low is =
    let before : List EnvEntry = map entry_of (take i entries) in
    ap (λ l. or_empty (value_of key l))
    (map_more entry_of entries i e low ∙ ap (λ v. before ++ entry_of v ∷ []) (sym is))
    ∙ ap or_empty (fold-append (λ v x. if bytes_eq x.key key then Some x.value else v) None before
    (entry_of e ∷ []))
    ∙ empty_of (bytes_eq (entry_of e).key key) (entry_of e).value (value_of key before)

-- what is set for an entry whose value goes into a file
pub under_yes : (folder : List ℕ) (names : List (Bor (List ℕ))) (key : List ℕ) (e : EnvEntry)
    → key ≡ e.key → list_any (λ n. bytes_eq n.now key) names ≡ true
    → entry (key ++ codes "Path") (folder ++ codes "/" ++ file_name_of key)
    ≡ entry_under_nix folder (map (λ n. n.now) names) e
under_yes folder names key e is held =
    ap (λ k. entry (k ++ codes "Path") (folder ++ codes "/" ++ file_name_of k)) is
    ∙ ap (λ b. if b then entry (e.key ++ codes "Path") (folder ++ codes "/" ++ file_name_of e.key)
    else e) (sym (sym (any_mapped names e.key)
    ∙ ap (λ k. list_any (λ n. bytes_eq n.now k) names) (sym is) ∙ held))

-- what is set for another entry
pub under_no : (folder : List ℕ) (names : List (Bor (List ℕ))) (key : List ℕ) (e : EnvEntry)
    → key ≡ e.key → list_any (λ n. bytes_eq n.now key) names ≡ false
    → e ≡ entry_under_nix folder (map (λ n. n.now) names) e
under_no folder names key e is missed =
    ap (λ b. if b then entry (e.key ++ codes "Path") (folder ++ codes "/" ++ file_name_of e.key)
    else e) (sym (sym (any_mapped names e.key)
    ∙ ap (λ k. list_any (λ n. bytes_eq n.now k) names) (sym is) ∙ missed))

-- what follows from what holds of a value
pub if_ok : {A E : Type 0} (r : Result A E) (P Q : A → Type 0) → ((a : A) → P a → Q a) → IfOk r P
    → IfOk r Q
if_ok (Ok a) P Q more holds = more a holds
if_ok (Err e) P Q more holds = holds

-- what follows from what holds of an error
pub if_err : {A E : Type 0} (r : Result A E) (P Q : E → Type 0) → ((e : E) → P e → Q e) → IfErr r P
    → IfErr r Q
if_err (Ok a) P Q more holds = holds
if_err (Err e) P Q more holds = more e holds

-- an item of a list that is mapped
pub contains_mapped : {A B : Type 0} (f : A → B) (xs : List A) (i : ℕ) (x : A) → i < length xs
    → x ≡ get_or xs i x → Contains (map f xs) (f x)
contains_mapped f [] i x low is = absurd (omega arith)
contains_mapped f (y ∷ ys) zero x low is = (0, (omega arith), ap f (sym is))
contains_mapped f (y ∷ ys) (suc i) x low is =
    let found = contains_mapped f ys i x (omega arith) is in
    let within : found.0 < length (map f ys) = found.1 in
    (suc found.0, (omega arith), found.2)

-- the items that pass a test, with one more
pub filtered_more : {A B : Type 0} (test : B → Bool) (f : A → B) (xs : List A) (i : ℕ) (x : A)
    → i < length xs → x ≡ get_or xs i x → filter test (map f (take (i + 1) xs))
    ≡ filter test (map f (take i xs)) ++ (if test (f x) then f x ∷ [] else [])
filtered_more test f xs i x low is =
    ap (filter test) (map_more f xs i x low
    ∙ ap (λ v. map f (take i xs) ++ f v ∷ []) (sym is))
    ∙ filter-append test (map f (take i xs)) (f x ∷ [])

text_or : (other : List ℕ) (b : Bool) (value : List ℕ) (before : Option (List ℕ))
    → or_text other (if b then Some value else before) ≡ (if b then value else or_text other before)
text_or other true value before = refl
text_or other false value before = refl

-- the program of a builder after one more builtin
pub program_more : (builder : List ℕ) (builtins : List OwnBuiltin) (i : ℕ) (e : OwnBuiltin)
    → i < length builtins → e ≡ get_or builtins i e
    → or_text builder (value_of builder (map entry_of_builtin (take (i + 1) builtins)))
    ≡ (if bytes_eq (entry_of_builtin e).key builder then (entry_of_builtin e).value
    else or_text builder (value_of builder (map entry_of_builtin (take i builtins))))
program_more builder builtins i e low is =
    let before : List EnvEntry = map entry_of_builtin (take i builtins) in
    ap (λ l. or_text builder (value_of builder l))
    (map_more entry_of_builtin builtins i e low
    ∙ ap (λ v. before ++ entry_of_builtin v ∷ []) (sym is))
    ∙ ap (or_text builder) (fold-append (λ v x. if bytes_eq x.key builder then Some x.value else v)
    None before (entry_of_builtin e ∷ []))
    ∙ text_or builder (bytes_eq (entry_of_builtin e).key builder) (entry_of_builtin e).value
    (value_of builder before)
