-- Which derivations are marked as refused, and the first key that asks for what is left out.
use Rattle.std.proofs.Common.{◌≡◌, ◌∙◌, ◌<◌, ◌+◌, ◌&&◌, ◌↔◌, ℕ, Bool, true, false, suc, zero, List, [], ◌∷◌, ◌++◌, add-one, ap, append_assoc, arith, drop, drop-cons, get_or, length, map, refl, slice_get, sym}
use Rattle.std.proofs.lemmas.Bool.{false≢true}
use Rattle.std.proofs.lemmas.List.FromFn.{get_or-map-range_with_len}
use Rattle.std.specs.Bool.{if◌then◌else◌}
use Rattle.std.specs.List.{list_any, range_with_len, slice_index_or}
use Rattle.std.specs.Prelude.{Err, Ok, OnOk, Result}
use Rattle.std.specs.Result.{is_ok}
use Rattle.nix_drv.specs.Parts.{entry_of}
use Rattle.nix_drv.specs.declared.derivation.EnvEntry.{EnvEntry}
use Rattle.nix_names.specs.Names.{same_bytes}
use Rattle.drv_graph.specs.Nodes.{Node}
use Rattle.valid_table.specs.declared.entry.Entry.{Entry}
use Rattle.run_report.specs.Listing.{IsMarked}
use Rattle.run_states.specs.Runs.{Run, Terms, left_out, precondition_at, terms_of}
use Rattle.run_states.specs.StateTables.{ArePreconditions, AreWanted}
use Rattle.run_states.specs.declared.precondition.Precondition.{Precondition}
use Rattle.run_states.specs.declared.precondition.Precondition.TheVariants.{Free}
use Rattle.nix_realise.specs.CauseLines.{IsUnsupportedIn, first_left_out, is_refused_so}

-- the mark of a derivation, by whether it is wanted and by its precondition
abbrev pub mark_of : (wanted : List Bool) → (preconditions : List Precondition) → ℕ → Bool
mark_of wanted preconditions d =
    slice_index_or wanted d false && is_refused_so (slice_index_or preconditions d Free)

-- a derivation that is not in the plan is not refused
within : (terms : Terms) (opening : List Entry) (nodes : List Node) (d : ℕ)
    → is_refused_so (precondition_at terms opening (slice_get nodes d)) ≡ true → d < length nodes
within terms opening [] d h = absurd (false≢true h)
within terms opening (node ∷ nodes) zero h = omega arith
within terms opening (node ∷ nodes) (suc d) h =
    let rest = within terms opening nodes d h in omega (arith, rest)

both_true : (a b : Bool) → (a && b) ≡ true → (a ≡ true) × (b ≡ true)
both_true true b h = (refl, h)
both_true false b h = absurd (false≢true h)

and_true : (a b : Bool) → a ≡ true → b ≡ true → (a && b) ≡ true
and_true true b x y = y
and_true false b x y = absurd (false≢true x)

-- the marks are those of the derivations that are wanted and refused
pub marks_are : (run : Run) (opening : List Entry) (wanted : List Bool)
    (preconditions : List Precondition) (marks : List Bool)
    → ArePreconditions (terms_of run) opening run.graph.nodes preconditions
    → AreWanted run opening wanted
    → marks ≡ map (mark_of wanted preconditions) (range_with_len 0 (length run.graph.nodes))
    → (d : ℕ) → IsMarked marks (length run.graph.nodes) d ↔ IsUnsupportedIn run opening d
marks_are run opening wanted preconditions marks are_preconditions are_wanted is d = (to, from)
  where
    n : ℕ
    n = length run.graph.nodes

    mark_at : d < n → slice_index_or marks d false ≡ mark_of wanted preconditions d
    mark_at lt =
        ap (λ (l : List Bool). slice_index_or l d false) is
        ∙ get_or-map-range_with_len (mark_of wanted preconditions) 0 n d d false lt (omega arith)

    to : IsMarked marks n d → IsUnsupportedIn run opening d
    to (lt, marked) =
        let both = both_true _ _ (sym (mark_at lt) ∙ marked) in (
          are_wanted.yes d both.0,
          sym (ap is_refused_so (are_preconditions.each d lt)) ∙ both.1,
        )

    from : IsUnsupportedIn run opening d → IsMarked marks n d
    from (is_wanted, refused) =
        let lt = within (terms_of run) opening run.graph.nodes d refused in (
          lt,
          mark_at lt
              ∙ and_true _ _ (are_wanted.no d is_wanted)
              (ap is_refused_so (are_preconditions.each d lt) ∙ refused),
        )

-- an entry that asks for nothing that is left out is passed over
pub key_passed : (other : List ℕ) (env : List EnvEntry) (i : ℕ) (d : EnvEntry)
    → i < length env
    → list_any (same_bytes (get_or env i d).key.items) left_out ≡ false
    → first_left_out other (map entry_of (drop (i + 1) env))
    ≡ first_left_out other (map entry_of (drop i env))
key_passed other env i d below none =
    let next : drop i env ≡ get_or env i d ∷ drop (i + 1) env = rw add-one
    (drop-cons env i d below) in
    rw (next, none) refl

-- and the key of the first other one is found
pub key_found : (other : List ℕ) (env : List EnvEntry) (i : ℕ) (d : EnvEntry)
    → i < length env
    → list_any (same_bytes (get_or env i d).key.items) left_out ≡ true
    → (get_or env i d).key.items ≡ first_left_out other (map entry_of (drop i env))
key_found other env i d below one =
    let next : drop i env ≡ get_or env i d ∷ drop (i + 1) env = rw add-one
    (drop-cons env i d below) in
    rw (next, one) refl

regrouped : (out name drv words cause hint end : List ℕ)
    → ((out ++ name ++ drv ++ words ++ cause) ++ hint) ++ end
    ≡ out ++ (name ++ drv ++ words ++ cause ++ hint ++ end)
regrouped out name drv words cause hint end = simp append_assoc

-- a line is written in four parts
pub line_written : (out name drv words cause hint end a b c d : List ℕ)
    → a ≡ out ++ name ++ drv ++ words → b ≡ a ++ cause → c ≡ b ++ hint → d ≡ c ++ end
    → d ≡ out ++ (name ++ drv ++ words ++ cause ++ hint ++ end)
line_written out name drv words cause hint end a b c d is_a is_b is_c is_d =
    is_d
    ∙ ap (λ l. l ++ end) (is_c ∙ ap (λ l. l ++ hint) (is_b ∙ ap (λ l. l ++ cause) is_a))
    ∙ regrouped out name drv words cause hint end

-- what a list grew by, where that succeeded
pub grown_on_ok : {T E : Type 0} (answer : Result T E) (new more same : List ℕ)
    → new ≡ (if is_ok answer then more else same) → OnOk answer (new ≡ more)
grown_on_ok (Ok value) new more same is = is
grown_on_ok (Err fault) new more same is = tt

-- what is read within a list does not depend on what would be read outside
pub read_within : {X : Type 0} (xs : List X) (n : ℕ) (x d : X) → n < length xs
    → x ≡ slice_index_or xs n x → x ≡ slice_index_or xs n d
read_within [] n x d lt is = absurd (omega (arith, lt))
read_within (y ∷ ys) zero x d lt is = is
read_within (y ∷ ys) (suc n) x d lt is = read_within ys n x d (omega (arith, lt)) is
