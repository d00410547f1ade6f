-- Which derivations are wanted: the test of it, and how they are marked, from the last of a plan to
-- the first.
use Rattle.std.proofs.Common.{◌≡◌, ◌∙◌, ◌↔◌, ◌⊎◌, inl, inr, ⊎_elim, ℕ, zero, suc, ◌+◌, ◌-◌, ◌<◌, ◌≤◌, Bool, true, false, List, [], ◌∷◌, ◌++◌, length, replicate, take, Option, Some, None, IfSome, refl, sym, ap, subst, arith, rules}
use Rattle.std.specs.Prelude.{◌&&◌, Contains, slice_get}
use Rattle.std.specs.List.{list_any, range_with_len, slice_index_or}
use Rattle.std.proofs.Math.Seq.{take-append_seam}
use Rattle.std.proofs.lemmas.Bool.{and_from, and_parts, cases_lt, false≢true, or_cases, or_left, or_right}
use Rattle.std.proofs.lemmas.List.{get_or-replicate, get_or_past, length-replicate}
use Rattle.std.proofs.lemmas.Option.{get_or_from_slice_get, slice_get_read, slice_get_within}
use Rattle.drv_graph.specs.Nodes.{Node, inputs_of}
use Rattle.drv_graph.specs.Plans.{AreNumbers, Graph}
use Rattle.drv_graph.specs.SoundGraphs.{IsSound}
use Rattle.valid_table.specs.declared.entry.Entry.{Entry}
use Rattle.run_states.specs.StateTables.{ArePreconditions, AreWanted}
use Rattle.run_states.specs.PlanLaws.{WantedIsTold}
use Rattle.run_states.specs.Runs.{IsWanted, Run, inputs_at, is_free, is_one_of, is_used_by, is_wanted_over, precondition_at, wanted_input, wanted_root, terms_of}
use Rattle.run_states.specs.declared.precondition.Precondition.{Precondition}
use Rattle.run_states.specs.declared.precondition.Precondition.TheVariants.{AllValid, Free, Hindered}
use Rattle.run_states.proofs.PlanInputs.{inputs_first, numbers_at}
use Rattle.run_states.proofs.Tests.{any_passes, in_range, is_among, is_found, one_passes}
use Rattle.nix_names.proofs.Lists.{Contains-nothing, either_side}

-- ---- the test of what is wanted

-- what is wanted over n users is wanted over m users, if m is no less
grows : (n m : ℕ) (run : Run) (opening : List Entry) (d : ℕ) → n ≤ m
    → is_wanted_over n run opening d ≡ true → is_wanted_over m run opening d ≡ true
unfolding is_wanted_over
grows n zero run opening d no_more is = search rules
grows n (suc m) run opening d no_more is =
    ⊎_elim
    (λ less.
    let same : n ≡ suc m = omega arith in
    subst (λ k. is_wanted_over k run opening d ≡ true) same is)
    (λ within. or_left _
    _
    (grows n m _ _ d within is))
    (cases_lt m n)

free_stands : (s : Precondition) → is_free s ≡ true → s ≡ Free
free_stands Free is = refl
free_stands AllValid is = absurd (false≢true is)
free_stands (Hindered cause) is = absurd (false≢true is)

-- what the test tells is wanted
wanted_if_told : (users : ℕ) (run : Run) (opening : List Entry) (d : ℕ)
    → is_wanted_over users run opening d ≡ true → IsWanted run opening d
unfolding is_wanted_over
wanted_if_told zero run opening d is = wanted_root d (is_among _ d is)
wanted_if_told (suc users) run opening d is =
    let test : ℕ → Bool = λ user.
    is_used_by run opening d user && is_wanted_over users run opening user in
    ⊎_elim (λ before. wanted_if_told users run opening d before)
    (λ by_one.
    let found = one_passes test _ by_one in
    let user = found.0 in
    let parts = and_parts (is_used_by run opening d user)
    (is_wanted_over users run opening user) found.2 in
    let stands = precondition_at (terms_of run) opening (slice_get run.graph.nodes user) in
    let inputs = inputs_at run.graph.nodes (slice_get run.graph.nodes user) in
    let used = and_parts (is_free stands) (is_one_of inputs d) parts.0 in
    wanted_input user d (wanted_if_told users run opening user parts.1)
    (free_stands _ used.0) (is_among _ d used.1))
    (or_cases (is_wanted_over users run opening d)
    (list_any test (range_with_len 0 (length run.graph.nodes))) is)

-- a derivation with an input is one of the plan's
user_within : (run : Run) (user d : ℕ)
    → Contains (inputs_at run.graph.nodes (slice_get run.graph.nodes user)) d
    → user < length run.graph.nodes
user_within run user d has = by (slice_get run.graph.nodes user) refl has
  where
    by : (node : Option Node) → slice_get run.graph.nodes user ≡ node
        → Contains (inputs_at run.graph.nodes node) d → user < length run.graph.nodes
    by None at there = absurd (Contains-nothing d there)
    by (Some node) at there = slice_get_within run.graph.nodes user node at

-- what is wanted is told, over as many users as there are derivations after it
told_if_wanted : (run : Run) (opening : List Entry) → IsSound run.graph → (d : ℕ)
    → IsWanted run opening d → (users : ℕ) → length run.graph.nodes ≤ d + users
    → is_wanted_over users run opening d ≡ true
unfolding is_wanted_over
told_if_wanted run opening sound d (wanted_root _ has) users enough =
    grows 0 users run opening d (omega arith) (is_found _ d has)
told_if_wanted run opening sound d (wanted_input user _ by_user free has) users enough =
    let nodes = run.graph.nodes in
    let low : user < length nodes = user_within run _ d has in
    let after : d < user = inputs_first _ sound _ d has in
    let fewer : ℕ = length nodes - user in
    let told = told_if_wanted run opening sound user by_user fewer (omega (arith, low)) in
    let inputs = inputs_at nodes (slice_get nodes user) in
    let used : is_used_by run opening d user ≡ true =
    and_from _ _ (ap is_free free) (is_found inputs d has) in
    grows (suc fewer) users run opening d (omega (arith, low, after, enough))
    (or_right _
    _
    (any_passes (λ u. is_used_by run opening d u && is_wanted_over fewer run opening u)
    _ _ (in_range _ _ low)
    (and_from _ _ used told)))

pub wanted_told : WantedIsTold
wanted_told run opening d sound = search (rules, wanted_if_told, told_if_wanted, sound)

-- ---- how they are marked

-- a derivation is marked
abbrev pub IsMarked : List Bool → ℕ → Type 0
IsMarked wanted d = slice_index_or wanted d false ≡ true

-- Some derivations were marked beside those that were.
pub record Marks (old new : List Bool) (numbers : List ℕ) : Type 0 where
  pub count : length new ≡ length old
  pub each : (d : ℕ) → IsMarked new d ↔ (IsMarked old d ⊎ Contains numbers d)

pub marks_none : (old : List Bool) → Marks old old []
marks_none old = record {
  count = refl;
  each = λ d. (
    λ is. inl is,
    λ either. ⊎_elim (λ is. is) (λ has. absurd (Contains-nothing d has))
        either,
  );
}

-- The marked derivations are wanted, the roots and all inputs of wanted ones from a number on among
-- them.
pub record AreMarked (graph : Graph) (preconditions : List Precondition) (wanted : List Bool)
    (rest : ℕ)
    : Type 0 where
  pub count : length wanted ≡ length graph.nodes
  pub roots : (d : ℕ) → Contains graph.roots d → IsMarked wanted d
  pub sound : (run : Run) (opening : List Entry) → run.graph ≡ graph
      → ArePreconditions (terms_of run) opening graph.nodes preconditions
      → (d : ℕ) → IsMarked wanted d → IsWanted run opening d
  pub closed : (user d : ℕ) → rest ≤ user → IsMarked wanted user
      → slice_index_or preconditions user Free ≡ Free
      → Contains (inputs_at graph.nodes (slice_get graph.nodes user)) d → IsMarked wanted d

-- what is marked stands within the list
pub marked_within : (wanted : List Bool) (d : ℕ) → IsMarked wanted d → d < length wanted
marked_within wanted d is = search (rules, false≢true, get_or_past, cases_lt)

-- where no mark is set none is marked
pub none_marked : (n d : ℕ) → slice_index_or (replicate n false) d false ≡ false
none_marked n d = search (rules, get_or-replicate, get_or_past, length-replicate, cases_lt)

-- the roots are marked
pub roots_marked : (graph : Graph) (preconditions : List Precondition) (old new : List Bool)
    (n : ℕ) → n
    ≡ length graph.nodes → old ≡ replicate n false → Marks old new graph.roots
    → AreMarked graph preconditions new n
roots_marked graph preconditions old new n all none marks =
    let size : length new ≡ n = marks.count ∙ ap length none ∙ length-replicate n false in
    record {
      count = size ∙ all;
      roots = λ d has. (marks.each d).1 (inr has);
      sound = λ run opening same precondition d is. ⊎_elim
          (λ was. absurd (false≢true (sym (unmarked d) ∙ was)))
          (λ has. wanted_root d (subst (λ (g : Graph). Contains g.roots d) (sym same) has))
          ((marks.each d).0 is);
      closed = λ user d past is free has. absurd
          (omega (arith, past, size, marked_within new user is));
    }
  where
    unmarked : (d : ℕ) → slice_index_or old d false ≡ false
    unmarked d = search (rules, none_marked)

-- a derivation whose inputs aren't wanted for it is passed
pub passed_over : (graph : Graph) (preconditions : List Precondition) (wanted : List Bool)
    (rest d : ℕ)
    → rest ≡ d + 1
    → (IsMarked wanted d → slice_index_or preconditions d Free ≡ Free → ⊥)
    → AreMarked graph preconditions wanted rest → AreMarked graph preconditions wanted d
passed_over graph preconditions wanted rest d next none before = record {
  count = before.count;
  roots = before.roots;
  sound = before.sound;
  closed = λ user e past is free has. ⊎_elim
      (λ same. absurd
      (none (subst (IsMarked wanted) same is)
      (subst (λ n. slice_index_or preconditions n Free ≡ Free) same free)))
      (λ apart. before.closed user e
      (⊎_elim (λ less. omega (arith, past, less)) (λ less. omega (arith, next, less)) apart) is
      free has)
      (either_side _ d);
}

-- the inputs of a wanted derivation are marked
pub inputs_marked : (graph : Graph) (preconditions : List Precondition) (old new : List Bool)
    (numbers : List ℕ) (rest d : ℕ) → IsSound graph → d < length graph.nodes → rest ≡ d + 1
    → IfSome (slice_get graph.nodes d) (λ node. AreNumbers graph.nodes numbers (inputs_of node.drv))
    → IsMarked old d → slice_index_or preconditions d Free ≡ Free → Marks old new numbers
    → AreMarked graph preconditions old rest → AreMarked graph preconditions new d
inputs_marked graph preconditions old new numbers rest d is_sound low next are marked stands marks
    before = record {
      count = marks.count ∙ before.count;
      roots = λ e has. (marks.each e).1 (inl (before.roots e has));
      sound = λ run opening same precondition e is. ⊎_elim
          (λ was. before.sound run opening same precondition e was)
          (λ has. by_user run opening same precondition e has)
          ((marks.each e).0 is);
      closed = λ user e past is free has. (marks.each e).1
          (closed_at user e past is free has (either_side _ d));
    }
  where
    same_numbers : numbers ≡ inputs_at graph.nodes (slice_get graph.nodes d)
    same_numbers = numbers_at _ d _ low is_sound are

    by_user : (run : Run) (opening : List Entry) → run.graph ≡ graph
        → ArePreconditions (terms_of run) opening graph.nodes preconditions → (e : ℕ)
        → Contains numbers e
        → IsWanted run opening e
    by_user run opening same precondition e has =
        wanted_input d e (before.sound run opening same precondition d marked)
        (subst (λ (g : Graph). precondition_at (terms_of run) opening (slice_get g.nodes d) ≡ Free)
        (sym same) (sym (precondition.each d low) ∙ stands))
        (subst (λ (g : Graph). Contains (inputs_at g.nodes (slice_get g.nodes d)) e) (sym same)
        (subst (λ l. Contains l e) same_numbers has))

    smaller : (e : ℕ) → Contains numbers e → e < d
    smaller e has = inputs_first _ is_sound d e (subst (λ l. Contains l e) same_numbers has)

    was_marked : (user : ℕ) → d ≤ user → IsMarked new user → IsMarked old user
    was_marked user past is = ⊎_elim (λ was. was)
        (λ has. absurd (omega (arith, past, smaller user has))) ((marks.each user).0 is)

    closed_at : (user e : ℕ) → d ≤ user → IsMarked new user → slice_index_or preconditions user Free
        ≡ Free → Contains (inputs_at graph.nodes (slice_get graph.nodes user)) e
        → (user ≡ d) ⊎ ((user < d) ⊎ (d < user)) → IsMarked old e ⊎ Contains numbers e
    closed_at user e past is free has (inl same) = search (rules, same_numbers)
    closed_at user e past is free has (inr (inl less)) = search rules
    closed_at user e past is free has (inr (inr more)) = search (rules, was_marked)

-- an element that is there is read with any default
pub read_is : {X : Type 0} (xs : List X) (k : ℕ) (x d : X) → k < length xs → x
    ≡ slice_index_or xs k x → slice_index_or xs k d ≡ x
read_is xs k x d low is = search (rules, get_or_from_slice_get, slice_get_read)

pub any_default : {X : Type 0} (xs : List X) (k : ℕ) (x d : X) → k < length xs
    → slice_index_or xs k x ≡ slice_index_or xs k d
any_default [] k x d low = absurd (omega arith)
any_default (y ∷ ys) zero x d low = refl
any_default (y ∷ ys) (suc k) x d low = any_default ys k x d (omega arith)

-- what was written through a slice
pub written : (new rest : List Bool) (n : ℕ) → n ≡ length new → take n (new ++ rest) ≡ new
written new rest n size = search (rules, take-append_seam)

-- all are marked that are wanted
all_wanted : (run : Run) (opening : List Entry) (preconditions : List Precondition)
    (wanted : List Bool)
    → ArePreconditions (terms_of run) opening run.graph.nodes preconditions
    → AreMarked run.graph preconditions wanted 0 → (d : ℕ) → IsWanted run opening d
    → IsMarked wanted d
all_wanted run opening preconditions wanted precondition marked d (wanted_root _ has) =
    marked.roots d has
all_wanted run opening preconditions wanted precondition marked d
    (wanted_input user _ by_user free has) =
    search (rules, by_user, marked_within, all_wanted _ _ _ _ precondition marked _ by_user)

pub wanted_are : (graph : Graph) (preconditions : List Precondition) (wanted : List Bool)
    → AreMarked graph preconditions wanted 0
    → (run : Run) (opening : List Entry) → run.graph ≡ graph
    → ArePreconditions (terms_of run) opening graph.nodes preconditions
    → AreWanted run opening wanted
wanted_are graph preconditions wanted marked run opening same precondition =
    let marked_here : AreMarked run.graph preconditions wanted 0 =
    subst (λ g. AreMarked g preconditions wanted 0) (sym same) marked in
    let precondition_here : ArePreconditions (terms_of run) opening run.graph.nodes preconditions =
    subst (λ (g : Graph). ArePreconditions (terms_of run) opening g.nodes preconditions)
    (sym same) precondition
    in
    record {
      count = marked_here.count;
      yes = λ d is. marked.sound run opening same precondition d is;
      no = λ d is. all_wanted _ _ _ _ precondition_here marked_here d is;
    }
