-- Walks along links: each step keeps what is known, and a walk that ends tells whether there is a
-- round.
use Rattle.std.proofs.Common.{◌≡◌, ◌≢◌, ◌∙◌, ⊎_elim, ℕ, zero, suc, ◌+◌, ◌-◌, ◌<◌, ◌≤◌, List, [], ◌∷◌, ◌++◌, length, get_or, map, take, Some, refl, sym, ap, subst, arith, rules}
use Rattle.std.specs.Prelude.{Contains}
use Rattle.std.specs.Global.{Vec}
use Rattle.std.specs.List.{slice_get, sum_by}
use Rattle.std.proofs.Math.ListN.{set, length-set}
use Rattle.std.proofs.Math.Nat.{eq-or-lt_of_le}
use Rattle.std.proofs.lemmas.List.{length-map, take_all, take_more}
use Rattle.std.proofs.lemmas.List.Elements.{Contains-append_left, Contains-push, Contains-push_cases}
use Rattle.std.proofs.lemmas.List.Sums.{sum_by-set}
use Rattle.std.proofs.lemmas.Option.{get_or_from_slice_get, slice_get-get_or, slice_get-map, slice_get_within}
use Rattle.build_outcome.specs.declared.walk.Mark.{Mark}
use Rattle.build_outcome.specs.declared.walk.Mark.TheVariants.{New, Open, Closed}
use Rattle.build_outcome.specs.declared.walk.WalkNode.{WalkNode}
use Rattle.build_outcome.specs.declared.walk.WalkStep.TheVariants.{Enter, Leave, Pass, Return}
use Rattle.build_outcome.specs.private.Walking.{AreInner, Goes, HaveRound, IsAfter, IsGrounded, IsLinked, IsMet, IsNextLink, IsWalkStep, IsWalk, KeepsMet, fresh, goes_nowhere, goes_on, grounded, mark_weight, weight}
use Rattle.build_outcome.proofs.Indices.{set_cases}
use Rattle.nix_names.proofs.Lists.{Contains-first, Contains-from_get, element_at, get_from_contains, get_grows, get_push_cases, get_pushed, same_element}

-- the last link that is left is a link
next_linked : (links : List (Vec ℕ)) (nodes : List WalkNode) (top to : ℕ) (node other : WalkNode)
    → IsNextLink links nodes top node to other → IsLinked links top to
next_linked links nodes top to node other next = search (rules, Contains-from_get)

-- a number whose links are all passed is grounded
left_grounded : (links : List (Vec ℕ)) (nodes : List WalkNode) (top : ℕ) (node : WalkNode)
    → IsAfter links nodes → slice_get nodes top ≡ Some node → node.left ≡ 0 → IsGrounded links top
left_grounded links nodes top node after at none =
    grounded top (λ to linked apart.
    let index = get_from_contains _ _ linked.2 in
    after.passed top node linked.0 index.0 to at linked.1 (omega arith) index.1 apart)

after_leave : (links : List (Vec ℕ)) (before after : List WalkNode) (top : ℕ) → IsAfter links before
    → IsWalkStep links before after top Leave → IsAfter links after
after_leave links before after top was (node, at, none, is) =
    search (rules, length-set, set_cases, left_grounded)

after_pass : (links : List (Vec ℕ)) (before after : List WalkNode) (top : ℕ) → IsAfter links before
    → IsWalkStep links before after top Pass → IsAfter links after
after_pass links before after top was (node, to, other, next, passes, k, last, is) =
    search (rules, length-set, set_cases, same_element, eq-or-lt_of_le)

after_open : (links : List (Vec ℕ)) (before after : List WalkNode) (to : ℕ) (other : WalkNode)
    → IsAfter links before → slice_get before to ≡ Some other
    → after ≡ set before to (record { mark = Open; left = other.left }) → IsAfter links after
after_open links before after to other was at is = search (rules, length-set, set_cases)

pub walk_leave : (links : List (Vec ℕ)) (before after : List WalkNode) (rest : List ℕ) (top : ℕ)
    → IsWalk links before (rest ++ top ∷ []) → IsWalkStep links before after top Leave
    → IsWalk links after rest
walk_leave links before after rest top was step = record {
  after = after_leave _ _ _ _ was.after step;
  opened = λ from later here mark. ⊎_elim
      (λ h. let clash : Closed ≡ Open = sym (ap (λ (n : WalkNode). n.mark) h.1) ∙ mark in absurd cc)
      (λ h. ⊎_elim (λ has. has) (λ is. absurd (h.0 (sym is)))
      (Contains-push_cases _ _ _ (was.opened from later h.1 mark)))
      (set_cases _ _ _ _ _
      (subst (λ (nodes : List WalkNode). slice_get nodes from ≡ Some later) step.3 here));
  within = λ k n at. let old = was.within k n (get_grows _ _ k n at) in
      let same : length after
      ≡ length before = ap length step.3 ∙ length-set before top _ in omega arith;
  chain = λ k from to at at'. was.chain k from to (get_grows _ _ k _ at)
      (get_grows rest (top ∷ []) (suc k) _ at');
}

pub walk_pass : (links : List (Vec ℕ)) (before after : List WalkNode) (trail : List ℕ) (top : ℕ)
    → IsWalk links before trail → IsWalkStep links before after top Pass → IsWalk links after trail
walk_pass links before after trail top was (node, to, other, next, passes, k, last, is) =
    search (rules, after_pass, set_cases, length-set)

pub walk_enter : (links : List (Vec ℕ)) (before after : List WalkNode) (rest : List ℕ) (top to : ℕ)
    → IsWalk links before (rest ++ top ∷ []) → IsWalkStep links before after top (Enter to)
    → IsWalk links after ((rest ++ top ∷ []) ++ to ∷ [])
walk_enter links before after rest top to was (node, other, next, mark_new, is) =
    let trail = rest ++ top ∷ [] in
    let same : length after ≡ length before = ap length is ∙ length-set before to _ in
    record {
      after = after_open links before after to other was.after next.other_at is;
      opened = λ from later here mark. ⊎_elim
          (λ h. rw h.0 (Contains-push trail to))
          (λ h. Contains-append_left trail (to ∷ []) from (was.opened from later h.1 mark))
          (set_cases before to from _ later
          (subst (λ (nodes : List WalkNode). slice_get nodes from ≡ Some later) is here));
      within = λ k n at. ⊎_elim
          (λ front. let old = was.within k n front in omega arith)
          (λ h. let below = slice_get_within before to other next.other_at in
          rw (← h.1) (omega arith))
          (get_push_cases trail to k n at);
      chain = λ k from goal at at'. ⊎_elim
          (λ front. ⊎_elim
          (λ front'. was.chain k from goal front front')
          (λ h.
          let here : slice_get trail (length rest) ≡ Some top = get_pushed rest top in
          let index : k ≡ length rest = omega (arith, h.0, pushed rest top) in
          let from_is : from ≡ top = same_element trail k from top front (rw index here) in
          rw (from_is, ← h.1) (next_linked links before top to node other next))
          (get_push_cases trail to (suc k) goal at'))
          (λ h. let below = slice_get_within (trail ++ to ∷ []) (suc k) goal at'
          in absurd (omega (arith, h.0, pushed trail to)))
          (get_push_cases trail to k from at);
    }
  where
    pushed : (xs : List ℕ) (x : ℕ) → length (xs ++ x ∷ []) ≡ suc (length xs)
    pushed [] x = refl
    pushed (y ∷ ys) x = ap suc (pushed ys x)

pub walk_start : (links : List (Vec ℕ)) (before after : List WalkNode) (start : ℕ) (node : WalkNode)
    → IsWalk links before [] → slice_get before start ≡ Some node
    → after ≡ set before start (record { mark = Open; left = node.left })
    → IsWalk links after (start ∷ [])
walk_start links before after start node was at is =
    search (
      rules,
      length-set,
      slice_get_within,
      after_open,
      Contains-push,
      set_cases,
      get_push_cases,
    )

-- a number on a trail leads to the trail's last
goes_to_last : (links : List (Vec ℕ)) (rest : List ℕ) (top to : ℕ)
    → ((k from next : ℕ) → slice_get (rest ++ top ∷ []) k ≡ Some from
    → slice_get (rest ++ top ∷ []) (suc k) ≡ Some next → IsLinked links from next)
    → Contains rest to → Goes links to top
goes_to_last links [] top to chain has = absurd (omega (arith, has.1))
goes_to_last links (x ∷ []) top to chain (zero, below, is) =
    rw (sym is) (goes_on x top top (chain 0 x top refl refl) (goes_nowhere top))
goes_to_last links (x ∷ []) top to chain (suc k, below, is) = absurd (omega arith)
goes_to_last links (x ∷ y ∷ ys) top to chain (zero, below, is) =
    rw (sym is)
    (goes_on x y top (chain 0 x y refl refl)
    (goes_to_last links (y ∷ ys) top y (λ k. chain (suc k)) (Contains-first y ys)))
goes_to_last links (x ∷ y ∷ ys) top to chain (suc k, below, is) =
    goes_to_last links (y ∷ ys) top to (λ j. chain (suc j)) (k, omega arith, is)

pub walk_return : (links : List (Vec ℕ)) (before after : List WalkNode) (rest : List ℕ) (top : ℕ)
    → IsWalk links before (rest ++ top ∷ []) → IsWalkStep links before after top Return
    → HaveRound links
walk_return links before after rest top was (node, to, other, next, mark, apart) =
    let has : Contains rest to = ⊎_elim (λ front. front) (λ is. absurd (apart is))
    (Contains-push_cases _ _ _ (was.opened to other next.other_at mark)) in
    record {
      one = top;
      other = to;
      different = apart;
      there = goes_on top to to (next_linked _ _ _ _ _ _ next) (goes_nowhere to);
      back = goes_to_last _ _ _ _ was.chain has;
    }

-- numbers that were met stay so where one more mark is set
pub keeps_set : (nodes before after : List WalkNode) (i : ℕ) (old new : WalkNode)
    → KeepsMet nodes before
    → slice_get before i ≡ Some old → (old.mark ≢ New → new.mark ≢ New) → after ≡ set before i new
    → KeepsMet nodes after
keeps_set nodes before after i old new keeps at stays is n met later here =
    search (rules, keeps, met, set_cases)

pub met_set : (before after : List WalkNode) (i start : ℕ) (old new : WalkNode) → IsMet before start
    → slice_get before i ≡ Some old → (old.mark ≢ New → new.mark ≢ New) → after ≡ set before i new
    → IsMet after start
met_set before after i start old new met at stays is = search (rules, keeps_set, met)

-- the work that is left after one more mark is set
pub weight_set : (before after : List WalkNode) (i : ℕ) (old new : WalkNode)
    → slice_get before i ≡ Some old
    → after ≡ set before i new → sum_by weight after + weight old ≡ sum_by weight before
    + weight new
weight_set before after i old new at is =
    rw (is, sym (ap weight (get_or_from_slice_get _ i old old at)))
    (sum_by-set weight before i new old (slice_get_within before i old at))

-- before a walk
pub walk_none : (links : List (Vec ℕ)) (nodes : List WalkNode) → nodes ≡ map fresh links
    → IsWalk links nodes []
walk_none links nodes is = record {
  after = record {
    count = ap length is ∙ length-map links fresh;
    left = λ from node own at has. let same = fresh_at from node own at has
        in rw same (omega arith);
    passed = λ from node own k to at has enough leads apart.
        let same = fresh_at from node own at has in
        let below = slice_get_within own.items k to leads in
        let long : length own.items ≤ k = rw (sym (ap (λ (n : WalkNode). n.left) same)) enough in
        absurd (omega arith);
    closed = λ from node at mark.
        absurd (not_other from node Closed at mark (λ e. let clash : Closed ≡ New = e in cc));
  };
  opened = λ from node at mark.
      absurd (not_other from node Open at mark (λ e. let clash : Open ≡ New = e in cc));
  within = λ k n at. absurd cc;
  chain = λ k from to at at'. absurd cc;
}
  where
    fresh_at : (from : ℕ) (node : WalkNode) (own : Vec ℕ) → slice_get nodes from ≡ Some node
        → slice_get links from ≡ Some own → node ≡ fresh own
    fresh_at from node own at has = search (rules, slice_get-map)

    not_other : (from : ℕ) (node : WalkNode) (mark : Mark) → slice_get nodes from ≡ Some node
        → node.mark ≡ mark → mark ≢ New → ⊥
    not_other from node mark at is_mark other =
        let below = slice_get_within nodes from node at in
        let long : length nodes ≡ length links = ap length is ∙ length-map links fresh in
        let own = element_at _ from (omega arith) in
        other (sym is_mark ∙ ap (λ (n : WalkNode). n.mark) (fresh_at from node own.0 at own.1))

-- where all numbers were met and none is on the trail, all are grounded
pub all_grounded : (links : List (Vec ℕ)) (nodes : List WalkNode) → IsWalk links nodes []
    → ((n : ℕ) → n < length links → IsMet nodes n) → (n : ℕ) → n < length links → IsGrounded links n
all_grounded links nodes walk met n below =
    let found = element_at _ n (omega (arith, walk.after.count))
    in by_mark found.0 found.1 found.0.mark refl
  where
    by_mark : (node : WalkNode) → slice_get nodes n ≡ Some node → (mark : Mark) → node.mark ≡ mark
        → IsGrounded links n
    by_mark node at New is = absurd (met n below node at is)
    by_mark node at Open is = search rules
    by_mark node at Closed is = walk.after.closed n node at is

-- the last link that is left of a number, where one is
pub next_of : (links : List (Vec ℕ)) (nodes : List WalkNode) (top to : ℕ) (own : Vec ℕ)
    (d : WalkNode)
    → AreInner links → IsAfter links nodes → top < length links → own ≡ get_or links top own
    → ((get_or nodes top d).left ≡ 0 → ⊥) → to ≡ get_or own.items ((get_or nodes top d).left - 1) to
    → IsNextLink links nodes top (get_or nodes top d) to (get_or nodes to d)
next_of links nodes top to own d inner after below own_is some to_is =
    let node = get_or nodes top d in
    let at : slice_get nodes top ≡ Some node =
    slice_get-get_or nodes top d (omega (arith, after.count)) in
    let has : slice_get links top ≡ Some own = slice_get-get_or _ _ _ below
    ∙ ap Some (sym own_is) in
    let low = after.left top node own at has in
    let k = node.left - 1 in
    let leads : slice_get own.items k ≡ Some to = slice_get-get_or _ k to (omega arith)
    ∙ ap Some (sym to_is) in
    let within = inner top to (own, has, Contains-from_get own.items k to leads) in
    record {
      own = own;
      k = k;
      at = at;
      has = has;
      last = omega arith;
      leads = leads;
      other_at = slice_get-get_or nodes to d (omega (arith, after.count));
    }

pub next_within : (links : List (Vec ℕ)) (nodes : List WalkNode) (top to : ℕ)
    (node other : WalkNode)
    → IsNextLink links nodes top node to other → to < length nodes
next_within links nodes top to node other next = slice_get_within nodes to other next.other_at

-- What a step leaves: the walk goes on, with what was met, and less is left to do.
pub record Stepped (links : List (Vec ℕ)) (start : ℕ) (first before after : List WalkNode)
    (trail later : List ℕ) : Type 0 where
  pub walk : IsWalk links after later
  pub keeps : KeepsMet first after
  pub met : IsMet after start
  pub less : sum_by weight after + length later < sum_by weight before + length trail

-- a list and its last
split_last : (trail : List ℕ) (top : ℕ) → slice_get trail (length trail - 1) ≡ Some top → trail
    ≡ take (length trail - 1) trail ++ top ∷ []
split_last trail top at =
    let below = slice_get_within trail (length trail - 1) top at in
    sym (take_all (length trail - 1 + 1) trail (omega arith))
    ∙ take_more _ _ _ below
    ∙ ap (λ t. take (length trail - 1) trail ++ t ∷ [])
    (get_or_from_slice_get trail (length trail - 1) top top at)

longer : (xs : List ℕ) (x : ℕ) → length (xs ++ x ∷ []) ≡ suc (length xs)
longer [] x = refl
longer (y ∷ ys) x = ap suc (longer ys x)

pub stepped_leave : (links : List (Vec ℕ)) (start : ℕ) (first before after : List WalkNode)
    (trail later : List ℕ) (top : ℕ) → IsWalk links before trail → KeepsMet first before
    → IsMet before start
    → slice_get trail (length trail - 1) ≡ Some top → IsWalkStep links before after top Leave
    → later
    ≡ take (length trail - 1) trail → Stepped links start first before after trail later
stepped_leave links start first before after trail later top walk keeps met at step later_is =
    let rest = take (length trail - 1) trail in
    let parts = split_last _ _ at in
    let new : WalkNode = record { mark = Closed; left = 0 } in
    let other : new.mark ≢ New = λ e. absurd cc in
    let weights = weight_set _ _ _ _ _ step.1 step.3 in
    let lengths : length trail ≡ suc (length rest) = ap length parts ∙ longer _ _ in
    subst (Stepped links start first before after trail) (sym later_is) (record {
      walk = walk_leave _ _ _ _ _ (subst (IsWalk links before) parts walk) step;
      keeps = keeps_set _ _ _ _ _ _ keeps step.1 (λ was. other) step.3;
      met = met_set _ _ _ _ _ _ met step.1 (λ was. other) step.3;
      less = omega (arith, weights, lengths);
    })

pub stepped_pass : (links : List (Vec ℕ)) (start : ℕ) (first before after : List WalkNode)
    (trail : List ℕ) (top : ℕ) → IsWalk links before trail → KeepsMet first before
    → IsMet before start
    → IsWalkStep links before after top Pass → Stepped links start first before after trail trail
stepped_pass links start first before after trail top walk keeps met
    (node, to, other, next, passes, k, last, is) =
    let weights = weight_set _ _ _ _ _ next.at is in
    record {
      walk = walk_pass _ _ _ _ _ walk
          (node, to, other, next, passes, k, last, is);
      keeps = keeps_set _ _ _ _ _ _ keeps next.at (λ was. was) is;
      met = met_set _ _ _ _ _ _ met next.at (λ was. was) is;
      less = omega (arith, weights, last);
    }

pub stepped_enter : (links : List (Vec ℕ)) (start : ℕ) (first before after : List WalkNode)
    (trail later : List ℕ) (top to : ℕ) → IsWalk links before trail → KeepsMet first before
    → IsMet before start
    → slice_get trail (length trail - 1) ≡ Some top → IsWalkStep links before after top (Enter to)
    → later ≡ trail ++ to ∷ [] → Stepped links start first before after trail later
stepped_enter links start first before after trail later top to walk keeps met at
    (node, other, next, is_new, is) later_is =
    let parts = split_last _ _ at in
    let new : WalkNode = record { mark = Open; left = other.left } in
    let apart : new.mark ≢ New = λ e. absurd cc in
    let weights = weight_set _ _ _ _ _ next.other_at is in
    let heavy : weight other ≡ 2 + other.left = ap (λ (m : Mark). mark_weight m + other.left) is_new
    in
    subst (Stepped links start first before after trail) (sym later_is) (record {
      walk = subst (λ (t : List ℕ). IsWalk links after (t ++ to ∷ [])) (sym parts)
          (walk_enter _ _ _ _ _ _ (subst (IsWalk links before) parts walk)
          (node, other, next, is_new, is));
      keeps = keeps_set _ _ _ _ _ _ keeps next.other_at (λ was. apart) is;
      met = met_set _ _ _ _ _ _ met next.other_at (λ was. apart) is;
      less = omega (arith, weights, heavy, longer trail to);
    })

-- a step that leads back to the trail makes a round
pub stepped_return : (links : List (Vec ℕ)) (before after : List WalkNode) (trail : List ℕ)
    (top : ℕ)
    → IsWalk links before trail → slice_get trail (length trail - 1) ≡ Some top
    → IsWalkStep links before after top Return → HaveRound links
stepped_return links before after trail top walk at step =
    walk_return links before after (take (length trail - 1) trail) top
    (subst (IsWalk links before) (split_last trail top at) walk) step

-- what is known when a walk begins at a number that wasn't met
pub started : (links : List (Vec ℕ)) (start : ℕ) (first after : List WalkNode) (d : WalkNode)
    → IsWalk links first [] → start < length links
    → after ≡ set first start (record { mark = Open; left = (get_or first start d).left })
    → IsWalk links after (start ∷ []) × KeepsMet first after × IsMet after start
started links start first after d walk below is =
    search (rules, slice_get-get_or, walk_start, walk, keeps_set, set_cases)

-- a number that isn't new was met
pub met_at : (nodes : List WalkNode) (n : ℕ) (d : WalkNode) → ((get_or nodes n d).mark ≢ New)
    → IsMet nodes n
met_at nodes n d other node at is = search (rules, get_or_from_slice_get)
