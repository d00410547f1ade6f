use Rattle.std.proofs.Common.{◌≡◌, ◌-◌, ℕ, List, Some, length, take, rules}
use Rattle.std.specs.List.{slice_get}
use Rattle.build_outcome.proofs.Walks.{stepped_enter, stepped_leave, stepped_pass, stepped_return}
use Rattle.build_outcome.proofs.walk.walk_from.Goals as goal

-- the last of a list that was lent
at_last : {lent trail : List ℕ} {top : ℕ} → lent ≡ trail
    → Some top ≡ slice_get lent (length lent - 1) → slice_get trail (length trail - 1) ≡ Some top
at_last {top = top} same is = search rules

-- all but its last
but_last : {lent trail later : List ℕ} {n : ℕ} → lent ≡ trail → length lent ≡ n
    → later ≡ take (n - 1) trail → later ≡ take (length trail - 1) trail
but_last {trail = trail} same long is = search rules

pub loop-top-smaller-in_ok-push-in-Enter : goal.loop-top-smaller-in_ok-push-in-Enter
loop-top-smaller-in_ok-push-in-Enter c =
    let at = at_last c.deref.ensures.value c.in-Some.ensures.value in
    (stepped_enter _ _ _ _ _ _ _ _ _
    c.loop-top.invariant.walk c.loop-top.invariant.keeps c.loop-top.invariant.met at
    c.in-Enter.ensures c.in_ok-push-in-Enter.ensures.items).less

pub loop-top-preserved-in_ok-push-in-Enter : goal.loop-top-preserved-in_ok-push-in-Enter
loop-top-preserved-in_ok-push-in-Enter c =
    let at = at_last c.deref.ensures.value c.in-Some.ensures.value in
    let done =
    stepped_enter _ _ _ _ _ _ _ _ _
    c.loop-top.invariant.walk c.loop-top.invariant.keeps c.loop-top.invariant.met at
    c.in-Enter.ensures c.in_ok-push-in-Enter.ensures.items in
    record { walk = done.walk; keeps = done.keeps; met = done.met }

pub loop-top-smaller-in-Leave : goal.loop-top-smaller-in-Leave
loop-top-smaller-in-Leave c =
    let at = at_last c.deref.ensures.value c.in-Some.ensures.value in
    let rest = but_last c.deref.ensures.value c.deref.ensures.len c.pop.ensures.rest in
    (stepped_leave _ _ _ _ _ _ _ _
    c.loop-top.invariant.walk c.loop-top.invariant.keeps c.loop-top.invariant.met at
    c.in-Leave.ensures rest).less

pub loop-top-preserved-in-Leave : goal.loop-top-preserved-in-Leave
loop-top-preserved-in-Leave c =
    let at = at_last c.deref.ensures.value c.in-Some.ensures.value in
    let rest = but_last c.deref.ensures.value c.deref.ensures.len c.pop.ensures.rest in
    let done =
    stepped_leave _ _ _ _ _ _ _ _
    c.loop-top.invariant.walk c.loop-top.invariant.keeps c.loop-top.invariant.met at
    c.in-Leave.ensures rest in
    record { walk = done.walk; keeps = done.keeps; met = done.met }

pub loop-top-smaller : goal.loop-top-smaller
loop-top-smaller c =
    (stepped_pass _ _ _ _ _ _ _
    c.loop-top.invariant.walk c.loop-top.invariant.keeps c.loop-top.invariant.met
    c.in-Pass.ensures).less

pub loop-top-preserved : goal.loop-top-preserved
loop-top-preserved c =
    let done =
    stepped_pass _ _ _ _ _ _ _
    c.loop-top.invariant.walk c.loop-top.invariant.keeps c.loop-top.invariant.met c.in-Pass.ensures
    in
    record { walk = done.walk; keeps = done.keeps; met = done.met }

pub returns-in-Return : goal.returns-in-Return
returns-in-Return c =
    let at = at_last c.deref.ensures.value c.in-Some.ensures.value in
    stepped_return _ _ c.advance.new.nodes _ _ c.loop-top.invariant.walk at c.in-Return.ensures
