use Rattle.std.proofs.Common.{◌≡◌, ◌∙◌, ◌++◌, List, Option, map, sym, ap, ℕ, rules}
use Rattle.run_states.specs.StateTables.{listed}
use Rattle.run_states.specs.StateLists.{kept}
use Rattle.run_states.specs.Nearest.{Open}
use Rattle.run_states.specs.States.{is_good, is_open}
use Rattle.run_states.specs.NodeStates.{Hears, IsMemo, news_in, states_in}
use Rattle.run_states.specs.declared.state.State.{State}
use Rattle.run_states.specs.declared.node_states.NodeState.{NodeState}
use Rattle.run_states.proofs.ToldStates.{hears_inputs, hears_open, hears_released, listed_low, memo_state}
use Rattle.run_states.proofs.node_states.memo_of.Goals as goal

-- what is so of each twin is so of the one that was read
by_twin : (inputs : List ℕ) (state_of : ℕ → State) (memo heard : NodeState) {twin read : Option ℕ}
    → twin ≡ read
    → (IsMemo (record { inputs = inputs; twins = listed read })
    (news_in state_of inputs ++ map (λ u. Open) (listed read)) memo
    → Hears (record { inputs = inputs; twins = listed read }) state_of (λ index. 0) heard)
    → IsMemo (record { inputs = inputs; twins = listed twin })
    (news_in state_of inputs ++ map (λ u. Open) (listed twin)) memo
    → Hears (record { inputs = inputs; twins = listed twin }) state_of (λ index. 0) heard
by_twin inputs state_of memo heard same = search rules

pub returns-else-is_open-clause-hears : goal.returns-else-is_open-clause-hears
returns-else-is_open-clause-hears c =
    let memos = c.args.memos.now in
    let t = c.in-Some.t in
    let state_of = kept (states_in memos) in
    let there = memo_state _ t _
    (listed_low _ t _ c.in-Some.is c.requires.twin) in
    by_twin _ state_of _ _ c.in-Some.is
    (λ is. hears_released _ t state_of _ is _
    _ (c.serves.ensures ∙ ap is_good there)
    (sym (ap is_open there) ∙ sym c.is_open.ensures
    ∙ c.if-is_open.false) c.hear_twin_end.ensures.is)
    c.memo_by_inputs-memo.ensures.is

pub returns-then-is_open-clause-hears : goal.returns-then-is_open-clause-hears
returns-then-is_open-clause-hears c =
    let memos = c.args.memos.now in
    let inputs = c.args.inputs.now in
    let t = c.in-Some.t in
    let state_of = kept (states_in memos) in
    let there = memo_state _ t _
    (listed_low _ t _ c.in-Some.is c.requires.twin) in
    by_twin _ state_of _ _ c.in-Some.is
    (λ is. hears_open inputs t state_of c.memo_by_inputs-memo.result is
    (sym (ap is_open there) ∙ sym c.is_open.ensures ∙ c.if-is_open.true))
    c.memo_by_inputs-memo.ensures.is

pub returns-in_default-clause-hears : goal.returns-in_default-clause-hears
returns-in_default-clause-hears c = search (rules, by_twin, hears_inputs)
