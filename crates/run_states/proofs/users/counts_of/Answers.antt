use Rattle.std.proofs.Common.{◌≡◌, ◌∙◌, ◌+◌, ◌++◌, ◌<◌, ℕ, List, None, ap, arith, get_or, length, length-append, subst, sum, sym, take}
use Rattle.std.specs.Prelude.{All, slice_get}
use Rattle.std.proofs.lemmas.List.{take_at}
use Rattle.run_states.specs.StateTables.{all_of, awaited_at, listed}
use Rattle.run_states.specs.Runs.{inputs_at}
use Rattle.run_states.specs.UserSpans.{often, pairs, uses}
use Rattle.run_states.proofs.UserCounts.{is_listed, often_both, pairs_grow, pairs_next, uses_next}
use Rattle.run_states.proofs.users.counts_of.Goals as goal

pub count_inputs-requires-clause-few : goal.count_inputs-requires-clause-few
count_inputs-requires-clause-few c =
    let plan = c.args.plan.now in
    let user = c.loop-user.user in
    let awaited = λ (d : ℕ). all_of (awaited_at plan c.args.twins.now d) in
    let low : user < length plan.nodes =
    omega (arith, c.loop-user-test.true, c.len-user-end.ensures.value) in
    omega (
      arith,
      c.loop-user.invariant.total,
      pairs_next awaited user,
      pairs_grow awaited (user + 1) (length plan.nodes) (omega (arith, low)),
      length-append (inputs_at plan.nodes (slice_get plan.nodes user))
          (listed (get_or c.args.twins.now user None)),
      ap length c.inputs_of.ensures.numbers,
      ap sum c.deref_mut.ensures.value,
      c.requires.few,
    )

-- a list written back over one as long
written : (P : List ℕ → Type 0) (new rest : List ℕ) (size : ℕ) → length new ≡ size → P new
    → P (take size (new ++ rest))
written P new rest size same is = subst P (sym (take_at new rest size same)) is

pub count_inputs-requires-in-loop-user-clause-within :
    goal.count_inputs-requires-in-loop-user-clause-within
count_inputs-requires-in-loop-user-clause-within c =
    let user = c.loop-user.user in
    let twin = is_listed _ _ c.as_slice.ensures in
    let size = c.count_inputs.ensures.size ∙ ap length c.deref_mut.ensures.value in
    let deref_is = c.deref_mut-in-loop-user.ensures.value
    ∙ take_at c.count_inputs.new.counts _ c.loop-user.counts.len
    (size ∙ sym c.loop-user.counts.ok.0) in
    let small = subst (All (λ t. t < user)) (sym twin) (c.requires.smaller user) in
    λ k d low. omega (
      arith,
      small k d low,
      c.loop-user-test.true,
      c.len-user-end.ensures.value,
      ap length deref_is,
      size,
      c.loop-user.invariant.size,
    )

pub count_inputs-requires-in-loop-user-clause-few :
    goal.count_inputs-requires-in-loop-user-clause-few
count_inputs-requires-in-loop-user-clause-few c =
    let plan = c.args.plan.now in
    let user = c.loop-user.user in
    let awaited = λ (d : ℕ). all_of (awaited_at plan c.args.twins.now d) in
    let low : user < length plan.nodes =
    omega (arith, c.loop-user-test.true, c.len-user-end.ensures.value) in
    let size = c.count_inputs.ensures.size ∙ ap length c.deref_mut.ensures.value in
    let deref_is = c.deref_mut-in-loop-user.ensures.value
    ∙ take_at c.count_inputs.new.counts _ c.loop-user.counts.len
    (size ∙ sym c.loop-user.counts.ok.0) in
    let twin = is_listed _ _ c.as_slice.ensures in
    omega (
      arith,
      c.loop-user.invariant.total,
      pairs_next awaited user,
      pairs_grow awaited (user + 1) (length plan.nodes) (omega (arith, low)),
      length-append (inputs_at plan.nodes (slice_get plan.nodes user))
          (listed (get_or c.args.twins.now user None)),
      ap length c.inputs_of.ensures.numbers,
      ap length twin,
      ap sum c.deref_mut.ensures.value,
      c.count_inputs.ensures.total,
      ap sum deref_is,
      c.requires.few,
    )

pub loop-user-preserved : goal.loop-user-preserved
loop-user-preserved c =
    let plan = c.args.plan.now in
    let user = c.loop-user.user in
    let own = inputs_at plan.nodes (slice_get plan.nodes user) in
    let twins = listed (get_or c.args.twins.now user None) in
    let awaited = λ (d : ℕ). all_of (awaited_at plan c.args.twins.now d) in
    let numbers = c.inputs_of.ensures.numbers in
    let twin = is_listed _ _ c.as_slice.ensures in
    let deref_is = c.deref_mut.ensures.value in
    let first = c.count_inputs.ensures in
    let first_size = first.size ∙ ap length deref_is ∙ sym c.loop-user.counts.ok.0 in
    let again = c.deref_mut-in-loop-user.ensures.value
    ∙ take_at c.count_inputs.new.counts _ c.loop-user.counts.len first_size in
    let second = c.count_inputs-in-loop-user.ensures in
    let counts = c.count_inputs-in-loop-user.new.counts in
    let size = second.size ∙ ap length again ∙ first_size in
    let all : length counts ≡ length plan.nodes =
    size ∙ c.loop-user.counts.ok.0 ∙ c.loop-user.invariant.size in
    record {
      size = written (λ l. length l ≡ length plan.nodes) _ _ _ size all;
      total = written (λ l. sum l ≡ pairs awaited (user + 1)) counts _ c.loop-user.counts.len size
          (omega (
            arith,
            second.total,
            ap sum again,
            ap length twin,
            first.total,
            ap sum deref_is,
            ap length numbers,
            c.loop-user.invariant.total,
            pairs_next awaited user,
            length-append own twins,
          ));
      each = λ n low. written (λ l. get_or l n 0 ≡ uses awaited (user + 1) n) counts _
          c.loop-user.counts.len size
          (omega (
            arith,
            second.each n (omega (arith, low, all, second.size)),
            ap (λ l. get_or l n 0) again,
            ap (often n) twin,
            first.each n (omega (arith, low, all, size, first_size, first.size)),
            ap (λ l. get_or l n 0) deref_is,
            ap (often n) numbers,
            c.loop-user.invariant.each n low,
            uses_next awaited user n,
            often_both n own twins,
          ));
    }
