use Rattle.std.proofs.Common.{◌≡◌, ◌∙◌, ◌⊎◌, Bool, false, inr, refl, subst, sym, Option, None, Some, rules}
use Rattle.std.proofs.lemmas.Bool.{false≢true}
use Rattle.std.specs.Option.{is_some}
use Rattle.std.specs.Prelude.{MatchOption}
use Rattle.sched_core.specs.Books.{IsBeginning}
use Rattle.store_run.specs.private.Sharing.{IsOver, IsRefused, IsWaiting, Share}
use Rattle.store_run.proofs.Answered.{after_beginning, told_at}
use Rattle.store_run.proofs.Bases.{over_beginning}
use Rattle.store_run.proofs.shared.Shared.step.Goals as goal

pub invariant_of-self : goal.invariant_of-self
invariant_of-self g c = search (rules, after_beginning, over_beginning)

-- src/shared.rt:62:5
pub returns-in-Ok-Some-clause-told : goal.returns-in-Ok-Some-clause-told
returns-in-Ok-Some-clause-told g c = search (rules, told_at)

-- an option is `None` if a test says that it has no value
none_where : {T : Type 0} (o : Option T) (found : Bool) → found ≡ is_some o → found ≡ false
    → o ≡ None
none_where None found is missing = refl
none_where (Some x) found is missing = absurd cc

pub returns-in-Err-clause-step : goal.returns-in-Err-clause-step
returns-in-Err-clause-step g c =
    let after : Share = record { book = c.next.new.book; stop = Some c.in-Err.refusal } in
    subst (λ (s : Share). IsOver s after ⊎ IsRefused s after) c.self.view_is (inr (record {
      runs = none_where _ c.is_some.result c.is_some.ensures c.if-is_some.false;
      can = c.in-Err.ensures.some;
      same = c.in-Err.ensures.same;
      fault = c.in-Err.refusal;
      is_fault = c.in-Err.ensures.err;
      stops = refl;
    }))

-- what holds where an option has no value
where_none : {T A : Type 0} (o : Option T) (B : T → Type 0) → o ≡ None → MatchOption o A B → A
where_none None B none holds = holds
where_none (Some x) B none holds = absurd cc

pub returns-in-Ok-None-clause-step : goal.returns-in-Ok-None-clause-step
returns-in-Ok-None-clause-step g c =
    let after : Share = record { book = c.next.new.book; stop = c.self.inside.stop } in
    let next = where_none c.in-Ok-None.field-0
    (λ lease. IsBeginning c.self.inside.book c.next.new.book lease.job lease.number)
    c.in-Ok-None.field-0-is c.in-Ok-None.ensures.none in
    subst (λ (s : Share). IsWaiting s after) c.self.view_is (record {
      runs = none_where _ c.is_some.result c.is_some.ensures c.if-is_some.false;
      unsettled = λ is. false≢true (sym c.if-settled.false ∙ c.settled.ensures.1 is);
      none = next.1;
      same = λ i. record { book = next.0 i; stop = c.self.inside.stop };
    })
