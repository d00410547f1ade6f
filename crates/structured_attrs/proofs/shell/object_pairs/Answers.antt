use Rattle.std.proofs.Common.{◌≡◌, ℕ, List, ◌∷◌, ◌++◌, Bool, true, false, Option, Some, None, MatchOption, option_and_then, true≢false, refl, sym, ap, ◌∙◌, rules}
use Rattle.serde_json.specs.Data.{member}
use Rattle.serde_json.specs.View.{view, members_view}
use Rattle.serde_json.proofs.Views.{Entry}
use Rattle.structured_attrs.specs.ShellTexts.{pair_text, pairs_of, word_of}
use Rattle.structured_attrs.proofs.Gathered.{gathered, gathered-more}
use Rattle.structured_attrs.proofs.shell.object_pairs.Goals as goal

-- a pair that was added joins the pairs before it
joins : (o : Option (List ℕ)) (key : List ℕ) (rest : Option (List ℕ)) (simple : Bool) (old new : List ℕ) → simple ≡ true
    → MatchOption o (simple ≡ false) (λ word. (simple ≡ true) × (new ≡ old ++ pair_text key word))
    → gathered new rest ≡ gathered old (option_and_then (λ word. gathered (pair_text key word) rest) o)
joins None key rest simple old new is h = absurd (true≢false (sym is ∙ h))
joins (Some word) key rest simple old new is h =
    ap (λ bytes. gathered bytes rest) h.1 ∙ sym (gathered-more (pair_text key) old (Some word) word rest refl)

pub members-preserved : goal.members-preserved
members-preserved c =
    let l = c.members in
    let e : Entry = (c.in-Some.key.now, c.in-Some.member.now) in
    let left = c.next.new.self in
    let step : l.key-iterator ≡ e ∷ left = c.in-Some.ensures.steps in
    let simple : c.in_ok-push_pair.field-0 ≡ true = search rules in
    joins (word_of (view e.1)) c.as_str.result.now (pairs_of (members_view left)) c.in_ok-push_pair.field-0 l.pairs.items c.push_pair.new.out.items simple c.in_ok-push_pair.ensures
    ∙ ap (λ key. gathered l.pairs.items (pairs_of (member key (view e.1) (members_view left)))) c.as_str.ensures.value
    ∙ ap (λ es. gathered l.pairs.items (pairs_of (members_view es))) (sym step) ∙ l.invariant
