use Rattle.std.proofs.Common.{rules, ◌≡◌, ◌<◌, ◌≤◌, ℕ, List, [], ◌∷◌, ap₂, arith, codes, get_or, length, map, Bor}
use Rattle.command_line.specs.Usage.{AskForFaults}
use Rattle.command_line.proofs.words.asks_for_faults.Goals as goal

-- three words, of which the last two are these
three : (words : List (Bor (List ℕ))) (d : Bor (List ℕ)) → 3 ≤ length words → length words < 4
    → (get_or words 1 d).now ≡ codes "help" → (get_or words 2 d).now ≡ codes "faults"
    → AskForFaults (map (λ w. w.now) words)
three [] d low high help faults = absurd (omega (arith, low))
three (a ∷ []) d low high help faults = absurd (omega (arith, low))
three (a ∷ b ∷ []) d low high help faults = absurd (omega (arith, low))
three (a ∷ b ∷ e ∷ []) d low high help faults =
    (a.now, ap₂ (λ x y. a.now ∷ x ∷ y ∷ []) help faults)
three (a ∷ b ∷ e ∷ f ∷ more) d low high help faults = absurd (omega (arith, high))

pub returns-in-help : goal.returns-in-help
returns-in-help c = (
  λ _. three c.args.words.now _ c.in-help.len_at_least c.in-help.len_below c.in-help.is-help
      c.in-help.is-faults,
  λ _. search rules,
)
