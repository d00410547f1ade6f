use Rattle.std.proofs.Common.{◌≡◌, All, false, take}
use Rattle.std.specs.Prelude.{nat_eq}
use Rattle.std.specs.List.{starts_with}
use Rattle.process_build.proofs.process.placeholders.Placeholders.at.Given as goal

-- none of the placeholders so far begins the text
abbrev pub invariant-loop-placeholder : goal.invariant-loop-placeholder
invariant-loop-placeholder l =
    All (λ p. starts_with nat_eq l.text p.text.items ≡ false)
    (take l.placeholder-index l.self.all.items)
