-- Derivations that are equal by `==` are the same.
use Rattle.std.proofs.Common.{◌≡◌, ◌∙◌, Bool, Decides, ◌&&◌, List, ap, map, nat_eq, sym, rules}
use Rattle.std.specs.Cmp.Lexicographic.{bytes_decides, pointwise, pointwise_decides}
use Rattle.std.specs.Cmp.Derive.Mapped.{pointwise-map}
use Rattle.std.proofs.lemmas.Bool.{and_from, and_parts}
use Rattle.nix_drv.specs.Derivation.{Drv, EnvEntry, Input, Output}
use Rattle.nix_drv.specs.Equality.{EqualDerivationsAreSame, same_build, same_drv, same_entry, same_input, same_output, same_paths}

-- two tests, each of one part
both : {P Q : Type 0} (a b : Bool) → Decides a P → Decides b Q → Decides (a && b) (P × Q)
both a b first second = search (rules, and_parts, and_from)

-- a test of a statement is one of another that says the same
also : {P Q : Type 0} (a : Bool) → Decides a P → (P → Q) → (Q → P) → Decides a Q
also a test on back = search rules

outputs_decide : (a b : Output) → Decides (same_output a b) (a ≡ b)
outputs_decide a b = search (rules, also, both, nat_eq)

inputs_decide : (a b : Input) → Decides (same_input a b) (a ≡ b)
inputs_decide a b =
    also _
    (both _ _
    (bytes_decides a.path b.path) (pointwise_decides bytes_decides a.names b.names))
    (λ p j. record { path = p.0 j; names = p.1 j })
    (λ e. (ap (λ (i : Input). i.path) e, ap (λ (i : Input). i.names) e))

entries_decide : (a b : EnvEntry) → Decides (same_entry a b) (a ≡ b)
entries_decide a b = search (rules, also, both, nat_eq)

paths_decide : (a b : Drv) → Decides (same_paths a b)
    (((a.outputs ≡ b.outputs) × (a.inputs ≡ b.inputs)) × (a.sources ≡ b.sources))
paths_decide a b =
    both _
    _
    (both _ _
    (pointwise_decides outputs_decide a.outputs b.outputs)
    (pointwise_decides inputs_decide a.inputs b.inputs))
    (pointwise_decides bytes_decides a.sources b.sources)

build_decide : (a b : Drv) → Decides (same_build a b)
    ((((a.system ≡ b.system) × (a.builder ≡ b.builder)) × (a.args ≡ b.args)) × (a.env ≡ b.env))
build_decide a b =
    both _
    _
    (both _ _
    (both _ _
    (bytes_decides a.system b.system) (bytes_decides a.builder b.builder))
    (pointwise_decides bytes_decides a.args b.args))
    (pointwise_decides entries_decide a.env b.env)

pub drvs_decide : (a b : Drv) → Decides (same_drv a b) (a ≡ b)
drvs_decide a b = search (rules, also, both, paths_decide, build_decide)

-- lists are equal as they are seen
pub seen_alike : {A B : Type 0} (same : B → B → Bool) (view : A → B) (xs ys : List A)
    (seen others : List B) (r : Bool)
    → map view xs ≡ seen → map view ys ≡ others → r
    ≡ pointwise (λ a b. same (view a) (view b)) xs ys → r ≡ pointwise same seen others
seen_alike same view xs ys seen others r first second is =
    is ∙ sym (pointwise-map view same xs ys) ∙ ap (λ l. pointwise same l (map view ys)) first
    ∙ ap (λ l. pointwise same seen l) second

-- the law, as it is stated
pub equal_derivations_are_same : EqualDerivationsAreSame
equal_derivations_are_same a b = drvs_decide a b
