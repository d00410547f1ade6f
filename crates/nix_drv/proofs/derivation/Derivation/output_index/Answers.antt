use Rattle.std.proofs.Common.{rules}
use Rattle.std.specs.Cmp.Lexicographic.{slice_cmp}
use Rattle.std.specs.Ordering.{nat_cmp}
use Rattle.nix_drv.specs.declared.derivation.Output.{Output}
use Rattle.nix_drv.proofs.Indices.{output_keys, outputs_rise_here, always_answers}
use Rattle.nix_drv.proofs.Searches.{key_found, key_none}
use Rattle.nix_drv.proofs.derivation.Derivation.output_index.Goals as goal

pub returns-in-Ok-clause-found : goal.returns-in-Ok-clause-found
returns-in-Ok-clause-found c = key_found (λ (o : Output). o.name.items) _ _ _ _
    (output_keys c.self.inside.parts c.args.self.now _ (cc) c.deref.ensures.value)
    c.in-Ok.ensures.bound
    (c.in-Ok.ensures.position (λ (o : Output). slice_cmp nat_cmp o.name.items c.args.name.now)
    (always_answers _ _ _ (λ a r q k. search rules)))

pub returns-in-Ok-clause-rising : goal.returns-in-Ok-clause-rising
returns-in-Ok-clause-rising c = search (rules, outputs_rise_here)

pub returns-in-Err-clause-found : goal.returns-in-Err-clause-found
returns-in-Err-clause-found c = key_none (λ (o : Output). o.name.items) _ _ c.args.name.now _
    (output_keys c.self.inside.parts c.args.self.now _ (cc) c.deref.ensures.value)
    (outputs_rise_here c.self.inside.parts c.args.self.now (cc) c.self.invariant)
    (c.in-Err.ensures.position (λ (o : Output). slice_cmp nat_cmp o.name.items c.args.name.now)
    (always_answers _ _ _ (λ a r q k. search rules)))

pub returns-in-Err-clause-rising : goal.returns-in-Err-clause-rising
returns-in-Err-clause-rising c = search (rules, outputs_rise_here)
