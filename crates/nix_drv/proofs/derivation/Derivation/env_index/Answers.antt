use Rattle.std.proofs.Common.{rules}
use Rattle.std.specs.Cmp.Lexicographic.{slice_cmp}
use Rattle.std.specs.Ordering.{nat_cmp}
use Rattle.nix_drv.specs.declared.derivation.EnvEntry.{EnvEntry}
use Rattle.nix_drv.proofs.Indices.{entry_keys, env_rises_here, always_answers}
use Rattle.nix_drv.proofs.Searches.{key_found, key_none}
use Rattle.nix_drv.proofs.derivation.Derivation.env_index.Goals as goal

pub returns-in-Ok-clause-found : goal.returns-in-Ok-clause-found
returns-in-Ok-clause-found c = key_found (λ (o : EnvEntry). o.key.items) _ _ _ _
    (entry_keys c.self.inside.parts c.args.self.now _ (cc) c.deref.ensures.value)
    c.in-Ok.ensures.bound
    (c.in-Ok.ensures.position (λ (o : EnvEntry). slice_cmp nat_cmp o.key.items c.args.key.now)
    (always_answers _ _ _ (λ a r q k. search rules)))

pub returns-in-Ok-clause-rising : goal.returns-in-Ok-clause-rising
returns-in-Ok-clause-rising c = search (rules, env_rises_here)

pub returns-in-Err-clause-found : goal.returns-in-Err-clause-found
returns-in-Err-clause-found c = key_none (λ (o : EnvEntry). o.key.items) _ _ c.args.key.now _
    (entry_keys c.self.inside.parts c.args.self.now _ (cc) c.deref.ensures.value)
    (env_rises_here c.self.inside.parts c.args.self.now (cc) c.self.invariant)
    (c.in-Err.ensures.position (λ (o : EnvEntry). slice_cmp nat_cmp o.key.items c.args.key.now)
    (always_answers _ _ _ (λ a r q k. search rules)))

pub returns-in-Err-clause-rising : goal.returns-in-Err-clause-rising
returns-in-Err-clause-rising c = search (rules, env_rises_here)
