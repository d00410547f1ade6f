use Rattle.std.proofs.Common.{ap, map, rules}
use Rattle.std.specs.Cmp.Lexicographic.{slice_cmp}
use Rattle.std.specs.Ordering.{nat_cmp}
use Rattle.nix_drv.specs.Parts.{bytes_of, input_of}
use Rattle.nix_drv.proofs.Indices.{always_answers, input_at, names_rise_here, used_found, used_none}
use Rattle.nix_drv.proofs.Searches.{key_found, key_none}
use Rattle.nix_drv.proofs.derivation.Derivation.uses.Goals as goal

pub returns-in-Ok : goal.returns-in-Ok
returns-in-Ok c =
    let input = c.index.result.now in
    let at = input_at c.self.inside.parts c.args.self.now c.args.input input (cc) c.requires
    c.index.ensures in
    used_found c.args.self.now.inputs c.args.input _ _ _ at
    (key_found bytes_of _ _ _ _ (ap (map bytes_of) c.deref.ensures.value)
    c.in-Ok.ensures.bound
    (c.in-Ok.ensures.position (λ used. slice_cmp nat_cmp used.items c.args.name.now)
    (always_answers _ _ _ (λ a r q k. search rules))))

pub returns-in-Err : goal.returns-in-Err
returns-in-Err c =
    let input = c.index.result.now in
    let at = input_at c.self.inside.parts c.args.self.now c.args.input input (cc) c.requires
    c.index.ensures in
    used_none c.args.self.now.inputs c.args.input (input_of input) _ at
    (key_none bytes_of _ _ c.args.name.now _ (ap (map bytes_of) c.deref.ensures.value)
    (names_rise_here c.self.inside.parts c.args.self.now _ _ (cc) c.self.invariant at)
    (c.in-Err.ensures.position (λ used. slice_cmp nat_cmp used.items c.args.name.now)
    (always_answers _ _ _ (λ a r q k. search rules))))
