use Rattle.std.proofs.Common.{◌∙◌, ap, map, subst, sym, true}
use Rattle.std.proofs.lemmas.Bool.{false≢true}
use Rattle.nix_names.specs.Keys.{key_of}
use Rattle.nix_names.specs.StorePaths.{hash_part_of}
use Rattle.ref_scan.specs.private.Parts.{ArePartsOf, IsSieve}
use Rattle.ref_scan.proofs.RisingKeys.{keys_of_parts, parts_by_key}
use Rattle.ref_scan.proofs.index.Index.by_key.Goals as goal

pub invariant_of-result : goal.invariant_of-result
invariant_of-result c = record {
  of_parts = c.requires.keys ∙ ap (map key_of) (sym c.in_ok-copies.ensures.items)
      ∙ keys_of_parts c.in_ok-copies.field-0.items;
  rising = λ _. c.requires.rising;
  sorted = λ no. absurd (false≢true (sym no));
  sieved = subst (λ keys. IsSieve keys c.in_ok-sieve.sieve.items) c.deref.ensures.value
      c.in_ok-sieve.ensures;
}

pub returns-clause-parts : goal.returns-clause-parts
returns-clause-parts c =
    subst (λ paths. ArePartsOf c.args.paths.now (map hash_part_of paths) true)
    (sym c.in_ok-copies.ensures.items)
    (parts_by_key c.args.paths.now c.args.keys.items c.requires.are_paths c.requires.keys
    c.requires.rising)
