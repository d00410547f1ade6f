use Rattle.std.proofs.Common.{◌≡◌, ◌∙◌, ◌<◌, arith, get_or, length, set, subst, sym, take}
use Rattle.std.specs.Prelude.{All}
use Rattle.std.proofs.lemmas.List.{get_or_default, length-set, take_more}
use Rattle.ref_scan.specs.private.Parts.{LetsThrough}
use Rattle.ref_scan.proofs.Indexing.{Sieves, sieve_more}
use Rattle.ref_scan.proofs.index.sieve_of.Goals as goal

pub loop-key-preserved : goal.loop-key-preserved
loop-key-preserved c =
    let keys = c.args.keys.now in
    let i = c.loop-key.key-index in
    let key = get_or keys i 0 in
    let first = c.to_be_bytes-first.result in
    let sieve = c.loop-key.sieve.items in
    let slots = c.slot_count-slots.result in
    let slot = c.slot_of-slot.result in
    let new = c.both.result in
    let held = c.loop-key.invariant in
    let fits : slot < length sieve = omega (arith, held.slots, c.slot_of-slot.ensures.within) in
    let read : c.index.result.now ≡ get_or sieve slot 0 = c.index.ensures
    ∙ get_or_default sieve slot c.index.result.now 0 fits in
    record {
      slots = length-set sieve slot new ∙ held.slots;
      each =
          subst (All (Sieves slots (set sieve slot new)))
          (sym (take_more keys i 0 c.loop-key-test.true))
          (sieve_more (take i keys) sieve first key slots slot new c.to_be_bytes-first.ensures
          c.slot_of-slot.ensures.value fits
          (subst (LetsThrough new) c.tag_of.ensures c.both.ensures.new)
          (λ other old. c.both.ensures.old other
          (subst (λ h. LetsThrough h other) (sym read) old)) held.each);
    }
