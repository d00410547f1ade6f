use Rattle.std.proofs.Common.{sym, subst, ◌∙◌, arith}
use Rattle.std.proofs.lemmas.List.{take_all}
use Rattle.nix_names.specs.Base32.{base32, StandsFor}
use Rattle.nix_names.proofs.Base32Bits.{bytes_below}
use Rattle.nix_names.proofs.Base32Texts.{length_base32, base32_push, base32_stands}
use Rattle.nix_names.proofs.base32.base32_text.Goals as goal

pub loop-i-preserved : goal.loop-i-preserved
loop-i-preserved c = record {
  first = base32_push c.args.bytes.now c.loop-i.text.items c.push_reserved.new.self.items
      c.loop-i.i c.text_len-len.result c.digit_at.result c.digit_char.result
      (omega arith) c.text_len-len.ensures c.loop-i.invariant.first c.digit_at.ensures
      c.digit_char.ensures c.push_reserved.ensures.items;
  count = omega arith;
  room = c.push_reserved.ensures.capacity ∙ c.loop-i.invariant.room;
}

pub returns-clause-text : goal.returns-clause-text
returns-clause-text c =
    c.loop-i.invariant.first ∙ take_all c.loop-i.i (base32 c.args.bytes.now)
    (omega (arith, length_base32 c.args.bytes.now))

pub returns-clause-stands : goal.returns-clause-stands
returns-clause-stands c =
    subst (λ t. StandsFor t c.args.bytes.now) (sym (returns-clause-text c))
    (base32_stands c.args.bytes.now (bytes_below c.args.bytes.now c.type_inv.bytes))
