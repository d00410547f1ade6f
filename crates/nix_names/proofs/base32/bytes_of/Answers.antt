use Rattle.std.proofs.Common.{◌∙◌, arith}
use Rattle.std.proofs.lemmas.List.{take_all}
use Rattle.nix_names.specs.Base32.{digits_of, text_number}
use Rattle.nix_names.proofs.Base32Digits.{length_digits_of, digits_of_push}
use Rattle.nix_names.proofs.base32.bytes_of.Goals as goal

pub loop-at-preserved : goal.loop-at-preserved
loop-at-preserved c = record {
  first = digits_of_push 256 c.args.n (text_number c.args.text.now) c.loop-at.at
      c.loop-at.bytes.items c.push_reserved.new.self.items c.byte_of.result
      c.loop-at-test.true c.loop-at.invariant.first c.byte_of.ensures c.push_reserved.ensures.items;
  count = omega arith;
  room = c.push_reserved.ensures.capacity ∙ c.loop-at.invariant.room;
}

pub returns-clause-value : goal.returns-clause-value
returns-clause-value c =
    let number = text_number c.args.text.now in
    c.loop-at.invariant.first ∙ take_all c.loop-at.at (digits_of 256 c.args.n number)
    (omega (arith, length_digits_of 256 c.args.n number))
