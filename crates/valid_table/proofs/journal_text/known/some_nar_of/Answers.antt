use Rattle.valid_table.proofs.NarTexts.{answered, no_hash, no_size}
use Rattle.valid_table.proofs.journal_text.known.some_nar_of.Goals as goal

pub returns-in_default-hash_of : goal.returns-in_default-hash_of
returns-in_default-hash_of c =
    no_hash _ c.in-Some.digits.now c.in-Some.length.now c.in-Some.ensures.0 c.in-Some.ensures.1
    c.in_default-hash_of.ensures

pub returns-in_default-decimal_of : goal.returns-in_default-decimal_of
returns-in_default-decimal_of c =
    no_size _ c.in-Some.digits.now c.in-Some.length.now c.in-Some.ensures.0 c.in-Some.ensures.1
    c.in_default-decimal_of.ensures

pub returns : goal.returns
returns c =
    answered _ c.in-Some.digits.now c.in-Some.length.now c.in-Some-hash_of.hash
    c.in-Some-decimal_of.size _ c.in-Some.ensures.0 c.in-Some.ensures.1
    c.in-Some-hash_of.ensures c.in-Some-decimal_of.ensures c.new.ensures
