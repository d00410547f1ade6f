use Rattle.std.proofs.Math.ListN.{replicate}
use Rattle.nix_archive.specs.private.Takes.{Unheard}
use Rattle.std.proofs.Common.{◌-◌, arith, [], ◌∷◌, ◌≡◌, sym, subst}
use Rattle.nix_archive.specs.Parts.{After}
use Rattle.nix_archive.specs.Rests.{reader_rest}
use Rattle.nix_archive.specs.Reading.{IsStep}
use Rattle.nix_archive.specs.private.Takes.{now_rest}
use Rattle.nix_archive.proofs.Wholes.{text_no, text_step, zero_no, zero_step}
use Rattle.nix_archive.proofs.reader.ArchiveReader.take_fixed.Goals as goal

pub returns-then-byte-ne0 : goal.returns-then-byte-ne0
unfolding reader_rest
returns-then-byte-ne0 c =
    zero_no c.args.self.now.zeros (c.args.self.now.zeros - 1) c.args.byte
    (After c.args.self.now.text.now (now_rest c.args.self.now)) (omega arith) (omega arith)

pub returns-then-self-ne0 : goal.returns-then-self-ne0
unfolding reader_rest
returns-then-self-ne0 c =
    let P = After c.args.self.now.text.now (now_rest c.args.self.now) in
    let e : c.args.byte ≡ 0 = omega arith in
    subst (λ b. IsStep Unheard 0 0 (reader_rest c.args.self.now)
    (After (replicate (c.args.self.now.zeros - 1) 0) P) (b ∷ [])) (sym e)
    (zero_step c.args.self.now.zeros (c.args.self.now.zeros - 1) P (omega arith))

pub returns-then-byte-first : goal.returns-then-byte-first
unfolding reader_rest
returns-then-byte-first c =
    text_no c.args.self.now.zeros c.in-Some.first.now c.args.byte c.args.self.now.text.now
    c.in-Some.rest.now
    (now_rest c.args.self.now) (omega arith) c.in-Some.ensures.cases.0 (omega arith)

pub returns : goal.returns
unfolding reader_rest
returns c =
    let e : c.args.byte ≡ c.in-Some.first.now = omega arith in
    subst (λ b. IsStep Unheard 0 0 (reader_rest c.args.self.now)
    (After (replicate c.args.self.now.zeros 0)
    (After c.in-Some.rest.now (now_rest c.args.self.now))) (b ∷ []))
    (sym e) (text_step c.args.self.now.zeros c.in-Some.first.now c.args.self.now.text.now
    c.in-Some.rest.now
    (now_rest c.args.self.now) (omega arith) c.in-Some.ensures.cases.0)
