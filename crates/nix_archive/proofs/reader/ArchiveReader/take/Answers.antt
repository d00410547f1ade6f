use Rattle.std.proofs.lemmas.Grind.{common_steps}
use Rattle.nix_archive.specs.private.Takes.{IsTakenOf}
use Rattle.std.proofs.Common.{arith, rules, [], ◌∷◌, ◌≡◌, sym, subst, get_or}
use Rattle.nix_archive.specs.Rests.{reader_rest}
use Rattle.nix_archive.specs.private.Takes.{now_rest}
use Rattle.nix_archive.proofs.Ends.{taken_one, unfixed}
use Rattle.nix_archive.proofs.Wholes.{first_byte, same_back, taken_from, unheard}
use Rattle.nix_archive.proofs.reader.ArchiveReader.take.Goals as goal

pub returns-then-is_empty : goal.returns-then-is_empty
unfolding reader_rest
returns-then-is_empty g c =
    let none : c.args.self.now.zeros ≡ 0 = first_of (search rules, grind (arith, common_steps)) in
    let blank : c.args.self.now.text.now ≡ [] = first_of (search rules, grind (arith, common_steps))
    in
    taken_from g.H.Hear.heard c.args.hearer.now c.take_free.new.hearer
    (reader_rest c.take_free.new.self)
    c.args.piece.now c.in_ok-count.count
    (same_back (unfixed c.args.self.now.zeros c.args.self.now.text.now (now_rest c.args.self.now)
    none blank)) c.in_ok-count.ensures

pub returns : goal.returns
returns g c =
    let piece = c.args.piece.now in
    subst (λ n. IsTakenOf g.H.Hear.heard c.args.hearer.now c.args.hearer.now
    (reader_rest c.args.self.now)
    (reader_rest c.take_fixed-taken.new.self) piece n) (sym c.count_of.ensures)
    (taken_one g.H.Hear.heard c.args.hearer.now c.args.hearer.now (reader_rest c.args.self.now)
    (reader_rest c.take_fixed-taken.new.self) piece (get_or piece 0 0) c.take_fixed-taken.result
    (first_byte piece c.requires.some) c.requires.some
    (unheard g.H.Hear.heard c.args.hearer.now (reader_rest c.args.self.now)
    (reader_rest c.take_fixed-taken.new.self) (get_or piece 0 0 ∷ []) c.take_fixed-taken.result
    (g.met.H.Hear.silence _) c.take_fixed-taken.ensures))
