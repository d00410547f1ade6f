use Rattle.std.proofs.Common.{arith, ◌≡◌, ◌-◌, ◌∷◌, ◌∙◌, None, Some, length, refl, subst, sym}
use Rattle.std.specs.List.{slice_get}
use Rattle.nix_archive.specs.Archive.{padding, size_text, str}
use Rattle.nix_archive.specs.declared.mode.Mode.TheVariants.{More}
use Rattle.nix_archive.specs.Parts.{ended}
use Rattle.nix_archive.specs.Rests.{reader_rest}
use Rattle.nix_archive.specs.Parts.{names_of}
use Rattle.nix_archive.specs.private.Takes.{now_rest}
use Rattle.nix_archive.proofs.Rests.{step_from}
use Rattle.nix_archive.proofs.Names.{innermost, no_last}
use Rattle.nix_archive.proofs.Turns.{pushed, same_mode}
use Rattle.nix_archive.proofs.Ends.{more_five, more_one, more_other, more_outside}
use Rattle.nix_archive.proofs.reader.ArchiveReader.take_more.Goals as goal

pub go_up-requires : goal.go_up-requires
unfolding str size_text padding
go_up-requires g c = refl

pub returns-in_ok-hear_end-in-5 : goal.returns-in_ok-hear_end-in-5
unfolding reader_rest str size_text padding
returns-in_ok-hear_end-in-5 g c =
    let before = c.in-Some.before.now in
    let found = innermost c.args.self.now.folders.items before
    (subst (λ l. slice_get l (length l - 1) ≡ Some before) c.deref.ensures.value
    (sym c.in-Some.ensures.value)) in
    rw c.in-5.is (step_from _ (same_mode _ More c.args.self.now.seen.items
    (names_of c.args.self.now.folders.items) c.requires.more)
    (more_five _ c.args.self.now.zeros c.args.self.now.seen.items _ before.items found.0
    (names_of c.args.self.now.folders.items) (names_of c.args.self.now.folders.items)
    c.requires.zeros
    (subst (λ l. g.H.Hear.heard c.args.hearer.now (ended l) c.hear_end.new.hearer)
    c.deref-in-5.ensures.value
    c.in_ok-hear_end-in-5.ensures) found.1 found.1 c.clear.ensures.items))

pub returns-in_ok-hear-in-1 : goal.returns-in_ok-hear-in-1
unfolding reader_rest str size_text padding
returns-in_ok-hear-in-1 g c =
    let before = c.in-Some-pop.before in
    let names = pushed c.pop.new.self.items c.args.self.now.folders.items before
    c.in-Some-pop.ensures.items in
    rw c.in-1.is (step_from _ (same_mode _ More c.args.self.now.seen.items
    (names_of c.args.self.now.folders.items) c.requires.more)
    (more_one _ c.go_up.new.self.zeros c.args.self.now.seen.items before.items
    c.go_up.new.self.text.now (names_of c.pop.new.self.items)
    (names_of c.args.self.now.folders.items)
    (now_rest c.go_up.new.self) (c.go_up.ensures.zeros ∙ c.requires.zeros)
    (g.met.H.Hear.joins _ _ _ _ _
    (subst (λ l. g.H.Hear.heard c.args.hearer.now (ended l) c.hear_end-in-1.new.hearer)
    c.deref-in-1.ensures.value
    c.in_ok-hear_end-in-1.ensures) c.in_ok-hear-in-1.ensures) names c.go_up.ensures.same))

pub returns-in_default : goal.returns-in_default
returns-in_default g c = λ ts u h.
    more_other c.args.self.now.seen.items (names_of c.args.self.now.folders.items) c.args.byte
    (omega arith) (omega arith) ts u ((same_mode _ More c.args.self.now.seen.items
    (names_of c.args.self.now.folders.items) c.requires.more).to ts (c.args.byte ∷ u) h)

pub returns-in_default-last : goal.returns-in_default-last
returns-in_default-last g c = λ ts u h.
    more_outside c.args.self.now.seen.items (names_of c.args.self.now.folders.items)
    (no_last c.args.self.now.folders.items
    (subst (λ l. slice_get l (length l - 1) ≡ None) c.deref.ensures.value
    (sym c.in_default-last.ensures.value))) ts (c.args.byte ∷ u)
    ((same_mode _ More c.args.self.now.seen.items
    (names_of c.args.self.now.folders.items) c.requires.more).to ts (c.args.byte ∷ u) h)
