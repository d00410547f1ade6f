use Rattle.std.proofs.Common.{[], ◌≡◌, ◌-◌, None, Some, length, refl, subst, sym}
use Rattle.std.specs.List.{slice_get}
use Rattle.nix_archive.specs.Trees.{AreBytes}
use Rattle.nix_archive.specs.Parts.{names_of}
use Rattle.nix_archive.specs.Rests.{reader_rest}
use Rattle.nix_archive.specs.declared.mode.Tie.TheVariants.{Free, Tied}
use Rattle.nix_archive.specs.private.Ready.{IsBar, MayShare}
use Rattle.nix_archive.specs.private.Takes.{Unheard}
use Rattle.nix_archive.proofs.Names.{held_first, innermost, no_last, ready_begun}
use Rattle.nix_archive.proofs.Ends.{begun_name, name_bar, name_outside}
use Rattle.nix_archive.proofs.reader.ArchiveReader.begin_name.Goals as goal

pub returns : goal.returns
unfolding reader_rest
returns c =
    begun_name Unheard 0 c.args.size c.args.self.now.zeros c.args.self.now.text.now
    c.args.self.now.seen.items (Tied c.in-Some-most_shared.most)
    (names_of c.args.self.now.folders.items) refl
    c.requires.zeros c.requires.text c.requires.seen

pub returns-in_default-most_shared : goal.returns-in_default-most_shared
returns-in_default-most_shared c = λ ts u h.
    let before = c.in-Some.before.now in
    let found = innermost c.args.self.now.folders.items before
    (subst (λ l. slice_get l (length l - 1) ≡ Some before) c.deref.ensures.value
    (sym c.in-Some.ensures.value)) in
    name_bar c.args.size before.items found.0 (names_of c.args.self.now.folders.items)
    (subst (λ l. IsBar l c.args.size) c.deref-2.ensures.value c.in_default-most_shared.ensures)
    found.1 ts u h

pub returns-in_default : goal.returns-in_default
returns-in_default c = λ ts u h.
    name_outside c.args.size Free [] (names_of c.args.self.now.folders.items)
    (no_last c.args.self.now.folders.items
    (subst (λ l. slice_get l (length l - 1) ≡ None) c.deref.ensures.value
    (sym c.in_default.ensures.value))) ts u h

pub most_shared-requires : goal.most_shared-requires
most_shared-requires c =
    let before = c.in-Some.before.now in
    let found = innermost c.args.self.now.folders.items before
    (subst (λ l. slice_get l (length l - 1) ≡ Some before) c.deref.ensures.value
    (sym c.in-Some.ensures.value)) in
    subst AreBytes (sym c.deref-2.ensures.value)
    (held_first (names_of c.args.self.now.folders.items) found.0 before.items
    c.args.self.now.ready.held found.1).0

pub invariant_of-self : goal.invariant_of-self
invariant_of-self c =
    let before = c.in-Some.before.now in
    let found = innermost c.args.self.now.folders.items before
    (subst (λ l. slice_get l (length l - 1) ≡ Some before) c.deref.ensures.value
    (sym c.in-Some.ensures.value)) in
    record {
      ready = ready_begun c.args.self.now.mode c.args.self.now.seen.items
          (names_of c.args.self.now.folders.items) found.0 before.items c.args.size
          c.in-Some-most_shared.most c.args.self.now.ready c.requires.seen found.1
          c.ranges.size.fits
          (subst (MayShare c.in-Some-most_shared.most c.args.size) c.deref-2.ensures.value
          c.in-Some-most_shared.ensures);
    }
