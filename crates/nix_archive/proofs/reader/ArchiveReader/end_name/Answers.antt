use Rattle.std.proofs.Common.{arith, [], ◌∷◌, ◌++◌, ◌≡◌, ◌∙◌, ◌-◌, ◌%◌, ap, length, refl, sym, subst, true, false}
use Rattle.nix_archive.specs.Archive.{padding, size_text, str}
use Rattle.nix_archive.specs.Tokens.{EntryBegun}
use Rattle.nix_archive.specs.Parts.{names_of}
use Rattle.nix_archive.specs.Rests.{reader_rest}
use Rattle.std.specs.Prelude.{codes}
use Rattle.std.proofs.Math.ListN.{replicate}
use Rattle.nix_archive.specs.Parts.{open_text}
use Rattle.nix_archive.specs.declared.mode.Mode.TheVariants.{Kind}
use Rattle.nix_archive.proofs.Rests.{after_same, step_to}
use Rattle.nix_archive.proofs.Turns.{pushed, same_mode}
use Rattle.nix_archive.proofs.Ends.{name_as, name_end, name_no}
use Rattle.nix_archive.proofs.reader.ArchiveReader.end_name.Goals as goal

pub returns-then-not-comes_next : goal.returns-then-not-comes_next
returns-then-not-comes_next g c = λ ts u h.
    name_no c.args.name.items c.in-Some.before.items
    (names_of c.pop.new.self.items)
    (names_of c.args.self.now.folders.items)
    (λ p. let k : false ≡ true = c.if-not-comes_next.ensures.1
    (name_as _ _ _ _ (sym c.deref.ensures.value) (sym c.deref-2.ensures.value) p) in cc)
    c.requires.are_bytes
    (pushed c.pop.new.self.items c.args.self.now.folders.items c.in-Some.before
    c.in-Some.ensures.items)
    ts u h

pub returns : goal.returns
unfolding reader_rest str size_text padding
returns g c =
    let long : c.len.result ≡ length c.args.name.items = omega arith in
    let may = name_as c.deref.result.now c.deref-2.result.now c.in-Some.before.items
    c.args.name.items
    c.deref.ensures.value c.deref-2.ensures.value (c.if-not-comes_next.ensures.0 refl) in
    step_to _ (after_same (replicate c.padding_length-self.result 0)
    (after_same (str (codes "node") ++ open_text)
    (same_mode Kind c.args.self.now.mode c.args.self.now.seen.items (names_of c.push.new.self.items)
    (sym c.requires.kind))))
    (name_end _ c.padding_length-self.result c.args.name.items
    c.in-Some.before.items
    (names_of c.pop.new.self.items) (names_of c.args.self.now.folders.items)
    (names_of c.push.new.self.items)
    (subst (λ l. g.H.Hear.heard c.args.hearer.now (EntryBegun l ∷ []) c.hear.new.self)
    c.deref-3.ensures.value
    c.in_ok-hear.ensures) (c.padding_length-self.ensures ∙ ap (λ n. (8 - n % 8) % 8) long) may.0 may.1
    (pushed c.pop.new.self.items c.args.self.now.folders.items c.in-Some.before
    c.in-Some.ensures.items)
    (pushed c.pop.new.self.items c.push.new.self.items c.args.name
    c.in_ok-push.ensures.items))
