use Rattle.std.proofs.Common.{arith, [], ◌∷◌, ◌≡◌, ◌-◌, ◌∙◌, None, Some, ap, append_assoc, false, length, subst, sym}
use Rattle.std.specs.List.{slice_get}
use Rattle.nix_archive.specs.Trees.{IsName, is_name_byte}
use Rattle.nix_archive.specs.declared.mode.Mode.TheVariants.{Name}
use Rattle.nix_archive.specs.declared.mode.Tie.TheVariants.{Free}
use Rattle.nix_archive.specs.Rests.{reader_rest, mode_rest}
use Rattle.nix_archive.specs.Parts.{names_of}
use Rattle.nix_archive.specs.private.Takes.{now_rest}
use Rattle.nix_archive.proofs.Bytes.{byte_more}
use Rattle.nix_archive.proofs.Rests.{step_from, step_to}
use Rattle.nix_archive.proofs.Turns.{same_mode}
use Rattle.nix_archive.proofs.Names.{fit_name, innermost, no_last, no_name, no_name_byte, tied_as}
use Rattle.nix_archive.proofs.Ends.{name_on, name_outside, name_same, taken_after, unfixed}
use Rattle.nix_archive.proofs.reader.ArchiveReader.take_name.Goals as goal

pub end_name-requires-clause-are_bytes : goal.end_name-requires-clause-are_bytes
end_name-requires-clause-are_bytes g c =
    byte_more c.args.self.now.seen.items c.replace-name.result.items c.args.byte
    c.args.self.now.ready.are_bytes c.ranges.byte.fits
    (ap (λ v. v.items) c.replace-name.ensures.value ∙ c.in_ok-push.ensures.items)

pub returns : goal.returns
returns g c =
    let names = names_of c.args.self.now.folders.items in
    let more = c.push.new.self.items in
    let long : length more ≡ c.args.size = omega arith in
    let name = c.replace-name.result.items in
    taken_after _ g.met.H.Hear.joins c.args.hearer.now c.args.hearer.now c.end_name.new.hearer
    (now_rest c.args.self.now) (mode_rest (Name (length name) Free) name names)
    (reader_rest c.end_name.new.self) c.args.byte c.in_ok-taken.taken
    (step_from _ (same_mode _ (Name c.args.size c.args.tie) c.args.self.now.seen.items names
    c.requires.name)
    (step_to _ (name_same names more name c.args.size
    (ap (λ v. v.items) c.replace-name.ensures.value) long)
    (name_on _ c.args.hearer.now c.args.size c.args.tie Free c.args.self.now.seen.items more
    c.args.byte names (g.met.H.Hear.silence _) c.in_ok-push.ensures.items)))
    c.in_ok-taken.ensures

pub returns-then-len-size : goal.returns-then-len-size
unfolding reader_rest
returns-then-len-size g c =
    let names = names_of c.args.self.now.folders.items in
    step_to _ (unfixed c.args.self.now.zeros c.args.self.now.text.now _ c.requires.zeros
    c.requires.text)
    (step_from _ (same_mode _ (Name c.args.size c.args.tie) c.args.self.now.seen.items names
    c.requires.name)
    (name_on _ c.args.hearer.now c.args.size c.args.tie c.in-Some-tie_after.next
    c.args.self.now.seen.items c.push.new.self.items c.args.byte names
    (g.met.H.Hear.silence _) c.in_ok-push.ensures.items))

pub returns-in_default : goal.returns-in_default
returns-in_default g c = λ ts u h.
    name_outside c.args.size c.args.tie c.args.self.now.seen.items
    (names_of c.args.self.now.folders.items)
    (no_last c.args.self.now.folders.items
    (subst (λ l. slice_get l (length l - 1) ≡ None) c.deref.ensures.value
    (sym c.in_default.ensures.value))) ts (c.args.byte ∷ u)
    ((same_mode _ (Name c.args.size c.args.tie) c.args.self.now.seen.items
    (names_of c.args.self.now.folders.items) c.requires.name).to ts (c.args.byte ∷ u) h)

pub returns-then-not-is_name_byte : goal.returns-then-not-is_name_byte
returns-then-not-is_name_byte g c = λ ts u h.
    let names = names_of c.args.self.now.folders.items in
    let seen = c.args.self.now.seen.items in
    let before = c.in-Some.before.now in
    let found = innermost c.args.self.now.folders.items before
    (subst (λ l. slice_get l (length l - 1) ≡ Some before) c.deref.ensures.value
    (sym c.in-Some.ensures.value)) in
    let fit = fit_name c.args.self.now.mode seen names found.0 before.items c.args.size c.args.tie
    c.args.self.now.ready.fit c.requires.name found.1 in
    let no : is_name_byte c.args.byte ≡ false = sym c.if-not-is_name_byte.ensures in
    no_name c.args.size c.args.tie seen before.items found.0 names c.args.byte found.1 fit.0
    (λ more long are is after. no_name_byte seen more c.args.byte no
    (subst IsName (append_assoc seen (c.args.byte ∷ []) more) is)) ts u
    ((same_mode _ (Name c.args.size c.args.tie) seen names c.requires.name).to ts
    (c.args.byte ∷ u) h)

pub returns-in_default-tie_after : goal.returns-in_default-tie_after
returns-in_default-tie_after g c = λ ts u h.
    let names = names_of c.args.self.now.folders.items in
    let seen = c.args.self.now.seen.items in
    let before = c.in-Some.before.now in
    let found = innermost c.args.self.now.folders.items before
    (subst (λ l. slice_get l (length l - 1) ≡ Some before) c.deref.ensures.value
    (sym c.in-Some.ensures.value)) in
    let fit = fit_name c.args.self.now.mode seen names found.0 before.items c.args.size c.args.tie
    c.args.self.now.ready.fit c.requires.name found.1 in
    no_name c.args.size c.args.tie seen before.items found.0 names c.args.byte found.1 fit.0
    (λ more long are is after. tied_as c.args.size c.args.byte c.args.tie c.deref-2.result.now seen
    c.deref-3.result.now before.items None c.deref-2.ensures.value c.deref-3.ensures.value
    (c.in_default-tie_after.ensures c.args.size) fit.3 more long are after) ts u
    ((same_mode _ (Name c.args.size c.args.tie) seen names c.requires.name).to ts
    (c.args.byte ∷ u) h)
