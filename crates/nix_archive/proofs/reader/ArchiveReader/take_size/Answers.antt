use Rattle.std.specs.Int.{w64, from_le_bytes}
use Rattle.std.proofs.Common.{arith, [], ◌∷◌, ◌<◌, ◌^◌, ◌≡◌, ◌∙◌, length, ap, refl, sym, subst, ℕ, get_or}
use Rattle.nix_archive.specs.declared.mode.Mode.TheVariants.{Name, Size}
use Rattle.nix_archive.specs.declared.mode.What.TheVariants.{File as OfFile, Name as OfName, Target as OfTarget}
use Rattle.nix_archive.specs.Parts.{Counted, file, link}
use Rattle.nix_archive.specs.Rests.{reader_rest, mode_rest}
use Rattle.nix_archive.specs.Parts.{names_of}
use Rattle.nix_archive.specs.private.Takes.{outer_rest, now_rest}
use Rattle.nix_archive.proofs.Rests.{step_from, step_to, steps, same_size, seen_step}
use Rattle.nix_archive.proofs.Turns.{same_mode}
use Rattle.nix_archive.proofs.Ends.{same_name, size_on, taken_after, unfixed}
use Rattle.nix_archive.proofs.Wholes.{unheard}
use Rattle.nix_archive.specs.declared.mode.Tie.TheVariants.{Free}
use Rattle.nix_archive.proofs.reader.ArchiveReader.take_size.Goals as goal

pub returns-then-len-ne8 : goal.returns-then-len-ne8
unfolding reader_rest
returns-then-len-ne8 g c =
    step_to _ (unfixed c.args.self.now.zeros c.args.self.now.text.now _ c.requires.zeros
    c.requires.text)
    (step_from _ (same_mode _ (Size c.args.what) c.args.self.now.seen.items
    (names_of c.args.self.now.folders.items) c.requires.size)
    (step_to _ (same_mode (Size c.args.what) _ c.push.new.self.items
    (names_of c.args.self.now.folders.items) (sym c.requires.size))
    (size_on _ c.args.hearer.now c.args.what c.args.self.now.seen.items c.push.new.self.items
    c.args.byte (names_of c.args.self.now.folders.items)
    (g.met.H.Hear.silence _) c.in_ok-push.ensures.items)))

pub returns-in_ok-begin_file-in-File : goal.returns-in_ok-begin_file-in-File
returns-in_ok-begin_file-in-File g c =
    let more = c.push.new.self.items in
    let size : ℕ = c.size_of-size.result in
    let long : length more ≡ 8 = omega arith in
    let fits : (i : ℕ) → get_or more i 0 < 256 = subst (λ l. (i : ℕ) → get_or l i 0 < 256)
    c.deref.ensures.value c.size_of-size.ensures.fits in
    let lt : size < 2 ^ 64 = c.size_of-size.type_inv in
    let is : size ≡ from_le_bytes w64 more = c.size_of-size.ensures.value
    ∙ ap (from_le_bytes w64) c.deref.ensures.value in
    steps _ g.met.H.Hear.joins (c.args.byte ∷ []) []
    (step_from _ (same_mode _ (Size (OfFile c.in-File.executable)) c.args.self.now.seen.items
    (names_of c.args.self.now.folders.items)
    (c.requires.size ∙ ap Size c.in-File.is))
    (step_to _ (same_size (file c.in-File.executable (outer_rest c.args.self.now)) more size long
    fits lt is)
    (seen_step _ c.args.hearer.now (Counted
    (file c.in-File.executable (outer_rest c.args.self.now)))
    c.args.self.now.seen.items more c.args.byte (g.met.H.Hear.silence _)
    c.in_ok-push.ensures.items)))
    c.in_ok-begin_file-in-File.ensures

pub returns-in_ok-begin_target-in-Target : goal.returns-in_ok-begin_target-in-Target
returns-in_ok-begin_target-in-Target g c =
    let more = c.push.new.self.items in
    let size : ℕ = c.size_of-size.result in
    let long : length more ≡ 8 = omega arith in
    let fits : (i : ℕ) → get_or more i 0 < 256 = subst (λ l. (i : ℕ) → get_or l i 0 < 256)
    c.deref.ensures.value c.size_of-size.ensures.fits in
    let lt : size < 2 ^ 64 = c.size_of-size.type_inv in
    let is : size ≡ from_le_bytes w64 more = c.size_of-size.ensures.value
    ∙ ap (from_le_bytes w64) c.deref.ensures.value in
    steps _ g.met.H.Hear.joins (c.args.byte ∷ []) []
    (step_from _ (same_mode _ (Size OfTarget) c.args.self.now.seen.items
    (names_of c.args.self.now.folders.items)
    (c.requires.size ∙ ap Size c.in-Target.is))
    (step_to _ (same_size (link (outer_rest c.args.self.now)) more size long fits lt is)
    (seen_step _ c.args.hearer.now (Counted (link (outer_rest c.args.self.now)))
    c.args.self.now.seen.items more c.args.byte (g.met.H.Hear.silence _)
    c.in_ok-push.ensures.items)))
    c.in_ok-begin_target-in-Target.ensures

pub returns-in-Name : goal.returns-in-Name
returns-in-Name g c =
    let more = c.push.new.self.items in
    let size : ℕ = c.size_of-size.result in
    let long : length more ≡ 8 = omega arith in
    let fits : (i : ℕ) → get_or more i 0 < 256 = subst (λ l. (i : ℕ) → get_or l i 0 < 256)
    c.deref.ensures.value c.size_of-size.ensures.fits in
    let lt : size < 2 ^ 64 = c.size_of-size.type_inv in
    let is : size ≡ from_le_bytes w64 more = c.size_of-size.ensures.value
    ∙ ap (from_le_bytes w64) c.deref.ensures.value in
    let names = names_of c.args.self.now.folders.items in
    taken_after _ g.met.H.Hear.joins c.args.hearer.now c.args.hearer.now c.args.hearer.now
    (now_rest c.args.self.now) (mode_rest (Name size Free) [] names)
    (reader_rest c.begin_name.new.self) c.args.byte c.begin_name.result
    (step_from _ (same_mode _ (Size OfName) c.args.self.now.seen.items names
    (c.requires.size ∙ ap Size c.in-Name.is))
    (step_to _ (same_name more [] size names long fits lt is refl)
    (size_on _ c.args.hearer.now OfName c.args.self.now.seen.items more c.args.byte names
    (g.met.H.Hear.silence _) c.in_ok-push.ensures.items)))
    (unheard _ c.args.hearer.now (mode_rest (Name size Free) [] names)
    (reader_rest c.begin_name.new.self) [] c.begin_name.result (g.met.H.Hear.silence _)
    c.begin_name.ensures)
