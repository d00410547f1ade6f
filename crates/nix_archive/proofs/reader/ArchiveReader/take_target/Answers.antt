use Rattle.std.proofs.Common.{arith, [], ◌∷◌, ◌≡◌, ◌∙◌, ap, length, sym}
use Rattle.nix_archive.specs.declared.mode.Mode.TheVariants.{Target}
use Rattle.nix_archive.specs.Parts.{Sized, link, names_of}
use Rattle.nix_archive.specs.Rests.{reader_rest}
use Rattle.nix_archive.specs.private.Takes.{outer_rest}
use Rattle.nix_archive.proofs.Bytes.{byte_more}
use Rattle.nix_archive.proofs.Rests.{step_from, step_to, steps, seen_step}
use Rattle.nix_archive.proofs.Turns.{same_mode}
use Rattle.nix_archive.proofs.Ends.{unfixed, whole_as}
use Rattle.nix_archive.proofs.reader.ArchiveReader.take_target.Goals as goal

pub returns-then-len-size : goal.returns-then-len-size
unfolding reader_rest
returns-then-len-size g c =
    step_to _ (unfixed c.args.self.now.zeros c.args.self.now.text.now _ c.requires.zeros
    c.requires.text)
    (step_from _ (same_mode _ (Target c.args.size) c.args.self.now.seen.items
    (names_of c.args.self.now.folders.items) c.requires.target)
    (step_to _ (same_mode (Target c.args.size) _ c.push.new.self.items
    (names_of c.args.self.now.folders.items) (sym c.requires.target))
    (seen_step _ c.args.hearer.now (Sized c.args.size (link (outer_rest c.args.self.now)))
    c.args.self.now.seen.items c.push.new.self.items c.args.byte
    (g.met.H.Hear.silence _) c.in_ok-push.ensures.items)))

pub returns : goal.returns
returns g c =
    let more = c.push.new.self.items in
    let long : length more ≡ c.args.size = omega arith in
    steps _ g.met.H.Hear.joins (c.args.byte ∷ []) []
    (step_from _ (same_mode _ (Target c.args.size) c.args.self.now.seen.items
    (names_of c.args.self.now.folders.items) c.requires.target)
    (step_to _ (whole_as (link (outer_rest c.args.self.now)) more c.deref.result.now c.args.size
    (byte_more c.args.self.now.seen.items more c.args.byte c.args.self.now.ready.are_bytes
    c.ranges.byte.fits c.in_ok-push.ensures.items) long
    (c.deref.ensures.value ∙ ap (λ v. v.items) c.replace-target.ensures.value))
    (seen_step _ c.args.hearer.now (Sized c.args.size (link (outer_rest c.args.self.now)))
    c.args.self.now.seen.items more c.args.byte
    (g.met.H.Hear.silence _) c.in_ok-push.ensures.items)))
    c.in_ok-end_target.ensures
