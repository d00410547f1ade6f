use Rattle.std.proofs.Common.{arith, [], ◌+◌, ◌-◌, ◌≡◌, length, append-nil, drop, subst, sym, ℕ, suc, take}
use Rattle.std.proofs.lemmas.List.{length-take, take-append-drop}
use Rattle.nix_archive.specs.Trees.{AreBytes}
use Rattle.nix_archive.proofs.Bytes.{front_bytes}
use Rattle.nix_archive.specs.declared.mode.Mode.TheVariants.{Contents}
use Rattle.nix_archive.specs.Rests.{reader_rest}
use Rattle.nix_archive.specs.Parts.{names_of}
use Rattle.nix_archive.specs.Reading.{IsStep}
use Rattle.nix_archive.specs.private.Takes.{outer_rest, now_rest}
use Rattle.nix_archive.proofs.Rests.{step_from, step_to, steps}
use Rattle.nix_archive.proofs.Turns.{same_mode}
use Rattle.nix_archive.proofs.Ends.{contents_step, taken_all, taken_of, unfixed}
use Rattle.nix_archive.proofs.reader.ArchiveReader.take_contents.Goals as goal

pub returns-then-length-more : goal.returns-then-length-more
unfolding reader_rest
returns-then-length-more g c =
    taken_all _ _ _ c.args.piece.now c.requires.some
    (step_from _ (same_mode _ (Contents c.args.size c.args.more) c.args.self.now.seen.items
    (names_of c.args.self.now.folders.items) c.requires.contents)
    (step_to _ (unfixed c.args.self.now.zeros c.args.self.now.text.now _ c.requires.zeros
    c.requires.text)
    (contents_step _ c.args.size (suc c.args.more) (suc (c.args.more - length c.args.piece.now))
    (outer_rest c.args.self.now) c.args.piece.now c.in_ok-hear.ensures c.requires.are_bytes
    (omega arith))))

pub returns : goal.returns
returns g c =
    let n : ℕ = c.args.more + 1 in
    let w = take n c.args.piece.now in
    let long : suc c.args.more ≡ length w + 0 = omega (arith, length-take {A = ℕ}) in
    taken_of _ _ _ c.args.piece.now n (omega arith) (omega arith)
    (subst (λ l. IsStep g.H.Hear.heard c.args.hearer.now c.end_file.new.hearer
    (now_rest c.args.self.now) (reader_rest c.end_file.new.self) l) (append-nil w)
    (step_from _ (same_mode _ (Contents c.args.size c.args.more) c.args.self.now.seen.items
    (names_of c.args.self.now.folders.items) c.requires.contents)
    (steps _ g.met.H.Hear.joins w []
    (contents_step _ c.args.size (suc c.args.more) 0 (outer_rest c.args.self.now) w
    c.in_ok-hear-2.ensures (front_bytes w (drop n c.args.piece.now)
    (subst AreBytes (sym (take-append-drop n c.args.piece.now)) c.requires.are_bytes)) long)
    c.in_ok-end_file.ensures)))
