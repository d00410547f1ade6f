use Rattle.std.proofs.Common.{◌≡◌, ◌∙◌, ap, arith, length, rules}
use Rattle.std.proofs.lemmas.List.{length-map}
use Rattle.nix_realise.proofs.AskedPaths.{valid_all, valid_push}
use Rattle.nix_realise.proofs.verification.asked_paths.stray_word.Goals as goal

pub loop-index-preserved : goal.loop-index-preserved
loop-index-preserved c =
    let same : length c.args.paths.now ≡ length c.args.words.now =
    ap length c.requires ∙ length-map c.args.words.now _ in
    valid_push c.args.journal.now c.args.paths.now c.loop-index.index c.index-paths-index.result
    (omega (arith, same, c.loop-index-test.true)) c.index-paths-index.is c.loop-index.invariant
    (c.registers.ensures.0 (search rules))

pub returns : goal.returns
returns c =
    let same : length c.args.paths.now ≡ length c.args.words.now =
    ap length c.requires ∙ length-map c.args.words.now _ in
    valid_all c.args.journal.now c.args.paths.now c.loop-index.index
    (omega (arith, same, c.loop-index-test.false)) c.loop-index.invariant
