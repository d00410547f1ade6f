use Rattle.std.proofs.Common.{arith}
use Rattle.nix_realise.proofs.TextArchives.{text_sum}
use Rattle.nix_realise.proofs.additions.text_record.archive_of.Goals as goal

pub unreachable-requires : goal.unreachable-requires
unreachable-requires c =
    let sum =
    text_sum _ c.args.text.now _ _ _ _ c.requires c.new.ensures c.in_ok-sink.ensures in
    let past = c.in-None.ensures in
    let short = sum.short in
    omega (arith, past, short)
