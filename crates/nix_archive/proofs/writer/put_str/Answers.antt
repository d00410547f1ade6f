use Rattle.std.proofs.lemmas.Result.{on_ok_weaker}
use Rattle.nix_archive.proofs.Texts.{str_took}
use Rattle.nix_archive.proofs.writer.put_str.Goals as goal

pub returns : goal.returns
returns g c =
    on_ok_weaker _
    (λ h. str_took _ g.met.S.Sink.joins c.args.bytes.now c.in_ok-put_size.ensures
    c.in_ok-put.ensures h)
    c.put_padding.ensures
