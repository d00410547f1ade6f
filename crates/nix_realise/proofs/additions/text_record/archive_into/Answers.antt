use Rattle.nix_realise.proofs.TextArchives.{written}
use Rattle.nix_realise.proofs.additions.text_record.archive_into.Goals as goal

pub returns : goal.returns
returns g c =
    written g.S.Sink.took g.met.S.Sink.joins c.args.sink c.in_ok-writer.writer.sink
    c.hear.new.self.sink c.hear-2.new.self.sink c.hear-3.new.self.sink c.args.text.now
    c.in_ok-writer.ensures c.in_ok-hear.ensures c.in_ok-hear-2.ensures c.in_ok-hear-3.ensures
