use Rattle.std.proofs.Common.{◌∙◌}
use Rattle.store_run.proofs.KeptTexts.{may_be_kept}
use Rattle.store_run.proofs.checkpoint_sink.keep_new.Goals as goal

pub keep-requires : goal.keep-requires
keep-requires g c =
    may_be_kept g.B.Build.may (g.J.Showing.shown g.J.ListId.book) g.S.Basis.is_this_run
    g.K.CheckpointSink.may_keep _ _ _ _ _ _ c.sink.invariant c.in-Ok.ensures.run
    c.in_ok-news.ensures c.in-Ok.ensures.text c.bytes.ensures
    (c.shown.ensures ∙ c.in-Ok.ensures.shown)
