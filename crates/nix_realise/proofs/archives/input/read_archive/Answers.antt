use Rattle.std.proofs.Common.{◌∙◌, refl, rules, subst, take}
use Rattle.std.proofs.lemmas.Result.{err_from_is_err_and}
use Rattle.std.specs.Io.KnownBytes.{Consumes}
use Rattle.nix_realise.proofs.Inputs.{ended_stray, ended_whole, fed_more, started, unfed}
use Rattle.nix_realise.proofs.archives.input.read_archive.Goals as goal

pub pieces-init : goal.pieces-init
pieces-init g c = record {
  far = started g.H.Hear.heard g.met.H.Hear.silence g.met.H.Hear.joins c.args.hearer.now
      c.new-reader.result (g.I.Read.remaining c.args.input.now) c.new-reader.ensures;
  room = refl;
}

pub returns-then-count-eq0-clause-ok : goal.returns-then-count-eq0-clause-ok
returns-then-count-eq0-clause-ok g c =
    let old = g.I.Read.remaining c.args.input.now in
    let held = g.I.Read.remaining c.pieces.input in
    let left = g.I.Read.remaining c.read_once.new.input in
    let read = c.in-Ok.ensures.bytes in
    let none = subst (λ n. Consumes held left (take n c.read_once.new.buffer)) c.if-count-eq0.true
    read.0 in
    ended_whole g.H.Hear.heard g.met.H.Hear.silence g.met.H.Hear.joins c.args.hearer.now
    c.pieces.hearer c.pieces.reader old held left c.pieces.offset c.end_of.result
    c.pieces.invariant.far none (read.1 c.if-count-eq0.true (search rules)) c.end_of.ensures

pub returns-then-count-eq0-clause-err : goal.returns-then-count-eq0-clause-err
returns-then-count-eq0-clause-err g c =
    let old = g.I.Read.remaining c.args.input.now in
    let held = g.I.Read.remaining c.pieces.input in
    let left = g.I.Read.remaining c.read_once.new.input in
    let read = c.in-Ok.ensures.bytes in
    let none = subst (λ n. Consumes held left (take n c.read_once.new.buffer)) c.if-count-eq0.true
    read.0 in
    ended_stray g.H.Hear.heard g.met.H.Hear.silence g.met.H.Hear.joins c.args.hearer.now
    c.pieces.hearer c.pieces.reader old held left c.pieces.offset c.end_of.result
    c.pieces.invariant.far none (read.1 c.if-count-eq0.true (search rules)) c.end_of.ensures

pub returns-in_err-offset-clause-err : goal.returns-in_err-offset-clause-err
returns-in_err-offset-clause-err g c =
    let e = err_from_is_err_and c.from_residual.result c.from_residual.ensures.1 in
    rw (e.1, e.2)
    (unfed g.H.Hear.heard g.met.H.Hear.silence g.met.H.Hear.joins c.args.hearer.now
    c.pieces.hearer c.pieces.reader (g.I.Read.remaining c.args.input.now)
    (g.I.Read.remaining c.pieces.input) (g.I.Read.remaining c.read_once.new.input)
    c.pieces.offset _ c.in_err-offset.field-0.0 c.pieces.invariant.far c.in_err-offset.ensures.err
    c.in-Ok.ensures.bytes.0)

pub pieces-preserved : goal.pieces-preserved
pieces-preserved g c = record {
  far = fed_more g.H.Hear.heard g.met.H.Hear.silence g.met.H.Hear.joins c.args.hearer.now
      c.pieces.hearer c.feed.new.hearer c.pieces.reader c.feed.new.reader
      (g.I.Read.remaining c.args.input.now) (g.I.Read.remaining c.pieces.input)
      (g.I.Read.remaining c.read_once.new.input) c.pieces.offset c.in_ok-offset.offset _
      c.pieces.invariant.far c.in_ok-offset.ensures.ok.1 c.in-Ok.ensures.bytes.0
      c.in_ok-offset.ensures.ok.0;
  room = c.read_once.ensures.same ∙ c.pieces.invariant.room;
}
