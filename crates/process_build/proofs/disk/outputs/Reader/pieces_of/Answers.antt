use Rattle.std.proofs.Common.{◌≤◌, ap, sym, subst, arith, All, length}
use Rattle.std.proofs.KnownBytes.{Consumes-nil}
use Rattle.std.proofs.lemmas.List.Elements.{All-nil, All-push}
use Rattle.std.specs.Io.KnownBytes.{Consumes}
use Rattle.process_build.proofs.FileReads.{consumed_none, consumed_push, joined_size, none_read}
use Rattle.ref_scan.specs.Trees.{joined}
use Rattle.process_build.proofs.disk.outputs.Reader.pieces_of.Goals as goal

pub loop-init : goal.loop-init
loop-init g c = record {
  is_read =
      subst (λ l. Consumes (g.F.Read.remaining c.args.file.now)
      (g.F.Read.remaining c.args.file.now) (joined l)) (sym c.new-pieces.ensures.items)
      (Consumes-nil _);
  are_short =
      subst (All (λ piece. length piece.items ≤ 65536)) (sym c.new-pieces.ensures.items)
      (All-nil (λ piece. length piece.items ≤ 65536));
  left = let e = ap (λ l. length (joined l)) c.new-pieces.ensures.items in omega arith;
}

pub returns-then-is_empty-clause-all : goal.returns-then-is_empty-clause-all
returns-then-is_empty-clause-all g c =
    let none = none_read c.in_ok-piece.piece.items c.as_slice.result.now _ c.as_slice.ensures.value
    c.is_empty.ensures c.if-is_empty.true in
    record {
      is_read = consumed_none _ _ _ _ _ c.loop.invariant.is_read none c.in_ok-piece.ensures.bytes;
      is_ended = c.in_ok-piece.ensures.end none;
      are_short = c.loop.invariant.are_short;
    }

pub returns-then-is_empty-clause-left : goal.returns-then-is_empty-clause-left
returns-then-is_empty-clause-left g c =
    let none = ap length (none_read c.in_ok-piece.piece.items c.as_slice.result.now _
    c.as_slice.ensures.value c.is_empty.ensures c.if-is_empty.true) in
    let left = c.in_ok-piece.ensures.left in
    let before = c.loop.invariant.left in
    omega arith

pub loop-preserved : goal.loop-preserved
loop-preserved g c =
    let pushed = c.in_ok-push.ensures.items in
    let size = joined_size c.loop.pieces.items c.in_ok-piece.piece in
    let sizes = ap (λ l. length (joined l)) pushed in
    let left = c.in_ok-piece.ensures.left in
    let before = c.loop.invariant.left in
    record {
      is_read =
          subst (λ l. Consumes (g.F.Read.remaining c.args.file.now)
          (g.F.Read.remaining c.piece.new.file) (joined l)) (sym pushed)
          (consumed_push _ _ _ c.loop.pieces.items c.in_ok-piece.piece c.loop.invariant.is_read
          c.in_ok-piece.ensures.bytes);
      are_short =
          subst (All (λ piece. length piece.items ≤ 65536)) (sym pushed)
          (All-push (λ piece. length piece.items ≤ 65536) c.loop.pieces.items c.in_ok-piece.piece
          c.loop.invariant.are_short c.in_ok-piece.ensures.size);
      left = omega arith;
    }
