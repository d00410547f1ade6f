use Rattle.std.proofs.Common.{subst, arith, length-drop, ap, length}
use Rattle.std.proofs.lemmas.List.{take_rest}
use Rattle.ref_scan.specs.private.Marks.{Marked}
use Rattle.ref_scan.proofs.Searching.{searching_past, searching_next, searching_end, window_is, foreign_at}
use Rattle.ref_scan.proofs.search.search.Goals as goal

pub loop-window-preserved-in-Some-last_foreign : goal.loop-window-preserved-in-Some-last_foreign
loop-window-preserved-in-Some-last_foreign c =
    let bytes = c.args.bytes.now in
    let start = c.loop-window.start in
    let offset = c.in-Some-last_foreign.offset in
    let foreign = c.in-Some-last_foreign.ensures in
    let left = ap length (take_rest bytes start) in
    let held = c.loop-window.invariant in
    record {
      inside = omega (arith, c.in-Some.ensures.cases.enough, length-drop start bytes, foreign.1);
      known = omega arith;
      so_far =
          searching_past c.args.index.now.parts c.args.met.now c.loop-window.met bytes start offset
          c.requires.are_parts.each held.so_far foreign.1
          (foreign_at bytes c.in-Some.window.now start offset c.in-Some.ensures.cases.same foreign.1
          foreign.2);
    }

pub loop-window-preserved : goal.loop-window-preserved
loop-window-preserved c =
    let bytes = c.args.bytes.now in
    let start = c.loop-window.start in
    let left = ap length (take_rest bytes start) in
    let held = c.loop-window.invariant in
    let window = window_is bytes c.in-Some.window.now start c.in-Some.ensures.cases.same in
    record {
      inside = omega (arith, c.in-Some.ensures.cases.enough, length-drop start bytes);
      known = omega arith;
      so_far =
          searching_next c.args.index.now.parts c.args.met.now c.loop-window.met c.mark.new.met
          bytes start c.requires.are_parts.each held.so_far
          (subst (Marked c.args.index.now.parts c.loop-window.met c.mark.new.met) window
          c.mark.ensures);
    }

pub returns : goal.returns
returns c =
    let bytes = c.args.bytes.now in
    let start = c.loop-window.start in
    let left = ap length (take_rest bytes start) in
    searching_end c.args.index.now.parts c.args.met.now c.loop-window.met bytes start
    c.requires.are_parts.each c.loop-window.invariant.so_far
    (omega (arith, c.in_default.ensures.cases))
