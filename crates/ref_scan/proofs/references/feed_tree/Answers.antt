use Rattle.std.proofs.Common.{◌∙◌, ◌++◌, arith, ap, sym}
use Rattle.ref_scan.specs.private.Walk.{pieces_ahead, steps_ahead}
use Rattle.ref_scan.proofs.Walking.{pieces_last, steps_last}
use Rattle.ref_scan.proofs.references.feed_tree.Goals as goal

pub loop-members-smaller : goal.loop-members-smaller
loop-members-smaller c =
    omega (
      arith,
      c.in_ok-visit_first.ensures.folders.steps,
      ap steps_ahead c.in-Some.ensures.items,
      steps_last c.pop.new.self.items c.in-Some.members,
    )

pub loop-members-preserved : goal.loop-members-preserved
loop-members-preserved c =
    let before = c.loop-members.invariant in
    let after = c.in_ok-visit_first.ensures in
    record {
      permitted = ap (λ m. m.permitted) after.marks ∙ before.permitted;
      parts = ap (λ m. m.parts) after.marks ∙ before.parts;
      in_order = ap (λ m. m.in_order) after.marks ∙ before.in_order;
      ended = after.folders.pieces
          ∙ ap (λ l. c.loop-members.marks.ended ++ l)
          (sym (ap pieces_ahead c.in-Some.ensures.items
          ∙ pieces_last c.pop.new.self.items c.in-Some.members))
          ∙ before.ended;
      present = ap (λ m. m.present) after.marks;
    }
