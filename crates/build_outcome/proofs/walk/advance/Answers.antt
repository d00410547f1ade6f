use Rattle.std.proofs.Common.{◌-◌, get_or, refl, sym, arith}
use Rattle.build_outcome.specs.declared.walk.Mark.TheVariants.{New}
use Rattle.build_outcome.specs.declared.walk.WalkNode.{WalkNode}
use Rattle.build_outcome.proofs.Walks.{next_of, next_within}
use Rattle.build_outcome.proofs.walk.advance.Goals as goal
use Rattle.build_outcome.proofs.walk.advance.Goals.{then-to-top+in-Closed, else-to-top}

-- what is read past the end of what is known
abbrev unknown : WalkNode
unknown = record { mark = New; left = 0 }

pub offset_bounds-nodes-to : goal.offset_bounds-nodes-to
offset_bounds-nodes-to c =
    let next = next_of _ _ _ _ _ _ c.requires.inner c.requires.after
    c.requires.within c.index-links-top.is c.if-left-eq0.false c.index-to.ensures in
    let below = next_within _ _ _ _ _ _ next in
    omega (arith, c.element_fits.fits)

pub bounds : goal.bounds
bounds c =
    next_within _ _ _ _ _ _
    (next_of _ _ _ _ _ _ c.requires.inner c.requires.after
    c.requires.within c.index-links-top.is c.if-left-eq0.false c.index-to.ensures)

pub offset_bounds-nodes-to-in-New : goal.offset_bounds-nodes-to-in-New
offset_bounds-nodes-to-in-New c =
    let next = next_of _ _ _ _ _ _ c.requires.inner c.requires.after
    c.requires.within c.index-links-top.is c.if-left-eq0.false c.index-to.ensures in
    let below = next_within _ _ _ _ _ _ next in
    omega (arith, c.element_fits.fits)

pub bounds-nodes-to : goal.bounds-nodes-to
bounds-nodes-to c =
    next_within _ _ _ _ _ _
    (next_of _ _ _ _ _ _ c.requires.inner c.requires.after
    c.requires.within c.index-links-top.is c.if-left-eq0.false c.index-to.ensures)

pub returns-in-New : goal.returns-in-New
returns-in-New c =
    let next = next_of _ _ _ _ _ _ c.requires.inner c.requires.after
    c.requires.within c.index-links-top.is c.if-left-eq0.false c.index-to.ensures in (
      get_or c.args.nodes.now c.args.top unknown,
      get_or c.args.nodes.now c.index-to.result.now unknown,
      next,
      c.in-New.is,
      refl,
    )

pub returns-in-Open : goal.returns-in-Open
returns-in-Open c =
    let next = next_of _ _ _ _ _ _ c.requires.inner c.requires.after
    c.requires.within c.index-links-top.is c.if-left-eq0.false c.index-to.ensures in (
      get_or c.args.nodes.now c.args.top unknown,
      c.index-to.result.now,
      get_or c.args.nodes.now c.index-to.result.now unknown,
      next,
      c.in-Open.is,
      λ e. c.if-to-top.true (sym e),
    )

pub returns : goal.returns
returns c =
    let node = get_or c.args.nodes.now c.args.top unknown in
    let some = c.if-left-eq0.false in
    let next = next_of _ _ _ _ _ _ c.requires.inner c.requires.after
    c.requires.within c.index-links-top.is some c.index-to.ensures in (
      node,
      c.index-to.result.now,
      get_or c.args.nodes.now c.index-to.result.now unknown,
      next,
      elim c.if-to-top.branch [
        | then-to-top+in-Closed w ↦ (λ apart. w.in-Closed.is)
        | else-to-top w ↦ (λ apart. absurd (apart (sym w.if-to-top.false)))
      ],
      node.left - 1,
      omega arith,
      refl,
    )
