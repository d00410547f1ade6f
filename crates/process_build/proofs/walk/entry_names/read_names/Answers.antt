use Rattle.std.proofs.Common.{ℕ, ap, arith, length, map, subst, sym}
use Rattle.std.proofs.lemmas.List.Elements.{All-nil}
use Rattle.std.specs.declared.alloc.Global.{Global}
use Rattle.std.specs.declared.vec.Vec.{Vec}
use Rattle.nix_archive.specs.Trees.{IsName}
use Rattle.nix_drv.specs.Parts.{bytes_of}
use Rattle.process_build.specs.private.Walking.{AreNames}
use Rattle.process_build.proofs.EntryNames.{no_members, more_members, last_members}
use Rattle.process_build.proofs.walk.entry_names.read_names.Goals as goal

pub loop-init : goal.loop-init
loop-init g c = record {
  are = subst AreNames (sym c.new-names.ensures.items)
      (All-nil (λ (name : Vec ℕ Global). IsName name.items));
  most = let e = ap length c.new-names.ensures.items in omega arith;
  all = no_members _ _ (ap (map bytes_of) c.new-names.ensures.items);
}

pub loop-preserved : goal.loop-preserved
loop-preserved g c = record {
  are = c.in_ok-push_names.ensures.names;
  most = omega arith;
  all = more_members _ _ _ _ _ _ c.loop.invariant.all c.in_ok-count.ensures.bytes.0
      c.in_ok-push_names.ensures.all;
}

pub returns-then-count-eq0-clause-all : goal.returns-then-count-eq0-clause-all
returns-then-count-eq0-clause-all g c =
    last_members _ _ _ _ _ _ c.loop.invariant.all c.if-count-eq0.true
    c.in_ok-count.ensures.bytes.0

pub returns-then-count-eq0-clause-ended : goal.returns-then-count-eq0-clause-ended
returns-then-count-eq0-clause-ended g c =
    c.in_ok-count.ensures.bytes.1 c.if-count-eq0.true (omega (arith, c.in_ok-count.ensures.same))
