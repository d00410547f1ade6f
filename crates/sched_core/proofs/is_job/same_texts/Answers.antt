use Rattle.std.proofs.Common.{◌∙◌, map, nat_eq, sym}
use Rattle.std.specs.Cmp.Derive.Mapped.{pointwise-map}
use Rattle.std.specs.Cmp.Lexicographic.{pointwise, pointwise_decides, bytes_decides}
use Rattle.nix_drv.specs.Parts.{bytes_of}
use Rattle.sched_core.proofs.is_job.same_texts.Goals as goal

pub returns : goal.returns
returns c =
    let same = c.eq.ensures
    ∙ sym (pointwise-map bytes_of (pointwise nat_eq) c.args.left.now c.args.right.now) in
    rw same (pointwise_decides bytes_decides (map bytes_of c.args.left.now)
    (map bytes_of c.args.right.now))
