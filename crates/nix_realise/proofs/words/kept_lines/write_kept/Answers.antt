use Rattle.std.proofs.Common.{◌∙◌, ◌++◌, ap}
use Rattle.nix_realise.specs.LastLines.{kept_line}
use Rattle.nix_realise.proofs.LastLines.{line_more}
use Rattle.nix_realise.proofs.words.kept_lines.write_kept.Goals as goal

pub leases-preserved : goal.leases-preserved
leases-preserved c =
    let line = kept_line c.args.run.now c.args.build_dir.now in
    line_more line c.args.leases.now c.leases.lease-index c.lease-item.result c.leases.out.items _ _
    c.leases-test.true
    (c.in_ok-write_kept_line.ensures
    ∙ ap (λ k. c.leases.out.items ++ line k) c.lease-item.is)
    c.leases.invariant
