use Rattle.std.proofs.Common.{◌≤◌, length, map}
use Rattle.nix_drv.specs.Parts.{bytes_of}
use Rattle.process_build.specs.Contents.{AreMembersRead}
use Rattle.process_build.specs.private.Walking.{AreNames}
use Rattle.process_build.proofs.walk.entry_names.read_names.Given as goal

-- the names of the members that were read so far
abbrev pub invariant-loop : goal.invariant-loop
invariant-loop g l = record {
  are : AreNames l.names.items;
  most : length l.names.items ≤ l.most;
  all : AreMembersRead (g.F.Read.remaining l.fn.folder) (g.F.Read.remaining l.folder)
      (map bytes_of l.names.items);
}
