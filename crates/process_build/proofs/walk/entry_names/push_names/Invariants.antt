use Rattle.std.proofs.Common.{◌≡◌, ◌++◌, map}
use Rattle.nix_drv.specs.Parts.{bytes_of}
use Rattle.process_build.specs.private.Walking.{AreNames}
use Rattle.process_build.proofs.walk.entry_names.push_names.Given as goal

-- the names of the members so far are added
abbrev pub invariant-loop-name : goal.invariant-loop-name
invariant-loop-name l = record {
  are : AreNames l.names.items;
  all : map bytes_of l.names.items ≡ map bytes_of l.fn.names.items ++ map (λ n. n.now) l.yielded;
}
