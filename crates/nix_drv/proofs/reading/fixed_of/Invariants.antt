use Rattle.std.proofs.Common.{◌≡◌, drop}
use Rattle.nix_drv.specs.private.Reading.{fixed_at}
use Rattle.nix_drv.proofs.reading.fixed_of.Given as goal

-- what is left of the bytes that are wanted is to be read from the rest
abbrev pub invariant-wanted : goal.invariant-wanted
invariant-wanted l = fixed_at (drop l.byte-index l.wanted) l.rest ≡ fixed_at l.wanted l.bytes
