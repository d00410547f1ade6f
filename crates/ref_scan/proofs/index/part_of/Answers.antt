use Rattle.std.proofs.Common.{sym}
use Rattle.ref_scan.proofs.HashParts.{hash_part_long}
use Rattle.ref_scan.proofs.index.part_of.Goals as goal

pub copy_from_slice-requires : goal.copy_from_slice-requires
copy_from_slice-requires c = sym (hash_part_long c.hash_part.result.now c.hash_part.ensures.is_hash)
