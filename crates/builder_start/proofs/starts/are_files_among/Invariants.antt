-- The first paths that are derivations' files are among the files.
use Rattle.std.proofs.Common.{take}
use Rattle.builder_start.proofs.GraphStarts.{AreFilesAmong}
use Rattle.builder_start.proofs.starts.are_files_among.Given as goal

abbrev pub invariant-paths : goal.invariant-paths
invariant-paths l = AreFilesAmong (take l.path-index l.paths) l.files
