-- The paths of the first texts were found.
use Rattle.std.proofs.Common.{◌≡◌, All, take}
use Rattle.valid_table.specs.Valid.{IsValid}
use Rattle.builder_start.specs.private.Shown.{texts_of}
use Rattle.builder_start.proofs.requests.paths_of.Given as goal

abbrev pub invariant-texts : goal.invariant-texts
invariant-texts l = record {
  ok : l.paths.items ≡ texts_of (take l.text-index l.texts);
  valid : All (IsValid l.rows) l.paths.items;
}
