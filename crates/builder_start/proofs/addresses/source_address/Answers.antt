use Rattle.std.proofs.Common.{◌≡◌, ◌∙◌, true, List, None, ap, sym}
use Rattle.std.specs.List.{list_any}
use Rattle.nix_names.specs.Bytes.{Path}
use Rattle.nix_names.specs.Names.{same_bytes}
use Rattle.valid_table.specs.PathInfos.{NarInfo}
use Rattle.builder_start.specs.Addresses.{source_address}
use Rattle.builder_start.proofs.addresses.source_address.Goals as goal

-- a path that refers to itself has no address as a source
self_has_none : (references : List Path) (path : Path) (nar : NarInfo)
    → list_any (λ reference. same_bytes reference path) references ≡ true
    → source_address references path nar ≡ None
self_has_none references path nar itself = rw itself

pub returns-then-contains : goal.returns-then-contains
returns-then-contains c =
    rw (← c.in-Some.ensures) (sym (self_has_none c.args.row.now.info.references
    c.args.row.now.path c.in-Some.nar
    (ap (list_any (λ reference. same_bytes reference c.args.row.now.path))
    (sym c.references-references.ensures.value) ∙ sym c.contains.ensures.value
    ∙ c.if-contains.true)))
