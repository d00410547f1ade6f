-- What contracts say of a derivation's parts: the lists of bytes in the program's structures.
use Rattle.std.specs.Prelude.{ℕ, map, Vec}
use Rattle.std.specs.declared.alloc.Global.{Global}
use Rattle.nix_names.specs.Bytes.{Bytes, Path}
use Rattle.nix_drv.specs.declared.derivation.Output.{Output as OutputStruct}
use Rattle.nix_drv.specs.declared.derivation.Input.{Input as InputStruct}
use Rattle.nix_drv.specs.declared.derivation.EnvEntry.{EnvEntry as EnvEntryStruct}
use Rattle.nix_drv.specs.declared.derivation.Parts.{Parts}
use Rattle.nix_drv.specs.declared.forms.BuildParts.{BuildParts}
use Rattle.nix_drv.specs.Grammar.{Value}
use Rattle.nix_drv.specs.Derivation.{Output, Input, EnvEntry, Drv, output_value, input_value, entry_value, build_form, derivation_form}

-- the bytes of a vector
abbrev pub bytes_of : Vec ℕ Global → Bytes
bytes_of v = v.items

-- the path of an input derivation
abbrev pub path_of : InputStruct → Path
path_of i = i.path.items

-- the output that a structure holds
abbrev pub output_of : OutputStruct → Output
output_of o = record {
  name = o.name.items;
  path = o.path.items;
  algo = o.algo.items;
  hash = o.hash.items;
}

-- the input derivation that a structure holds
abbrev pub input_of : InputStruct → Input
input_of i = record { path = i.path.items; names = map bytes_of i.names.items }

-- the entry of the environment that a structure holds
abbrev pub entry_of : EnvEntryStruct → EnvEntry
entry_of e = record { key = e.key.items; value = e.value.items }

-- the derivation of some parts
abbrev pub drv_of : Parts → Drv
drv_of p = record {
  outputs = map output_of p.outputs.items;
  inputs = map input_of p.inputs.items;
  sources = map bytes_of p.sources.items;
  system = p.system.items;
  builder = p.builder.items;
  args = map bytes_of p.args.items;
  env = map entry_of p.env.items;
}

-- The system, builder, arguments and environment of some parts as a value of their form. It is
-- equal to `build_value (drv_of p)`, but has one `map` over each list.
abbrev pub parts_build : Parts → Value build_form
parts_build p = (
  p.system.items,
  (
    tt,
    (
      p.builder.items,
      (
        tt,
        (
          map bytes_of p.args.items,
          (tt, (map (λ (e : EnvEntryStruct). entry_value (entry_of e)) p.env.items, tt)),
        ),
      ),
    ),
  ),
)

-- the system, the builder, the arguments and the environment of the structure that holds just these
abbrev pub build_of : BuildParts → Value build_form
build_of b = (
  b.system.items,
  (
    tt,
    (
      b.builder.items,
      (
        tt,
        (
          map bytes_of b.args.items,
          (tt, (map (λ (e : EnvEntryStruct). entry_value (entry_of e)) b.env.items, tt)),
        ),
      ),
    ),
  ),
)

-- some parts as a value of a derivation's form, with one `map` over each list
abbrev pub parts_value : Parts → Value derivation_form
parts_value p = (
  tt,
  (
    map (λ (o : OutputStruct). output_value (output_of o)) p.outputs.items,
    (
      tt,
      (
        map (λ (i : InputStruct). input_value (input_of i)) p.inputs.items,
        (tt, (map bytes_of p.sources.items, (tt, parts_build p))),
      ),
    ),
  ),
)
