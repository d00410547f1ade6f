-- The language of store derivations (Nix manual, "Store Derivation"; Dolstra, "The Purely
-- Functional Software Deployment Model", 2006, section 5.4).
use Rattle.std.specs.Prelude.{List, map, codes}
use Rattle.nix_names.specs.Bytes.{Bytes, Path, Name}
use Rattle.nix_drv.specs.Grammar.{Rising, Free, Grammar, Value, Fixed, Str, Then, Many, IsText}
use Rattle.nix_drv.specs.Order.{InOrder}

-- a comma
abbrev pub comma : Grammar
comma = Fixed (codes ",")

-- the form of an output: `(` name, path, algorithm, hash `)`
abbrev pub output_form : Grammar
output_form =
    Then (Fixed (codes "("))
    (Then Str
    (Then comma (Then Str (Then comma (Then Str (Then comma (Then Str (Fixed (codes ")")))))))))

-- the form of an input derivation: `(` path, names of its outputs `)`
abbrev pub input_form : Grammar
input_form = Then (Fixed (codes "("))
    (Then Str (Then comma (Then (Many Rising Str) (Fixed (codes ")")))))

-- the form of an entry of the environment: `(` key, value `)`
abbrev pub entry_form : Grammar
entry_form = Then (Fixed (codes "(")) (Then Str (Then comma (Then Str (Fixed (codes ")")))))

-- the end of a derivation's form: system, builder, arguments, environment `)`
abbrev pub build_form : Grammar
build_form = Then Str
    (Then comma
    (Then Str
    (Then comma
    (Then (Many Free Str) (Then comma (Then (Many Rising entry_form) (Fixed (codes ")"))))))))

-- the form of a derivation: `Derive(` outputs, input derivations, sources, and the end
abbrev pub derivation_form : Grammar
derivation_form =
    Then (Fixed (codes "Derive("))
    (Then (Many Rising output_form)
    (Then comma
    (Then (Many Rising input_form)
    (Then comma (Then (Many Rising Str) (Then comma build_form))))))

-- An output. Its path is empty in a draft. Where its content is fixed, `algo` says how it is
-- hashed, as `r:sha256`, and `hash` is its hash in hexadecimal digits; else both are empty.
pub record Output : Type 0 where
  pub name : Name
  pub path : Path
  pub algo : Bytes
  pub hash : Bytes

-- An input derivation: the path of its text, and the names of those of its outputs that are used.
pub record Input : Type 0 where
  pub path : Path
  pub names : List Name

-- A variable of the builder's environment, and its value.
pub record EnvEntry : Type 0 where
  pub key : Name
  pub value : Bytes

-- A derivation: outputs, input derivations, the paths of its sources, and how it is built.
pub record Drv : Type 0 where
  pub outputs : List Output
  pub inputs : List Input
  pub sources : List Path
  pub system : Bytes
  pub builder : Bytes
  pub args : List Bytes
  pub env : List EnvEntry

-- an output as a value of its form
abbrev pub output_value : Output → Value output_form
output_value o = (tt, (o.name, (tt, (o.path, (tt, (o.algo, (tt, (o.hash, tt))))))))

-- an input derivation as a value of its form
abbrev pub input_value : Input → Value input_form
input_value i = (tt, (i.path, (tt, (i.names, tt))))

-- an entry of the environment as a value of its form
abbrev pub entry_value : EnvEntry → Value entry_form
entry_value e = (tt, (e.key, (tt, (e.value, tt))))

-- a derivation's system, builder, arguments and environment as a value of their form
abbrev pub build_value : Drv → Value build_form
build_value d = (d.system, (tt, (d.builder, (tt, (d.args, (tt, (map entry_value d.env, tt)))))))

-- a derivation as a value of its form
abbrev pub drv_value : Drv → Value derivation_form
drv_value d = (
  tt,
  (
    map output_value d.outputs,
    (tt, (map input_value d.inputs, (tt, (d.sources, (tt, build_value d))))),
  ),
)

-- the bytes are the derivation's text, whether or not it keeps the order rules
abbrev pub IsLooseText : Drv → Bytes → Type 0
IsLooseText drv bytes = IsText derivation_form (drv_value drv) bytes

-- The bytes are the derivation's text, and it keeps the order rules.
pub record IsDrvText (drv : Drv) (bytes : Bytes) : Type 0 where
  pub is_text : IsLooseText drv bytes
  pub in_order : InOrder derivation_form (drv_value drv)
