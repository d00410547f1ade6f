-- The words for why a derivation was not built: the name of the reason or the refusal, and its
-- value in parentheses (this product's own).
use Rattle.std.specs.Prelude.{ℕ, Option, Some, None, List, ◌++◌, map, codes, decimal, slice_get}
use Rattle.std.specs.Fmt.{signed_decimal}
use Rattle.nix_names.specs.Bytes.{Bytes, Path}
use Rattle.nix_drv.specs.Derivation.{Drv, Output}
use Rattle.nix_drv.specs.Strings.{string_text}
use Rattle.drv_graph.specs.Nodes.{Node, paths_of}
use Rattle.drv_graph.specs.PlanNodes.{output_paths_of}
use Rattle.build_outcome.specs.declared.reason.Reason.{Reason}
use Rattle.build_outcome.specs.declared.reason.Reason.TheVariants.{ExitStatus, NoStart, MissingOutput, NotFlatFile, HashMismatch, OutputCycle, TooLarge, ReadFault, OutOfMemory, Killed, BadMode, NotAllowed, BadSpecifier, BadAttributes, BadGraph, UnknownNar, PastMaxSize, PastMaxClosureSize}
use Rattle.run_states.specs.Systems.{required_features}
use Rattle.run_states.specs.declared.state.Refusal.{Refusal}
use Rattle.run_states.specs.declared.state.Refusal.TheVariants.{WrongSystem, Unsupported, MissingFeature, MissingSource, InputNotRealised, PartlyValid}

-- a name and its value
abbrev pub with_value : (name value : Bytes) → Bytes
with_value name value = name ++ codes "(" ++ value ++ codes ")"

-- the text with a number, or the number itself where there is no such text
abbrev pub text_or_number : Option Bytes → (number : ℕ) → Bytes
text_or_number (Some text) number = text
text_or_number None number = decimal number

-- a name, and the one of some texts that has this number, counted from 0
abbrev pub with_text : (name : Bytes) → (texts : List Bytes) → (number : ℕ) → Bytes
with_text name texts number = with_value name (text_or_number (slice_get texts number) number)

-- the names of a derivation's outputs, as its text spells them, with their quotes
abbrev pub spelled_names : Drv → List Bytes
spelled_names drv = map (λ (o : Output). string_text o.name) drv.outputs

-- the features that a derivation asks for, as the derivations' language spells them, with their
-- quotes
abbrev pub spelled_features : Drv → List Bytes
spelled_features drv = map string_text (required_features drv)

-- the name of the output with this number, as the text of its derivation spells it
abbrev pub output_words : Drv → (output : ℕ) → Bytes
output_words drv output = text_or_number (slice_get (spelled_names drv) output) output

-- why the building of a derivation failed; of a path to which an output may not refer, or whose
-- archive is not known, its index is told where no path is named
abbrev pub reason_words : Drv → (named : Option Path) → Reason → Bytes
reason_words drv named (ExitStatus status) =
    with_value (codes "ExitStatus") (signed_decimal status)
reason_words drv named NoStart = codes "NoStart"
reason_words drv named (MissingOutput output) =
    with_value (codes "MissingOutput") (output_words drv output)
reason_words drv named NotFlatFile = codes "NotFlatFile"
reason_words drv named HashMismatch = codes "HashMismatch"
reason_words drv named OutputCycle = codes "OutputCycle"
reason_words drv named TooLarge = codes "TooLarge"
reason_words drv named ReadFault = codes "ReadFault"
reason_words drv named OutOfMemory = codes "OutOfMemory"
reason_words drv named Killed = codes "Killed"
reason_words drv named (BadMode output) = with_value (codes "BadMode") (output_words drv output)
reason_words drv named (NotAllowed output index) = with_value (codes "NotAllowed")
    (output_words drv output ++ codes "," ++ text_or_number named index)
reason_words drv named (BadSpecifier output) =
    with_value (codes "BadSpecifier") (output_words drv output)
reason_words drv named BadAttributes = codes "BadAttributes"
reason_words drv named BadGraph = codes "BadGraph"
reason_words drv named (UnknownNar index) =
    with_value (codes "UnknownNar") (text_or_number named index)
reason_words drv named (PastMaxSize output) =
    with_value (codes "PastMaxSize") (output_words drv output)
reason_words drv named (PastMaxClosureSize output) =
    with_value (codes "PastMaxClosureSize") (output_words drv output)

-- why a derivation of a plan, which has these nodes, is not begun
abbrev pub refusal_words : List Node → Drv → Refusal → Bytes
refusal_words nodes drv WrongSystem = codes "WrongSystem"
refusal_words nodes drv Unsupported = codes "Unsupported"
refusal_words nodes drv (MissingFeature feature) =
    with_text (codes "MissingFeature") (spelled_features drv) feature
refusal_words nodes drv (MissingSource source) =
    with_text (codes "MissingSource") drv.sources source
refusal_words nodes drv (InputNotRealised input) =
    with_text (codes "InputNotRealised") (paths_of nodes) input
refusal_words nodes drv (PartlyValid output) =
    with_text (codes "PartlyValid") (output_paths_of drv) output
