-- Tokens that spell a value are read as that value.
use Rattle.std.proofs.Common.{◌≡◌, ℕ, ◌≤◌, List, [], Some, sym, ap, ◌∙◌, arith, append-nil}
use Rattle.json.specs.Lex.{tokens}
use Rattle.json.specs.Json as json
use Rattle.json.specs.Tree as tree
use Rattle.json.proofs.Printed.Trees.{value-json_tokens}
use Rattle.serde_json.specs.Data.{Data}
use Rattle.structured_attrs.specs.Reading.{data_of, max_depth, read}
use Rattle.structured_attrs.proofs.ReadSteps.{whole}

pub read_back : (d : Data) (j : json.Json) (text : List ℕ) → data_of j ≡ Some d → tree.depth j ≤ max_depth → tokens text ≡ tree.json_tokens j → read text ≡ Some d
read_back d j text is shallow same =
    ap whole (ap (json.value max_depth) (same ∙ sym (append-nil _)) ∙ value-json_tokens j max_depth [] shallow) ∙ is
