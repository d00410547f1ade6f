use Rattle.std.proofs.Common.{◌≡◌, [], rules}
use Rattle.json.specs.Lex.{tokens}
use Rattle.json.specs.Json.{value}
use Rattle.structured_attrs.proofs.ReadSteps.{whole_read}
use Rattle.structured_attrs.proofs.Nesting.{depth-read}
use Rattle.structured_attrs.proofs.reading.read_value.Goals as goal

pub returns-clause-nests : goal.returns-clause-nests
returns-clause-nests c =
    let none : c.read.new.reader ≡ [] = search rules in
    depth-read c.args.text.now _ (whole_read (value 127 (tokens c.args.text.now)) _ (rw (c.in_ok-reader.ensures.ok, none) at c.in_ok-value.ensures.ok))
