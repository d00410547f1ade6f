use Rattle.std.proofs.Common.{◌≡◌, [], ◌∷◌, ◌++◌, option_map, option_and_then, refl, ap, ◌∙◌, arith, rules}
use Rattle.json.specs.Token.{begin_object}
use Rattle.json.specs.Json as json
use Rattle.json.specs.Lex.{tokens}
use Rattle.json.specs.Print.{print}
use Rattle.json.specs.Tree as tree
use Rattle.serde_json.specs.Data.{object}
use Rattle.serde_json.specs.View.{members_view}
use Rattle.structured_attrs.specs.Reading.{object_of}
use Rattle.structured_attrs.proofs.ReadBack.{read_back}
use Rattle.structured_attrs.proofs.attributes.Attributes.json_text.Goals as goal

pub returns-clause-text : goal.returns-clause-text
returns-clause-text c =
    let w = c.in_ok-write_members.ensures.ok in
    let opened : c.begin_object.new.self.tokens ≡ begin_object ∷ [] = search rules in
    let all : c.write_members.new.out.tokens ≡ tree.json_tokens (json.object w.0) = w.1 ∙ ap (λ ts. ts ++ tree.members_tokens w.0) opened in
    let empty : c.write_members.new.out.before ≡ [] = search rules in
    (json.object w.0, (w.0, refl, w.4), c.into_inner.ensures.items ∙ ap (λ before. before ++ print c.write_members.new.out.tokens) empty ∙ ap print all)

pub returns-clause-read_back : goal.returns-clause-read_back
returns-clause-read_back c =
    let w = c.in_ok-write_members.ensures.ok in
    let opened : c.begin_object.new.self.tokens ≡ begin_object ∷ [] = search rules in
    let all : c.write_members.new.out.tokens ≡ tree.json_tokens (json.object w.0) = w.1 ∙ ap (λ ts. ts ++ tree.members_tokens w.0) opened in
    let empty : c.write_members.new.out.before ≡ [] = search rules in
    let bytes = c.into_inner.ensures.items ∙ ap (λ before. before ++ print c.write_members.new.out.tokens) empty in
    let same = ap (λ b. tokens b) bytes ∙ c.into_inner.ensures.reads_back ∙ all in
    let nests = c.args.self.now.nests in
    ap (option_and_then object_of) (read_back (object (members_view c.args.self.now.members.entries)) (json.object w.0) _ (ap (option_map object) w.2) (omega (arith, w.3, nests)) same)
