use Rattle.std.proofs.Common.{◌≡◌, [], ◌∷◌, None, String, Global, map, string_bytes, sym, ap, ◌∙◌, arith}
use Rattle.serde_json.specs.View.{view, members_view}
use Rattle.structured_attrs.specs.Strings.{value_texts, text_of}
use Rattle.structured_attrs.proofs.Gathered.{gathered, gathered-missing}
use Rattle.structured_attrs.proofs.strings.value_strings.Goals as goal

pub returns-in_err-string_of-clause-bad : goal.returns-in_err-string_of-clause-bad
returns-in_err-string_of-clause-bad c refused =
    let l = c.members in
    let done = map (λ (s : String Global). string_bytes s) l.strings.items in
    let missing : text_of (view c.in-Some.member.now) ≡ None = c.string_of.ensures.bad (grind arith) in
    sym l.invariant ∙ ap (λ es. gathered done (value_texts (members_view es))) c.in-Some.ensures.steps
    ∙ gathered-missing (λ text. text ∷ []) done (text_of (view c.in-Some.member.now)) (value_texts (members_view c.next.new.self)) missing
