use Rattle.std.proofs.Common.{◌≡◌, ◌++◌, [], ◌∷◌, None, String, Global, map, string_bytes, sym, ap, ◌∙◌, arith}
use Rattle.std.proofs.lemmas.List.{map-append}
use Rattle.serde_json.specs.View.{view, members_view}
use Rattle.structured_attrs.specs.Graphs.{member_requests, request_texts, shown_request}
use Rattle.structured_attrs.proofs.Gathered.{gathered, gathered-missing, gathered-more}
use Rattle.structured_attrs.proofs.graph.requests_of.Goals as goal

pub members-preserved : goal.members-preserved
members-preserved c =
    let l = c.members in
    let r = c.in_ok-request_of.field-0 in
    let done = map shown_request l.requests.items in
    let key = string_bytes c.in-Some.key.now in
    let texts = map (λ (s : String Global). string_bytes s) r.paths.items in
    let rest = member_requests (members_view c.next.new.self) in
    let shown : map shown_request c.push.new.self.items ≡ done ++ (key, texts) ∷ [] =
    ap (map shown_request) c.in_ok-push.ensures.items ∙ map-append shown_request l.requests.items (r ∷ [])
    ∙ ap (λ k. done ++ (k, texts) ∷ []) c.in_ok-request_of.ensures.key in
    ap (λ so_far. gathered so_far rest) shown
    ∙ sym (gathered-more (λ given. (key, given) ∷ []) done (request_texts key (view c.in-Some.member.now)) texts rest c.in_ok-request_of.ensures.ok)
    ∙ ap (λ es. gathered done (member_requests (members_view es))) (sym c.in-Some.ensures.steps) ∙ l.invariant

pub returns-in_err-request_of-clause-bad : goal.returns-in_err-request_of-clause-bad
returns-in_err-request_of-clause-bad c refused =
    let l = c.members in
    let done = map shown_request l.requests.items in
    let key = string_bytes c.in-Some.key.now in
    let missing : request_texts key (view c.in-Some.member.now) ≡ None = c.request_of.ensures.bad (grind arith) in
    sym l.invariant ∙ ap (λ es. gathered done (member_requests (members_view es))) c.in-Some.ensures.steps
    ∙ gathered-missing (λ texts. (key, texts) ∷ []) done (request_texts key (view c.in-Some.member.now)) (member_requests (members_view c.next.new.self)) missing
