use Rattle.std.proofs.Common.{rules, ◌≡◌, ◌∙◌, ap, sym, append_assoc, Bor, List, ℕ, ◌++◌, map}
use Rattle.std.proofs.lemmas.List.{map-append}
use Rattle.nix_realise.proofs.CheckGroups.{all_found_same, report_join}
use Rattle.nix_realise.proofs.queries.check.check_lines.Goals as goal

pub loop-group-preserved : goal.loop-group-preserved
loop-group-preserved g c =
    let done : List (Bor (List ℕ)) = c.loop-group.invariant.done in
    let group : List (Bor (List ℕ)) = c.in-Some.group.now in
    let rest : List (Bor (List ℕ)) = c.next.new.self.rest.now in
    let cut : c.loop-group.group-iterator.rest.now ≡ group ++ rest = search rules in
    let found =
    all_found_same (g.S.DrvSource.gives c.args.source.now)
    (g.S.DrvSource.gives c.loop-group.source) c.args.dir.now c.in_ok-asked.asked.items
    c.loop-group.invariant.keeps c.in_ok-asked.ensures.each in
    let added = rw c.deref-in-loop-group.ensures.value at c.in_ok-add_group.ensures.added in
    let joined =
    report_join (g.S.DrvSource.gives c.args.source.now) c.args.dir.now (map (λ w. w.now) done) _ _
    c.in_ok-asked.asked.items (map (λ w. w.now) group) _ _ c.loop-group.invariant.report found
    c.in_ok-asked.ensures.words_are added in
    record {
      keeps = λ path answer.
          let before = c.loop-group.invariant.keeps path answer in
          let now = c.ask.ensures.keeps path answer in
          (λ given. now.0 (before.0 given), λ given. before.1 (now.1 given));
      done = done ++ group;
      words_are =
          append_assoc done group rest ∙ ap (λ (ws : List (Bor (List ℕ))). done ++ ws) (sym cut)
          ∙ c.loop-group.invariant.words_are;
      report = rw (map-append (λ (w : Bor (List ℕ)). w.now) done group) joined;
    }
