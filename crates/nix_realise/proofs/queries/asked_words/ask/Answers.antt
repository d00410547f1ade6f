use Rattle.nix_realise.proofs.CheckGroups.{found_push, found_same, words_push}
use Rattle.nix_realise.specs.declared.queries.asked_words.AskedWord.{AskedWord}
use Rattle.nix_realise.proofs.queries.asked_words.ask.Goals as goal

pub loop-word-preserved : goal.loop-word-preserved
loop-word-preserved g c =
    let last : AskedWord = record { word = c.as_bytes-word.result; found = c.in_ok-found.found } in
    let found =
    found_same (g.S.DrvSource.gives c.args.source.now) (g.S.DrvSource.gives c.loop-word.source)
    c.args.dir.now c.as_bytes-word.result.now c.in_ok-found.found c.loop-word.invariant.keeps
    c.in_ok-found.ensures.found in
    record {
      keeps = λ path answer.
          let before = c.loop-word.invariant.keeps path answer in
          let now = c.find.ensures.keeps path answer in
          (λ given. now.0 (before.0 given), λ given. before.1 (now.1 given));
      words_are =
          words_push c.loop-word.asked.items c.push.new.self.items last c.args.words.now
          c.loop-word.word-index _ c.loop-word-test.true c.as_bytes-word.ensures.value
          c.in_ok-push.ensures.items c.loop-word.invariant.words_are;
      each =
          found_push (g.S.DrvSource.gives c.args.source.now) c.args.dir.now
          c.loop-word.asked.items c.push.new.self.items last c.in_ok-push.ensures.items
          c.loop-word.invariant.each found;
    }
