use Rattle.std.proofs.lemmas.Result.{on_ok_weaker}
use Rattle.process_build.proofs.observe.shown_numbers.write_line.Goals as goal

pub returns : goal.returns
returns g c =
    on_ok_weaker c.write_all.result
    (λ appends. (
      c.text_of.result.now,
      (c.text-text.result, c.text-text.ensures, c.text_of.ensures),
      appends,
    ))
    c.write_all.ensures.bytes
