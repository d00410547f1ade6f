use Rattle.std.proofs.Common.{◌∙◌, codes}
use Rattle.std.specs.Option.{option_map}
use Rattle.run_report.specs.Words.{output_words, text_or_number}
use Rattle.run_report.proofs.Wordings.{joined, on_ok, value_added}
use Rattle.run_report.proofs.words.write_not_allowed.Goals as goal

pub returns : goal.returns
returns c =
    value_added _ _ _ _ _ _ (codes "NotAllowed") _ c.in_ok-extend_from_slice.ensures.items
    c.in_ok-extend_from_slice-2.ensures.items
    (c.in_ok-write_reference.ensures
    ∙ joined c.extend_from_slice-2.new.self.items (output_words c.args.drv.now c.args.output)
    (codes ",") (text_or_number (option_map (λ path. path.now) c.args.named) c.args.index))
    (on_ok _ _ _ _ c.extend_from_slice-3.ensures.items)
