use Rattle.std.proofs.Common.{append_assoc}
use Rattle.process_build.specs.Progress.{number_words}
use Rattle.process_build.proofs.observe.counts.Numbers.words.Goals as goal

pub returns : goal.returns
unfolding number_words
returns c = simp append_assoc c.format.ensures.ok
