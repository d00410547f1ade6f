-- So many readers were made, in the room for all. Each was told of the list that is shown, and has
-- seen the one without entries.
use Rattle.std.proofs.Common.{◌≡◌, [], All, length, vec_capacity}
use Rattle.valid_view.specs.Answers.{Knowing}
use Rattle.valid_view.proofs.opening.make_readers.Given as goal

abbrev pub invariant-loop : goal.invariant-loop
invariant-loop g l = (length l.readers.items ≡ l.counter) × (vec_capacity l.readers ≡ l.count)
    × All (λ (reader : Knowing). reader.told ≡ l.end.shown) l.readers.items
    × All (λ (reader : Knowing). reader.seen ≡ []) l.readers.items
