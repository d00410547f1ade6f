-- Sums of bytes join.
use Rattle.std.specs.Prelude.{◌≡◌, ◌+◌, ◌-◌, ◌^◌, ℕ, List, [], ◌++◌, length, min}
use Rattle.std.proofs.Common.{append-nil, append_assoc, arith, length-append, subst, sym}
use Rattle.nix_archive.specs.Trees.{Bytes}
use Rattle.nix_archive.specs.Sums.{IsSummed}

pub summed_none : {D : Type 0} (holds : D → List ℕ → Type 0) (count : ℕ) (hasher : D)
    → IsSummed holds [] count hasher count hasher
summed_none holds count hasher = record {
  counted = λ lt. omega arith;
  held = λ before h. subst (holds hasher) (sym (append-nil before)) h;
}

pub summed_both : {D : Type 0} (holds : D → List ℕ → Type 0) (first then : Bytes)
    (count between counts : ℕ) (hasher middle hashes : D)
    → IsSummed holds first count hasher between middle
    → IsSummed holds then between middle counts hashes
    → IsSummed holds (first ++ then) count hasher counts hashes
summed_both holds first then count between counts hasher middle hashes a b = record {
  counted = λ lt.
      let long : length (first ++ then) ≡ length first + length then = length-append first then in
      let one : between ≡ min (count + length first) (2 ^ 64 - 1) = a.counted lt in
      let two : counts ≡ min (between + length then) (2 ^ 64 - 1) =
      b.counted (omega (arith, one)) in
      omega (arith, long, one, two);
  held = λ before h. subst (holds hashes) (append_assoc before first then)
      (b.held (before ++ first) (a.held before h));
}
