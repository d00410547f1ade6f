use Rattle.std.proofs.Common.{arith, ◌≡◌, ◌∷◌, ◌++◌, ap, length, subst, ◌∙◌}
use Rattle.std.specs.Prelude.{slice_index}
use Rattle.nix_archive.specs.private.Ready.{IsTied}
use Rattle.nix_archive.proofs.Bytes.{higher_free, longer_free, lower_none, next_is, same_none, same_tied}
use Rattle.nix_archive.proofs.name.tie_after.Goals as goal

pub returns-then-before-seen : goal.returns-then-before-seen
returns-then-before-seen c = λ size h more.
    let t = subst (λ t. IsTied t size c.args.seen.now c.args.before.now) c.in-Tied.is h in
    longer_free c.args.seen.now c.args.before.now _ c.args.byte t.0 c.if-before-seen.true more

pub returns-then-byte-next : goal.returns-then-byte-next
returns-then-byte-next c = λ size h more.
    let t = subst (λ t. IsTied t size c.args.seen.now c.args.before.now) c.in-Tied.is h in
    let n = next_is c.args.seen.now c.args.before.now _ t.0 c.if-before-seen.false in
    higher_free c.args.seen.now c.args.before.now n.0 _ c.args.byte n.1 c.if-byte-next.true more

pub returns-then-byte-next-2 : goal.returns-then-byte-next-2
returns-then-byte-next-2 c = λ size h more long are a.
    let t = subst (λ t. IsTied t size c.args.seen.now c.args.before.now) c.in-Tied.is h in
    let n = next_is c.args.seen.now c.args.before.now _ t.0 c.if-before-seen.false in
    lower_none c.args.seen.now c.args.before.now n.0 _ c.args.byte n.1 c.if-byte-next-2.true more a

pub returns-then-most-seen : goal.returns-then-most-seen
returns-then-most-seen c = λ size h more long are a.
    let t = subst (λ t. IsTied t size c.args.seen.now c.args.before.now) c.in-Tied.is h in
    let n = next_is c.args.seen.now c.args.before.now _ t.0 c.if-before-seen.false in
    let same : slice_index c.args.before.now (length c.args.seen.now) ≡ c.args.byte = omega
    (arith, c.if-byte-next.false, c.if-byte-next-2.false) in
    same_none c.args.seen.now c.args.before.now n.0 c.args.byte c.in-Tied.most size
    (n.1 ∙ ap (λ b. c.args.seen.now ++ b ∷ n.0) same) c.if-most-seen.true t.2 more long are a

pub returns : goal.returns
returns c = λ size h.
    let t = subst (λ t. IsTied t size c.args.seen.now c.args.before.now) c.in-Tied.is h in
    let n = next_is c.args.seen.now c.args.before.now _ t.0 c.if-before-seen.false in
    let same : slice_index c.args.before.now (length c.args.seen.now) ≡ c.args.byte = omega
    (arith, c.if-byte-next.false, c.if-byte-next-2.false) in
    let is = same_tied c.args.seen.now c.args.before.now n.0 c.args.byte c.in-Tied.most size
    (n.1 ∙ ap (λ b. c.args.seen.now ++ b ∷ n.0) same) c.if-most-seen.false t.2 in is
