use Rattle.std.proofs.Common.{◌≡◌, ℕ, ◌<◌, ◌≤◌, true, false, List, ◌++◌, length, get_or, take, drop, Option, Result, Ok, ap, ◌∙◌, rules}
use Rattle.nix_drv.specs.private.Reading.{before, bytes_at}
use Rattle.nix_drv.specs.Strings.{is_plain}
use Rattle.nix_drv.proofs.Runs.{run_read, byte_fails, byte_more, byte_none}
use Rattle.nix_drv.proofs.Stopping.{gives_stop}
use Rattle.nix_drv.proofs.reading.spelled_of.Goals as goal

-- after the run of plain bytes
after_run : (items more rest run special : List ℕ) (n : ℕ) (total : Result (List ℕ × List ℕ) ℕ)
    → n ≤ length rest → ((k : ℕ) → k < n → is_plain (get_or rest k 0) ≡ true)
    → before items (bytes_at false rest) ≡ total → more ≡ items ++ run → run ≡ take n rest
    → special ≡ drop n rest → before more (bytes_at false special) ≡ total
after_run items more rest run special n total fits plain so_far is prefix back =
    search (rules, run_read)

pub returns-in_err-byte : goal.returns-in_err-byte
returns-in_err-byte c = gives_stop _ _ _ _ c.from_residual-in_err-byte.ensures.1
    (byte_fails _ _ _ _
    (after_run _ _ _ _ _ _ _
    c.plain_len.ensures.within c.plain_len.ensures.plain c.bytes.invariant
    c.in_ok-extend_from_slice.ensures.items c.split_at.ensures.front c.split_at.ensures.back)
    c.in_err-byte.ensures)

pub bytes-preserved : goal.bytes-preserved
bytes-preserved c = rw c.in_ok-push-in-Some-default.ensures.items
    (byte_more _ _ _ _ _
    (after_run _ _ _ _ _ _ _
    c.plain_len.ensures.within c.plain_len.ensures.plain c.bytes.invariant
    c.in_ok-extend_from_slice.ensures.items c.split_at.ensures.front c.split_at.ensures.back)
    (c.in_ok-byte.ensures ∙ ap (λ (o : Option ℕ). Ok (o, c.in_ok-byte.field-0.1.now))
    c.in-Some-default.is-0))

pub returns-in-None-default : goal.returns-in-None-default
returns-in-None-default c = byte_none _ _ _ _
    (after_run _ _ _ _ _ _ _
    c.plain_len.ensures.within c.plain_len.ensures.plain c.bytes.invariant
    c.in_ok-extend_from_slice.ensures.items c.split_at.ensures.front c.split_at.ensures.back)
    (c.in_ok-byte.ensures ∙ ap (λ (o : Option ℕ). Ok (o, c.in_ok-byte.field-0.1.now))
    c.in-None-default.is-0)
