-- What a sink printed.
use Rattle.std.specs.Prelude.{◌≡◌, Bool, false, List, [], ◌++◌, ℕ, Option, Some, None}
use Rattle.std.specs.Io.KnownBytes.{Appends}
use Rattle.std.proofs.Common.{◌∙◌, ap, append-nil, append_assoc, refl, sym}
use Rattle.nix_names.specs.Bytes.{Bytes}
use Rattle.nix_realise.specs.declared.archives.dump.PrintSink.{PrintSink}

-- The sink is still that of the same writer; and where no write was refused, none was before, and
-- these bytes were printed.
abbrev pub IsPrinted : {O : Type 0} (contents : O → Option (List ℕ)) → PrintSink O → Bytes
    → PrintSink O → Type 0
IsPrinted contents s bytes t =
    (t.out.ghost_name ≡ s.out.ghost_name)
    × (t.refused ≡ false → (s.refused ≡ false)
    × Appends (contents s.out.now) (contents t.out.now) bytes)

appends_none : (held : Option (List ℕ)) → Appends held held []
appends_none None = tt
appends_none (Some bytes) = sym (append-nil bytes)

-- bytes that are printed one after the other
pub appends_both : (a b c : Option (List ℕ)) (first then : List ℕ) → Appends a b first
    → Appends b c then → Appends a c (first ++ then)
appends_both None b c first then h g = tt
appends_both (Some x) None c first then h g = absurd h
appends_both (Some x) (Some y) None first then h g = g
appends_both (Some x) (Some y) (Some z) first then h g =
    g ∙ ap (λ l. l ++ then) h ∙ append_assoc x first then

pub printed_none : {O : Type 0} (contents : O → Option (List ℕ)) (s : PrintSink O)
    → IsPrinted contents s [] s
printed_none contents s = (refl, λ fine. (fine, appends_none (contents s.out.now)))

pub printed_both : {O : Type 0} (contents : O → Option (List ℕ)) (s m t : PrintSink O)
    (before after : List ℕ)
    → IsPrinted contents s before m → IsPrinted contents m after t
    → IsPrinted contents s (before ++ after) t
printed_both contents s m t before after h g = (
  g.0 ∙ h.0,
  λ fine.
      let last = g.1 fine in
      let first = h.1 last.0 in (
        first.0,
        appends_both (contents s.out.now) (contents m.out.now) (contents t.out.now) before after
            first.1 last.1,
      ),
)
