-- Steps of a reader, by what may follow.
use Rattle.std.proofs.Common.{◌≡◌, ◌≢◌, ◌∙◌, ℕ, ◌<◌, ◌^◌, List, [], ◌∷◌, ◌++◌, length, refl, ap, sym, subst, inl, inr, append_assoc, get_or}
use Rattle.std.specs.Int.{w64, from_le_bytes}
use Rattle.std.proofs.Math.ListN.{replicate}
use Rattle.std.proofs.lemmas.Nat.{from_le_bytes-to_le_bytes_8, le_bytes_8}
use Rattle.nix_archive.specs.Trees.{AreBytes, Bytes}
use Rattle.nix_archive.specs.Archive.{padding, size_text, str}
use Rattle.nix_archive.specs.Tokens.{Token}
use Rattle.nix_archive.specs.Parts.{After, Says, Either, Sized, Counted}
use Rattle.nix_archive.specs.Reading.{IsSame, IsStep, IsRefused}
use Rattle.nix_archive.specs.private.Takes.{Unheard}
use Rattle.nix_archive.proofs.Telling.{cut, size_long}

pub same : (P : List Token → Bytes → Type 0) → IsSame P P
same P = record { to = λ ts u h. h; from = λ ts u h. h }

pub after_both : (a b : Bytes) (P : List Token → Bytes → Type 0)
    → IsSame (After a (After b P)) (After (a ++ b) P)
after_both a b P = record {
  to = λ ts u h. record {
    rest = h.follows.rest;
    begins = h.begins ∙ ap (λ l. a ++ l) h.follows.begins ∙ sym (append_assoc a b h.follows.rest);
    follows = h.follows.follows;
  };
  from = λ ts u h. record {
    rest = b ++ h.rest;
    begins = h.begins ∙ append_assoc a b h.rest;
    follows = record { rest = h.rest; begins = refl; follows = h.follows };
  };
}

pub after_same : (a : Bytes) {P Q : List Token → Bytes → Type 0} → IsSame P Q
    → IsSame (After a P) (After a Q)
after_same a e = record {
  to = λ ts u h. record { rest = h.rest; begins = h.begins; follows = e.to ts h.rest h.follows };
  from = λ ts u h. record {
    rest = h.rest;
    begins = h.begins;
    follows = e.from ts h.rest h.follows;
  };
}

pub after_none : (P : List Token → Bytes → Type 0) → IsSame P (After [] P)
after_none P = record {
  to = λ ts u h. record { rest = u; begins = refl; follows = h };
  from = λ ts u h. subst (P ts) (sym h.begins) h.follows;
}

pub same_both : {P Q R : List Token → Bytes → Type 0} → IsSame P Q → IsSame Q R → IsSame P R
same_both e f = record {
  to = λ ts u h. f.to ts u (e.to ts u h);
  from = λ ts u h. e.from ts u (f.from ts u h);
}

pub fixed_in : (byte : ℕ) (text : Bytes) (P : List Token → Bytes → Type 0) (ts : List Token)
    (u : Bytes) → After text P ts u → After (byte ∷ text) P ts (byte ∷ u)
fixed_in byte text P ts u h = record {
  rest = h.rest;
  begins = ap (λ l. byte ∷ l) h.begins;
  follows = h.follows;
}

pub fixed_out : (byte other : ℕ) (text : Bytes) (P : List Token → Bytes → Type 0) (ts : List Token)
    (u : Bytes) → After (byte ∷ text) P ts (other ∷ u) → (other ≡ byte) × After text P ts u
fixed_out byte other text P ts u h =
    let e : other ∷ u ≡ byte ∷ (text ++ h.rest) = h.begins in
    let first : other ≡ byte = cc in
    let tail : u ≡ text ++ h.rest = cc in
    (first, record { rest = h.rest; begins = tail; follows = h.follows })

module _ {S : Type 0} (heard : S → List Token → S → Type 0) where
  -- a step that is not heard
  pub silent : {P Q : List Token → Bytes → Type 0} (read : Bytes) (s : S) → heard s [] s
      → ((ts : List Token) (u : Bytes) → Q ts u → P ts (read ++ u))
      → ((ts : List Token) (u : Bytes) → P ts (read ++ u) → Q ts u)
      → IsStep heard s s P Q read
  silent read s h f g = record {
    said = [];
    hears = h;
    sound = f;
    complete = λ ts u p. (ts, g ts u p);
  }

  pub step_from : {s t : S} {O P Q : List Token → Bytes → Type 0} {read : Bytes} → IsSame O P
      → IsStep heard s t P Q read → IsStep heard s t O Q read
  step_from {read = read} e h = record {
    said = h.said;
    hears = h.hears;
    sound = λ ts u q. e.from (h.said ++ ts) (read ++ u) (h.sound ts u q);
    complete = λ ts u o. h.complete ts u (e.to ts (read ++ u) o);
  }

  pub step_to : {s t : S} {P Q R : List Token → Bytes → Type 0} {read : Bytes} → IsSame Q R
      → IsStep heard s t P Q read → IsStep heard s t P R read
  step_to {read = read} e h = record {
    said = h.said;
    hears = h.hears;
    sound = λ ts u r. h.sound ts u (e.from ts u r);
    complete = λ ts u p. let l = h.complete ts u p in (l.0, e.to l.0 u l.1);
  }

  -- one step after another
  pub steps : ((s m t : S) (before after : List Token) → heard s before m → heard m after t
      → heard s (before ++ after) t) → {s m t : S} {P Q R : List Token → Bytes → Type 0}
      (first then : Bytes) → IsStep heard s m P Q first → IsStep heard m t Q R then
      → IsStep heard s t P R (first ++ then)
  steps joins {P = P} first then a b = record {
    said = a.said ++ b.said;
    hears = joins _ _ _ _ _ a.hears b.hears;
    sound = λ ts u r. rw (append_assoc a.said b.said ts, append_assoc first then u)
        (a.sound (b.said ++ ts) (then ++ u) (b.sound ts u r));
    complete = λ ts u p.
        let q = a.complete ts (then ++ u) (rw (append_assoc first then u) at p) in
        b.complete q.0 u q.1;
  }

  pub fixed_step : (s : S) (byte : ℕ) (text : Bytes) (P : List Token → Bytes → Type 0)
      → heard s [] s → IsStep heard s s (After (byte ∷ text) P) (After text P) (byte ∷ [])
  fixed_step s byte text P h = silent (byte ∷ []) s h (fixed_in byte text P)
      (λ ts u p. (fixed_out byte byte text P ts u p).1)

  pub refused : (byte other : ℕ) (text : Bytes) (P : List Token → Bytes → Type 0) → other ≢ byte
      → IsRefused (After (byte ∷ text) P) (other ∷ [])
  refused byte other text P ne ts u h = ne (fixed_out byte other text P ts u h).0

  -- of two texts that begin with other bytes, the first one, after which some tokens are heard
  pub first_step : {s t : S} (b c : ℕ) (x y : Bytes) (said : List Token)
      (P Q : List Token → Bytes → Type 0) → b ≢ c → heard s said t
      → IsStep heard s t (Either (b ∷ x) (Says said P) (c ∷ y) Q) (After x P) (b ∷ [])
  first_step b c x y said P Q ne hears = record {
    said = said;
    hears = hears;
    sound = λ ts u h. inl record {
      rest = h.rest;
      begins = ap (λ l. b ∷ l) h.begins;
      follows = record { later = ts; begins = refl; follows = h.follows };
    };
    complete = λ ts u h. elim h [
      | inl w ↦
          let e = (fixed_out b b x (Says said P) ts u w).1 in (
            e.follows.later,
            record {
              rest = e.rest;
              begins = e.begins;
              follows = e.follows.follows;
            },
          )
      | inr w ↦ absurd (ne (fixed_out c b y Q ts u w).0)
    ];
  }

  pub second_step : {s t : S} (b c : ℕ) (x y : Bytes) (said : List Token)
      (P Q : List Token → Bytes → Type 0) → c ≢ b → heard s said t
      → IsStep heard s t (Either (b ∷ x) P (c ∷ y) (Says said Q)) (After y Q) (c ∷ [])
  second_step b c x y said P Q ne hears = record {
    said = said;
    hears = hears;
    sound = λ ts u h. inr record {
      rest = h.rest;
      begins = ap (λ l. c ∷ l) h.begins;
      follows = record { later = ts; begins = refl; follows = h.follows };
    };
    complete = λ ts u h. elim h [
      | inl w ↦ absurd (ne (fixed_out b c x P ts u w).0)
      | inr w ↦
          let e = (fixed_out c c y (Says said Q) ts u w).1 in (
            e.follows.later,
            record {
              rest = e.rest;
              begins = e.begins;
              follows = e.follows.follows;
            },
          )
    ];
  }

pub neither : (b c byte : ℕ) (x y : Bytes) (P Q : List Token → Bytes → Type 0) → byte ≢ b → byte ≢ c
    → IsRefused (Either (b ∷ x) P (c ∷ y) Q) (byte ∷ [])
neither b c byte x y P Q nb nc ts u h =
    elim h [
      | inl w ↦ nb (fixed_out b byte x P ts u w).0
      | inr w ↦ nc (fixed_out c byte y Q ts u w).0
    ]

-- nothing is heard before
pub says_none : (P : List Token → Bytes → Type 0) → IsSame P (Says [] P)
says_none P = record {
  to = λ ts u h. record { later = ts; begins = refl; follows = h };
  from = λ ts u h. subst (λ l. P l u) (sym h.begins) h.follows;
}

-- some bytes were seen
pub same_seen : (P : List Token → Bytes → Type 0) (seen : Bytes) → seen ≡ []
    → IsSame P (λ ts u. P ts (seen ++ u))
same_seen P seen e = record {
  to = λ ts u h. subst (λ l. P ts (l ++ u)) (sym e) h;
  from = λ ts u h. subst (λ l. P ts (l ++ u)) e h;
}

-- a length was seen
pub same_size : (Q : Bytes → List Token → Bytes → Type 0) (seen : Bytes) (size : ℕ)
    → length seen ≡ 8 → ((i : ℕ) → get_or seen i 0 < 256) → size < 2 ^ 64
    → size ≡ from_le_bytes w64 seen
    → IsSame (λ ts u. Counted Q ts (seen ++ u)) (Sized size Q)
unfolding str size_text
same_size Q seen size long fits lt is = record {
  to = λ ts u h.
      let n : ℕ = length h.bytes in
      let parts : (seen ≡ size_text n) × (u ≡ (h.bytes ++ padding n) ++ h.follows.rest) =
      cut seen (size_text n) u ((h.bytes ++ padding n) ++ h.follows.rest) (long ∙ sym (size_long n))
      (h.follows.begins ∙ append_assoc (size_text n) (h.bytes ++ padding n) h.follows.rest) in
      let same : n ≡ size = sym (from_le_bytes-to_le_bytes_8 n h.is_string.sized)
      ∙ ap (from_le_bytes w64) (sym parts.0) ∙ sym is in
      record {
        bytes = h.bytes;
        long = same;
        are_bytes = h.is_string.are_bytes;
        follows = record {
          rest = padding size ++ h.follows.rest;
          begins = parts.1 ∙ append_assoc h.bytes (padding n) h.follows.rest
              ∙ ap (λ k. h.bytes ++ (padding k ++ h.follows.rest)) same;
          follows = record { rest = h.follows.rest; begins = refl; follows = h.follows.follows };
        };
      };
  from = λ ts u h.
      let told : size_text size ≡ seen = le_bytes_8 seen size long fits is in
      let e : u ≡ h.bytes ++ (padding size ++ h.follows.follows.rest) =
      h.follows.begins ∙ ap (λ l. h.bytes ++ l) h.follows.follows.begins in
      record {
        bytes = h.bytes;
        is_string = record {
          sized = subst (λ n. n < 2 ^ 64) (sym h.long) lt;
          are_bytes = h.are_bytes;
        };
        follows = record {
          rest = h.follows.follows.rest;
          begins = ap (λ l. seen ++ l) (e ∙ sym
              (append_assoc h.bytes (padding size) h.follows.follows.rest))
              ∙ ap (λ l. l ++ ((h.bytes ++ padding size) ++ h.follows.follows.rest)) (sym told)
              ∙ sym (append_assoc (size_text size) (h.bytes ++ padding size) h.follows.follows.rest)
              ∙ ap (λ n. (size_text n ++ (h.bytes ++ padding n)) ++ h.follows.follows.rest)
              (sym h.long);
          follows = h.follows.follows.follows;
        };
      };
}

-- the bytes of a string were seen
pub same_whole : (Q : Bytes → List Token → Bytes → Type 0) (seen : Bytes) (size : ℕ)
    → AreBytes seen → length seen ≡ size
    → IsSame (λ ts u. Sized size Q ts (seen ++ u)) (After (padding size) (Q seen))
same_whole Q seen size are long = record {
  to = λ ts u h.
      let parts : (seen ≡ h.bytes) × (u ≡ h.follows.rest) =
      cut seen h.bytes u h.follows.rest (long ∙ sym h.long) h.follows.begins in
      record {
        rest = h.follows.follows.rest;
        begins = parts.1 ∙ h.follows.follows.begins;
        follows = subst (λ l. Q l ts h.follows.follows.rest) (sym parts.0)
            h.follows.follows.follows;
      };
  from = λ ts u h. record {
    bytes = seen;
    long = long;
    are_bytes = are;
    follows = record { rest = u; begins = refl; follows = h };
  };
}

-- one more byte was seen
pub seen_step : {S : Type 0} (heard : S → List Token → S → Type 0) (s : S)
    (R : List Token → Bytes → Type 0) (seen more : Bytes) (byte : ℕ) → heard s [] s
    → more ≡ seen ++ byte ∷ []
    → IsStep heard s s (λ ts u. R ts (seen ++ u)) (λ ts u. R ts (more ++ u)) (byte ∷ [])
seen_step heard s R seen more byte h is =
    let one : (u : Bytes) → more ++ u ≡ seen ++ byte ∷ u = λ u.
    ap (λ l. l ++ u) is ∙ append_assoc seen (byte ∷ []) u in
    silent heard (byte ∷ []) s h (λ ts u r. subst (R ts) (one u) r)
    (λ ts u r. subst (R ts) (sym (one u)) r)

pub either_left : (a : Bytes) {P Q : List Token → Bytes → Type 0} (b : Bytes)
    (R : List Token → Bytes → Type 0) → IsSame P Q → IsSame (Either a P b R) (Either a Q b R)
either_left a b R e = record {
  to = λ ts u h. elim h [ inl w ↦ inl ((after_same a e).to ts u w) | inr w ↦ inr w ];
  from = λ ts u h. elim h [ inl w ↦ inl ((after_same a e).from ts u w) | inr w ↦ inr w ];
}

pub either_right : (a : Bytes) {P Q : List Token → Bytes → Type 0} (b : Bytes)
    (R : List Token → Bytes → Type 0) → IsSame P Q → IsSame (Either a R b P) (Either a R b Q)
either_right a b R e = record {
  to = λ ts u h. elim h [ inl w ↦ inl w | inr w ↦ inr ((after_same b e).to ts u w) ];
  from = λ ts u h. elim h [ inl w ↦ inl w | inr w ↦ inr ((after_same b e).from ts u w) ];
}

-- the fixed bytes that come first
pub ready : (zeros : ℕ) (x : Bytes) {P Q : List Token → Bytes → Type 0} → zeros ≡ 0 → IsSame P Q
    → IsSame (After x P) (After (replicate zeros 0) (After x Q))
ready zeros x {P} {Q} none e =
    subst (λ z. IsSame (After x P) (After (replicate z 0) (After x Q))) (sym none)
    (same_both (after_same x e) (after_none (After x Q)))

module _ {S : Type 0} (heard : S → List Token → S → Type 0) where
  pub first_quiet : (s : S) (b c : ℕ) (x y : Bytes) (P Q : List Token → Bytes → Type 0) → b ≢ c
      → heard s [] s → IsStep heard s s (Either (b ∷ x) P (c ∷ y) Q) (After x P) (b ∷ [])
  first_quiet s b c x y P Q ne h =
      step_from heard (either_left (b ∷ x) (c ∷ y) Q (says_none P))
      (first_step heard b c x y [] P Q ne h)

  pub second_quiet : (s : S) (b c : ℕ) (x y : Bytes) (P Q : List Token → Bytes → Type 0) → c ≢ b
      → heard s [] s → IsStep heard s s (Either (b ∷ x) P (c ∷ y) Q) (After y Q) (c ∷ [])
  second_quiet s b c x y P Q ne h =
      step_from heard (either_right (b ∷ x) (c ∷ y) P (says_none Q))
      (second_step heard b c x y [] P Q ne h)

  -- a step in which nothing is heard
  pub heard_nothing : {P Q : List Token → Bytes → Type 0} {read : Bytes} (s : S) → heard s [] s
      → IsStep Unheard 0 0 P Q read → IsStep heard s s P Q read
  heard_nothing {P} {read = read} s h step = record {
    said = [];
    hears = h;
    sound = λ ts u q. subst (λ l. P (l ++ ts) (read ++ u)) step.hears (step.sound ts u q);
    complete = step.complete;
  }
