-- Entries of a folder of an archive: one beside others.
use Rattle.std.proofs.Common.{◌≡◌, ◌∙◌, inl, inr, refl, ap, sym, subst}
use Rattle.std.specs.Cmp.Lexicographic.{slice_cmp}
use Rattle.std.specs.Ordering.{nat_cmp}
use Rattle.std.specs.declared.cmp.Ordering.TheVariants.{Less, Equal}
use Rattle.std.proofs.lemmas.Cmp.{nat_list_cmp_total, tied_itself}
use Rattle.nix_archive.specs.Trees.{Bytes, Tree as Archived, Entries, NoEntries, Entry, AreEntries, IsAfter, IsArchivable}
use Rattle.ref_scan.specs.Archives.{IsBeside}

after_both : (a b c : Bytes) → IsAfter a b → IsAfter b c → IsAfter a c
after_both a b c h k = nat_list_cmp_total.trans a b c h k

pub after_one_way : (a b : Bytes) → IsAfter a b → IsAfter b a → ⊥
after_one_way a b h k =
    let itself : slice_cmp nat_cmp a a ≡ Less = after_both a b a h k in
    let tied : slice_cmp nat_cmp a a ≡ Equal = tied_itself nat_list_cmp_total a in
    let clash : Less ≡ Equal = sym itself ∙ tied in
    absurd cc

-- a later entry has a name that comes after
pub beside_after : (first name : Bytes) (node : Archived) (others entries : Entries)
    → AreEntries first entries → IsBeside name node others entries → IsAfter first name
beside_after first name node others NoEntries are h = absurd h
beside_after first name node others (Entry f t rest) are (inl e) =
    subst (IsAfter first) e.0 are.1
beside_after first name node others (Entry f t rest) are (inr (fewer, is, h)) =
    after_both first f name are.1 (beside_after f name node fewer rest are.3 h)

rise_from : (before f : Bytes) (rest : Entries) → IsAfter before f → AreEntries f rest
    → AreEntries before rest
rise_from before f NoEntries lt are = tt
rise_from before f (Entry g t rest) lt are =
    (are.0, after_both before f g lt are.1, are.2, are.3)

-- the others may stand there without it
pub fewer_rise : (before name : Bytes) (node : Archived) (others entries : Entries)
    → AreEntries before entries → IsBeside name node others entries → AreEntries before others
fewer_rise before name node others NoEntries are h = absurd h
fewer_rise before name node others (Entry f t rest) are (inl e) =
    subst (AreEntries before) e.2 (rise_from before f rest are.1 are.3)
fewer_rise before name node others (Entry f t rest) are (inr (fewer, is, h)) =
    subst (AreEntries before) (sym is)
    (are.0, are.1, are.2, fewer_rise f name node fewer rest are.3 h)

pub node_archivable : (before name : Bytes) (node : Archived) (others entries : Entries)
    → AreEntries before entries → IsBeside name node others entries → IsArchivable node
node_archivable before name node others NoEntries are h = absurd h
node_archivable before name node others (Entry f t rest) are (inl e) = subst IsArchivable e.1 are.2
node_archivable before name node others (Entry f t rest) are (inr (fewer, is, h)) =
    node_archivable f name node fewer rest are.3 h

same_entry : (f g : Bytes) (s t : Archived) (es fs : Entries) → f ≡ g → s ≡ t → es ≡ fs
    → Entry f s es ≡ Entry g t fs
same_entry f g s t es fs a b c =
    ap (λ l. Entry l s es) a ∙ ap (λ l. Entry g l es) b ∙ ap (λ l. Entry g t l) c

-- where names rise, one stands at one number among the others
pub put_once : (b c name : Bytes) (node : Archived) (others es fs : Entries) → AreEntries b es
    → AreEntries c fs → IsBeside name node others es → IsBeside name node others fs → es ≡ fs
put_once b c name node others NoEntries fs p q h k = absurd h
put_once b c name node others (Entry f s es) NoEntries p q h k = absurd k
put_once b c name node others (Entry f s es) (Entry g t fs) p q (inl h) (inl k) =
    same_entry f g s t es fs (h.0 ∙ sym k.0) (h.1 ∙ sym k.1) (h.2 ∙ sym k.2)
put_once b c name node others (Entry f s es) (Entry g t fs) p q (inl h) (inr (fewer, is, k)) =
    let later : AreEntries f (Entry g t fewer) = subst (AreEntries f) (h.2 ∙ is) p.3 in
    absurd (after_one_way g name (beside_after g name node fewer fs q.3 k)
    (subst (λ n. IsAfter n g) h.0 later.1))
put_once b c name node others (Entry f s es) (Entry g t fs) p q (inr (fewer, is, h)) (inl k) =
    let later : AreEntries g (Entry f s fewer) = subst (AreEntries g) (k.2 ∙ is) q.3 in
    absurd (after_one_way f name (beside_after f name node fewer es p.3 h)
    (subst (λ n. IsAfter n f) k.0 later.1))
put_once b c name node others (Entry f s es) (Entry g t fs) p q (inr (few, is, h))
    (inr (fewer, be, k)) =
    let whole : Entry f s few ≡ Entry g t fewer = sym is ∙ be in
    let names : f ≡ g = cc in
    let trees : s ≡ t = cc in
    let rests : few ≡ fewer = cc in
    same_entry f g s t es fs names trees
    (put_once f g name node few es fs p.3 q.3 h
    (subst (λ l. IsBeside name node l fs) (sym rests) k))

-- of two that are taken out one after the other, where another stands first
beside_later : (n m : Bytes) (s t : Archived) (o : Entries) (f : Bytes) (x : Archived)
    (rest fewer : Entries) → IsBeside n s fewer rest
    → ((less : Entries) → IsBeside m t less fewer → (q : Entries) × IsBeside m t q rest
    × IsBeside n s less q) → IsBeside m t o (Entry f x fewer)
    → (q : Entries) × IsBeside m t q (Entry f x rest) × IsBeside n s o q
beside_later n m s t o f x rest fewer h others (inl e) =
    (rest, inl (e.0, e.1, refl), subst (λ l. IsBeside n s l rest) e.2 h)
beside_later n m s t o f x rest fewer h others (inr (less, is, k)) =
    let both = others less k in (
      Entry f x both.0,
      inr (both.0, refl, both.1),
      inr (less, is, both.2),
    )

-- of two that are taken out one after the other, either may be the first
pub beside_both : (n m : Bytes) (s t : Archived) (o p es : Entries) → IsBeside n s p es
    → IsBeside m t o p → (q : Entries) × IsBeside m t q es × IsBeside n s o q
beside_both n m s t o p NoEntries h k = absurd h
beside_both n m s t o p (Entry f x rest) (inl e) k = (
  Entry f x o,
  inr (o, refl, subst (IsBeside m t o) (sym e.2) k),
  inl (e.0, e.1, refl),
)
beside_both n m s t o p (Entry f x rest) (inr (fewer, is, h)) k =
    beside_later n m s t o f x rest fewer h
    (λ less l. beside_both n m s t less fewer rest h l) (subst (IsBeside m t o) is k)
