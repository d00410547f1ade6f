-- What tokens feed and what they count joins.
use Rattle.std.specs.Prelude.{◌≡◌, List, [], ◌∷◌, ◌++◌}
use Rattle.std.proofs.Common.{◌∙◌, ap, append-nil, append_assoc, refl, subst, sym}
use Rattle.nix_archive.specs.Tokens.{Token}
use Rattle.ref_scan.specs.Counting.{AreCountsOf, IsCountHeard}
use Rattle.ref_scan.specs.Feed.{Feed}
use Rattle.ref_scan.specs.Hearing.{AreTokensShort, IsScanHeard, fed_by, fed_one}
use Rattle.ref_scan.specs.declared.hearers.tree_counts.TreeCounts.{TreeCounts}
use Rattle.ref_scan.specs.declared.hearers.tree_scanner.TreeScanner.{TreeScanner}

pub fed_after : (before after : List Token) (feed : Feed)
    → fed_by (before ++ after) feed ≡ fed_by after (fed_by before feed)
fed_after [] after feed = refl
fed_after (t ∷ ts) after feed = fed_after ts after (fed_one t feed)

pub short_both : (before after : List Token) → AreTokensShort before → AreTokensShort after
    → AreTokensShort (before ++ after)
short_both [] after h g = g
short_both (t ∷ ts) after h g = (h.0, short_both ts after h.1 g)

pub scan_none : (s : TreeScanner) → IsScanHeard s [] s
scan_none s = record { fed = refl; short = tt }

pub scan_both : (s m t : TreeScanner) (before after : List Token) → IsScanHeard s before m
    → IsScanHeard m after t → IsScanHeard s (before ++ after) t
scan_both s m t before after h g = record {
  fed = g.fed ∙ ap (fed_by after) h.fed ∙ sym (fed_after before after s.scanner);
  short = short_both before after h.short g.short;
}

pub count_none : (s : TreeCounts) → IsCountHeard s [] s
count_none s = λ earlier are.
    subst (λ (said : List Token). AreCountsOf said s) (sym (append-nil earlier)) are

pub count_both : (s m t : TreeCounts) (before after : List Token) → IsCountHeard s before m
    → IsCountHeard m after t → IsCountHeard s (before ++ after) t
count_both s m t before after h g = λ earlier are.
    subst (λ (said : List Token). AreCountsOf said t) (append_assoc earlier before after)
    (g (earlier ++ before) (h earlier are))
