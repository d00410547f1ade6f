use Rattle.std.proofs.Common.{◌≡◌, ◌∙◌, ◌++◌, List, ap, length, rules, subst, sym}
use Rattle.valid_table.specs.Texts.{text}
use Rattle.valid_table.specs.declared.entry.Entry.{Entry}
use Rattle.store_run.specs.private.Looking.{AreKeptIn, IsNews, Keeping, Looked}
use Rattle.store_run.proofs.KeptTexts.{added, all_goes_on, at_ok, shown_goes_on, still_begins}
use Rattle.store_run.proofs.kept_text.KeptText.go_on.Given.{Over}
use Rattle.store_run.proofs.kept_text.KeptText.go_on.Goals as goal

-- what the look gave, by the fields of what it gave
abbrev looked : (g : Over) (c : goal.After-drop-fresh-2 g) → Looked
looked g c = record {
  shown = c.news.inside.shown;
  fresh = c.news.inside.fresh.items;
  waiting = c.news.inside.waiting.items;
  count = c.news.inside.count;
}

news : (g : Over) (c : goal.After-drop-fresh-2 g) (entries : List Entry)
    → IsNews c.args.self.now.version c.args.self.now.shown entries c.args.news
    → IsNews c.self.inside.version c.self.inside.shown entries (looked g c)
news g c entries given =
    subst (λ (k : Keeping). IsNews k.version k.shown entries (looked g c)) (sym c.self.view_is)
    (subst (λ (l : Looked). IsNews c.args.self.now.version c.args.self.now.shown entries l)
    (sym c.news.view_is) given)

-- after the fresh lines the bytes are the text of what is shown now
text_of_shown : (g : Over) (c : goal.After-drop-fresh-2 g)
    → c.extend_from_slice.new.self.items ≡ text c.self.inside.version c.news.inside.shown
text_of_shown g c =
    shown_goes_on c.self.inside.version c.self.inside.shown c.requires.0 (looked g c)
    c.truncate.new.self.items
    c.extend_from_slice.new.self.items (news g c c.requires.0 c.requires.1)
    (c.truncate.ensures.items ∙ c.self.invariant.0)
    (c.in_ok-extend_from_slice.ensures.items
    ∙ ap (λ f. c.truncate.new.self.items ++ f) c.deref.ensures.value)

-- how many bytes these are
len_of_shown : (g : Over) (c : goal.After-drop-fresh-2 g)
    → c.len-self-inside.result ≡ length c.extend_from_slice.new.self.items
len_of_shown g c = search rules

pub invariant_of-self-2 : goal.invariant_of-self-2
invariant_of-self-2 g c = (
  still_begins c.extend_from_slice-2.result _ _ c.deref-2.result.now
      c.extend_from_slice-2.new.self.items (len_of_shown g c)
      c.extend_from_slice-2.ensures.items
      ∙ text_of_shown g c,
  c.self.invariant.1,
)

pub returns-clause-text : goal.returns-clause-text
returns-clause-text g c =
    added c.extend_from_slice-2.result _ c.deref-2.result.now
    c.extend_from_slice-2.new.self.items c.extend_from_slice-2.ensures.items
    (λ more entries given.
    all_goes_on c.self.inside.version c.self.inside.shown entries (looked g c)
    c.extend_from_slice.new.self.items c.extend_from_slice-2.new.self.items
    (news g c entries given) (text_of_shown g c)
    (more ∙ ap (λ w. c.extend_from_slice.new.self.items ++ w) c.deref-2.ensures.value)
    ∙ ap (λ (k : Keeping). text k.version entries) c.self.view_is)

pub returns-clause-run : goal.returns-clause-run
returns-clause-run g c =
    at_ok c.extend_from_slice-2.result
    (subst (λ (k : Keeping). AreKeptIn g.S.Basis.is_this_run k.version) c.self.view_is
    c.self.invariant.1)
