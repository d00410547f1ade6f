use Rattle.std.proofs.Common.{◌≡◌, ◌∙◌, ◌==◌, ◌++◌, List, Option, None, ap, append-nil, map, rules, sym, tests}
use Rattle.std.specs.Iterator.{Yields}
use Rattle.std.proofs.lemmas.Iterator.{YieldsList}
use Rattle.std.proofs.lemmas.Iterator.Consumers.{YieldsList-at, YieldsList-end, YieldsList-from_filter}
use Rattle.std.proofs.lemmas.Iterator.Splits.{YieldsList-from_slice_split}
use Rattle.nix_drv.specs.Parts.{bytes_of}
use Rattle.process_build.specs.Contents.{is_member}
use Rattle.process_build.proofs.EntryNames.{named_more, names_more}
use Rattle.process_build.proofs.walk.entry_names.push_names.Goals as goal

-- at the end of a loop all items were there
all_there : {S A B : Type 0} {steps : S → Option A → S → Type 0} {v : A → B} {s : S}
    {all : List B} (xs : List A) (t : S) (y : Yields steps s xs t) (r : Option A) (u : S)
    → r ≡ None → steps t r u → YieldsList steps v s all → map v xs ≡ all
all_there xs t y r u none step e = (YieldsList-end e xs t y r u none step).0

pub loop-name-init : goal.loop-name-init
loop-name-init c = record { are = c.requires; all = sym (append-nil _) }

pub loop-name-preserved : goal.loop-name-preserved
loop-name-preserved c = record {
  are = named_more _ _ _ c.in_ok-push.ensures.items c.in_ok-entry_name.ensures.name
      c.loop-name.invariant.are;
  all = names_more (λ n. n.now) _ _ _ _ _ _ c.in_ok-push.ensures.items
      c.in_ok-entry_name.ensures.same c.loop-name.invariant.all;
}

pub returns-clause-all : goal.returns-clause-all
returns-clause-all c =
    c.loop-name.invariant.all
    ∙ ap (λ l. map bytes_of c.args.names.now.items ++ l)
    (all_there _ _ c.loop-name.yielded_by _ c.next.new.self c.in-None.is c.next.ensures.steps
    (YieldsList-at {t = c.filter-name-items.result} (cc)
    (YieldsList-from_filter _ is_member
    (YieldsList-at c.filter-name-items.ensures.source
    (YieldsList-from_slice_split _ (λ byte. byte == 0) c.args.read.now c.split.ensures.rest
    c.split.ensures.done c.split.ensures.closure (λ x b q k. search (rules, tests))))
    c.filter-name-items.ensures.closure (λ x b q k. search (rules, tests)))))
