use Rattle.std.proofs.Common.{◌↔◌, ◌∙◌, ℕ, List, All, Contains, inr, refl, subst, sym}
use Rattle.std.proofs.lemmas.Bool.{false≢true}
use Rattle.std.proofs.lemmas.List.Elements.{All-append}
use Rattle.valid_table.specs.Valid.{IsValid}
use Rattle.builder_start.specs.private.Starts.{AreStarts, IsOutputAmong}
use Rattle.builder_start.proofs.GraphStarts.{AreFilesAmong, files_told, may_be, outputs_told, starts_are}
use Rattle.builder_start.proofs.starts.starts_of.Goals as goal

pub returns-then-not-are_files_among-clause-bad : goal.returns-then-not-are_files_among-clause-bad
returns-then-not-are_files_among-clause-bad c = inr (
  refl,
  λ may.
      false≢true
      (sym c.if-not-are_files_among.true
      ∙ c.are_files_among.ensures.1
      (subst (λ ps. AreFilesAmong ps c.deref-2.result.now) (sym c.deref.ensures.value)
      (subst (AreFilesAmong c.in_ok-reached.reached.items) (sym c.deref-2.ensures.value)
      (files_told c.args.rows.now c.args.whole.now c.args.roots.now c.in_ok-reached.reached.items
      c.in_ok-files.files.items c.in_ok-reached.ensures c.in_ok-files.ensures.same may)))),
)

pub returns-then-not-have-clause-bad : goal.returns-then-not-have-clause-bad
returns-then-not-have-clause-bad c =
    let are : (path : List ℕ) → Contains c.in_ok-starts.starts.items path
    ↔ IsOutputAmong c.in_ok-reached.reached.items c.args.whole.now path =
    subst (λ (ps : List (List ℕ)). (path : List ℕ) → Contains c.in_ok-starts.starts.items path
    ↔ IsOutputAmong ps c.args.whole.now path) c.deref-3.ensures.value c.in_ok-starts.ensures in
    inr (
      refl,
      λ may.
          false≢true
          (sym c.if-not-have.true
          ∙ c.have.ensures.1
          (subst (All (IsValid c.args.rows.now)) (sym c.deref-4.ensures.value)
          (outputs_told c.args.rows.now c.args.whole.now c.args.roots.now
          c.in_ok-reached.reached.items c.in_ok-starts.starts.items c.in_ok-reached.ensures are
          may))),
    )

pub returns-clause-may_be : goal.returns-clause-may_be
returns-clause-may_be c =
    let are : (path : List ℕ) → Contains c.in_ok-starts.starts.items path
    ↔ IsOutputAmong c.in_ok-reached.reached.items c.args.whole.now path =
    subst (λ (ps : List (List ℕ)). (path : List ℕ) → Contains c.in_ok-starts.starts.items path
    ↔ IsOutputAmong ps c.args.whole.now path) c.deref-3.ensures.value c.in_ok-starts.ensures in
    may_be c.args.rows.now c.args.whole.now c.args.roots.now c.in_ok-reached.reached.items
    c.in_ok-files.files.items c.in_ok-starts.starts.items c.in_ok-reached.ensures
    c.in_ok-files.ensures.same
    (subst (AreFilesAmong c.in_ok-reached.reached.items) c.deref-2.ensures.value
    (subst (λ ps. AreFilesAmong ps c.deref-2.result.now) c.deref.ensures.value
    (c.are_files_among.ensures.0 c.if-not-are_files_among.false)))
    are
    (subst (All (IsValid c.args.rows.now)) c.deref-4.ensures.value
    (c.have.ensures.0 c.if-not-have.false))

pub returns-clause-starts : goal.returns-clause-starts
returns-clause-starts c =
    let are : (path : List ℕ) → Contains c.in_ok-starts.starts.items path
    ↔ IsOutputAmong c.in_ok-reached.reached.items c.args.whole.now path =
    subst (λ (ps : List (List ℕ)). (path : List ℕ) → Contains c.in_ok-starts.starts.items path
    ↔ IsOutputAmong ps c.args.whole.now path) c.deref-3.ensures.value c.in_ok-starts.ensures in
    subst (AreStarts c.args.rows.now c.args.whole.now c.args.roots.now)
    (sym c.in_ok-add_paths.ensures)
    (starts_are c.args.rows.now c.args.whole.now c.args.roots.now c.in_ok-reached.reached.items
    c.in_ok-starts.starts.items c.in_ok-reached.ensures are)

pub returns-clause-valid : goal.returns-clause-valid
returns-clause-valid c =
    let P = IsValid c.args.rows.now in
    subst (All P) (sym c.in_ok-add_paths.ensures)
    (All-append P c.in_ok-starts.starts.items c.args.roots.now
    (subst (All P) c.deref-4.ensures.value (c.have.ensures.0 c.if-not-have.false)) c.requires)
