-- Answers whose trees in memory are those of what was heard.
use Rattle.std.proofs.Common.{◌≡◌, ◌≢◌, ◌∙◌, ◌⊎◌, inl, inr, ⊎_elim, ℕ, zero, suc, ◌<◌, ◌^◌, List, [], ◌∷◌, Option, Some, None, length, refl, sym, ap, subst}
use Rattle.std.specs.Borrow.{Bor}
use Rattle.std.specs.Prelude.{ℤ, pos, Result}
use Rattle.std.specs.List.{slice_get}
use Rattle.std.proofs.lemmas.Option.{same_Some}
use Rattle.ref_scan.specs.declared.tree.Tree.{Tree}
use Rattle.ref_scan.proofs.MadeTrees.{vec_of}
use Rattle.valid_table.specs.PathInfos.{PathInfo}
use Rattle.build_outcome.specs.Heard.{AreHeard, AreLeftAs, IsAnswerOf, IsExaminedOf, IsHeardAs, IsKeptOf, IsLeftAs, IsSumKept, Kept, LeftArchive}
use Rattle.build_outcome.specs.Verdicts.{AreRead, IsExamining, IsUnread, left_at, tree_at}
use Rattle.build_outcome.specs.declared.job.Answer.{Answer}
use Rattle.build_outcome.specs.declared.job.Job.{Job}
use Rattle.build_outcome.specs.declared.job.LeftOutput.{LeftOutput}
use Rattle.build_outcome.specs.declared.known_outputs.Outputs.{Outputs}
use Rattle.build_outcome.specs.declared.known_outputs.Outputs.TheVariants.{Heard}
use Rattle.build_outcome.specs.declared.reason.Reason.{Reason}
use Rattle.build_outcome.specs.declared.sums.OutputSum.{OutputSum}
use Rattle.build_outcome.specs.private.Judging.{AreKept, IsKeptAt, IsReadAs}
use Rattle.build_outcome.proofs.Knowns.{kept_at}

-- ---- what lies at an output, by its number

left_of : (answer : Answer) (n : ℕ) (output : Option LeftOutput)
    → slice_get answer.outputs.items n ≡ Some output → left_at answer n ≡ output
left_of answer n None at = rw at refl
left_of answer n (Some output) at = rw at refl

left_beyond : (answer : Answer) (n : ℕ) → slice_get answer.outputs.items n ≡ None
    → left_at answer n ≡ None
left_beyond answer n at = rw at refl

tree_of : (answer : Answer) (n : ℕ) (output : LeftOutput) → left_at answer n ≡ Some output
    → tree_at answer n ≡ Some output.tree
tree_of answer n output at = rw at refl

no_tree : (answer : Answer) (n : ℕ) → left_at answer n ≡ None → tree_at answer n ≡ None
no_tree answer n at = rw at refl

module _ (job : Job) (permitted : List (List ℕ)) where
  -- what was kept at a number tells of what an answer has there
  kept_there : (answer : Answer) (n : ℕ) (slot : Option LeftOutput) (k : Kept)
      → slice_get answer.outputs.items n ≡ Some slot → IsKeptAt job permitted slot (Some k)
      → (output : LeftOutput) × (left_at answer n ≡ Some output)
      × (IsKeptOf job permitted output.tree k
      × (k.others_may_write ≡ output.others_may_write))
  kept_there answer n None k at is = absurd is
  kept_there answer n (Some output) k at is =
      (output, left_of answer n (Some output) at, is)

  pub heard_known : (answer : Answer) (kept : List (Option Kept)) (n : ℕ) (k : Kept)
      → AreKept job permitted answer.outputs.items kept → slice_get kept n ≡ Some (Some k)
      → (output : LeftOutput) × (left_at answer n ≡ Some output)
      × (IsKeptOf job permitted output.tree k
      × (k.others_may_write ≡ output.others_may_write))
  heard_known answer kept n k are at =
      ⊎_elim
      (λ none. let wrong : None ≡ Some (Some k) = sym none.1 ∙ at in absurd cc)
      (λ h.
      let same : h.1 ≡ Some k = same_Some _ _ (sym h.3 ∙ at) in
      kept_there answer n h.0 k h.2
      (subst (λ (o : Option Kept). IsKeptAt job permitted h.0 o) same h.4))
      (kept_at job permitted answer.outputs.items kept n are)

  -- nothing lies where nothing was kept
  none_there : (answer : Answer) (n : ℕ) (slot : Option LeftOutput) (o : Option Kept)
      → slice_get answer.outputs.items n ≡ Some slot → IsKeptAt job permitted slot o
      → ((k : Kept) → o ≢ Some k) → left_at answer n ≡ None
  none_there answer n None o at is none = left_of answer n None at
  none_there answer n (Some output) None at is none = absurd is
  none_there answer n (Some output) (Some k) at is none = absurd (none k refl)

  pub heard_missing : (answer : Answer) (kept : List (Option Kept)) (n : ℕ)
      → AreKept job permitted answer.outputs.items kept
      → ((k : Kept) → slice_get kept n ≢ Some (Some k)) → tree_at answer n ≡ None
  heard_missing answer kept n are none =
      no_tree answer n (⊎_elim
      (λ h. left_beyond answer n h.0)
      (λ h. none_there answer n h.0 h.1 h.2 h.4 (λ k is. none k (h.3 ∙ ap Some is)))
      (kept_at job permitted answer.outputs.items kept n are))

  -- ---- what was kept is read

  read_there : (sum : Option OutputSum) (tree : Tree) → IsSumKept job tree sum
      → IsUnread job tree → ⊥
  read_there None tree kept unread = kept unread.0
  read_there (Some sum) tree kept unread = unread.1 kept.bytes kept.has

  read_slot : (answer : Answer) (n : ℕ) (slot : Option LeftOutput) (o : Option Kept)
      (tree : Tree) → slice_get answer.outputs.items n ≡ Some slot
      → IsKeptAt job permitted slot o → tree_at answer n ≡ Some tree → IsUnread job tree → ⊥
  read_slot answer n None o tree is kept at unread =
      let none : tree_at answer n ≡ None = no_tree answer n (left_of answer n None is) in
      let wrong : None ≡ Some tree = sym none ∙ at in absurd cc
  read_slot answer n (Some output) None tree is kept at unread = absurd kept
  read_slot answer n (Some output) (Some k) tree is kept at unread =
      let same : output.tree ≡ tree =
      same_Some output.tree tree
      (sym (tree_of answer n output (left_of answer n (Some output) is)) ∙ at) in
      read_there k.sum tree (subst (λ (t : Tree). IsSumKept job t k.sum) same kept.0.sum) unread

  pub read_of : (answer : Answer) (kept : List (Option Kept))
      → AreKept job permitted answer.outputs.items kept → AreRead job answer
  read_of answer kept are n below (tree, at, unread) =
      ⊎_elim
      (λ h.
      let none : tree_at answer n ≡ None = no_tree answer n (left_beyond answer n h.0) in
      let wrong : None ≡ Some tree = sym none ∙ at in absurd cc)
      (λ h. read_slot answer n h.0 h.1 tree h.2 h.4 at unread)
      (kept_at job permitted answer.outputs.items kept n are)

  kept_left : (left : Option LeftArchive) (k : Option Kept) (output : Option LeftOutput)
      → IsHeardAs job permitted left k → IsLeftAs left output → IsKeptAt job permitted output k
  kept_left None None None heard is = tt
  kept_left None None (Some output) heard is = absurd is
  kept_left None (Some k) output heard is = absurd heard
  kept_left (Some left) None output heard is = absurd heard
  kept_left (Some left) (Some k) None heard is = absurd is
  kept_left (Some left) (Some k) (Some output) heard is =
      (heard.tells output.tree is.0, heard.others ∙ sym is.1)

  pub kept_lefts : (lefts : List (Option LeftArchive)) (kept : List (Option Kept))
      (outputs : List (Option LeftOutput)) → AreHeard job permitted lefts kept
      → AreLeftAs lefts outputs → AreKept job permitted outputs kept
  kept_lefts [] [] [] heard are = tt
  kept_lefts [] [] (output ∷ outputs) heard are = absurd are
  kept_lefts [] (k ∷ kept) outputs heard are = absurd heard
  kept_lefts (left ∷ lefts) [] outputs heard are = absurd heard
  kept_lefts (left ∷ lefts) (k ∷ kept) [] heard are = absurd are
  kept_lefts (left ∷ lefts) (k ∷ kept) (output ∷ outputs) heard are = (
    kept_left left k output heard.0 are.0,
    kept_lefts lefts kept outputs heard.1 are.1,
  )

  pub read_as : (status : Option ℤ) (lefts : List (Option LeftArchive))
      (kept : Bor (List (Option Kept))) (answer : Answer) → AreHeard job permitted lefts kept.now
      → IsAnswerOf status lefts answer → status ≡ Some (pos 0)
      → IsReadAs job permitted answer (Heard kept)
  read_as status lefts kept answer heard is ended =
      let are = kept_lefts lefts kept.now answer.outputs.items heard is.left in
      record {
        known = are;
        ended = is.ended ∙ ended;
        read = read_of answer kept.now are;
      }

  -- ---- an answer

  made_at : (left : Option LeftArchive) (k : Option Kept) → IsHeardAs job permitted left k
      → (output : Option LeftOutput) × IsLeftAs left output
  made_at None None heard = (None, tt)
  made_at None (Some k) heard = absurd heard
  made_at (Some left) None heard = absurd heard
  made_at (Some left) (Some k) heard = (
    Some (record {
      tree = heard.has_tree.tree;
      others_may_write = left.others_may_write;
    }),
    (heard.has_tree.archive, refl),
  )

  made_all : (lefts : List (Option LeftArchive)) (kept : List (Option Kept))
      → AreHeard job permitted lefts kept
      → (outputs : List (Option LeftOutput)) × (length outputs ≡ length kept)
      × AreLeftAs lefts outputs
  made_all [] [] heard = ([], refl, tt)
  made_all [] (k ∷ kept) heard = absurd heard
  made_all (left ∷ lefts) [] heard = absurd heard
  made_all (left ∷ lefts) (k ∷ kept) heard =
      let one = made_at left k heard.0 in
      let rest = made_all lefts kept heard.1 in
      (one.0 ∷ rest.0, ap suc rest.1, (one.1, rest.2))

  pub examined_of : (status : Option ℤ) (lefts : List (Option LeftArchive))
      (kept : List (Option Kept)) (result : Result (List PathInfo) Reason)
      → length kept < 2 ^ 63 → AreHeard job permitted lefts kept
      → ((answer : Answer) → IsAnswerOf status lefts answer
      → IsExamining job permitted answer result)
      → IsExaminedOf job permitted status lefts result
  examined_of status lefts kept result few heard each =
      let all = made_all lefts kept heard in
      record {
        answer = record {
          status = status;
          outputs = vec_of all.0 (subst (λ k. k < 2 ^ 63) (sym all.1) few);
        };
        is_of = record { ended = refl; left = all.2 };
        each = each;
      }
