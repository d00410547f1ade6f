-- What was heard of the outputs of a job, and the verdict on it.
use Rattle.std.proofs.Common.{◌≡◌, ◌≢◌, ◌∙◌, ◌+◌, ℕ, ℤ, List, Option, Some, [], ◌∷◌, ◌++◌, Result, Ok, ⊎_elim, ap, inl, inr, length, length-append, pos, refl, subst, suc, sym}
use Rattle.std.specs.Prelude.{IfSome}
use Rattle.std.specs.Process.{exit_code}
use Rattle.std.proofs.lemmas.List.Elements.{All-nil, All-push}
use Rattle.nix_archive.specs.Trees.{Tree as Archived}
use Rattle.nix_names.specs.Bytes.{Path}
use Rattle.valid_table.specs.PathInfos.{PathInfo}
use Rattle.build_outcome.specs.Heard.{AreHeard, AreLeftAs, IsExaminedOf, IsHeardAs, IsNotKept, IsRunExamined, Kept, LeftArchive}
use Rattle.build_outcome.specs.declared.job.Job.{Job}
use Rattle.build_outcome.specs.declared.job.LeftOutput.{LeftOutput}
use Rattle.build_outcome.specs.declared.reason.Reason.{Reason}
use Rattle.build_outcome.specs.declared.reason.Reason.TheVariants.{ReadFault, TooLarge}
use Rattle.drv_graph.specs.declared.profile.Profile.TheVariants.{Plain}
use Rattle.process_build.specs.Ends.{MayEnd}
use Rattle.process_build.specs.private.Answers.{IsReadingFault}
use Rattle.process_build.specs.declared.process.process_end.HeardBuild.{HeardBuild}
use Rattle.process_build.specs.private.HeardOutputs.{AreOutputsHeard, IsHeardBuild, IsOfProfile, IsOutputHeard}

heard_more : (job : Job) (permitted : List Path) (lefts : List (Option LeftArchive))
    (kept : List (Option Kept)) (left : Option LeftArchive) (one : Option Kept)
    → AreHeard job permitted lefts kept → IsHeardAs job permitted left one
    → AreHeard job permitted (lefts ++ left ∷ []) (kept ++ one ∷ [])
heard_more job permitted [] [] left one are is = (is, tt)
heard_more job permitted [] (k ∷ ks) left one are is = absurd are
heard_more job permitted (l ∷ ls) [] left one are is = absurd are
heard_more job permitted (l ∷ ls) (k ∷ ks) left one are is =
    (are.0, heard_more job permitted ls ks left one are.1 is)

-- nothing is heard of any output yet
pub outputs_begun : (job : Job) (permitted : List Path) (kept : List (Option Kept)) → kept ≡ []
    → AreOutputsHeard job permitted 0 kept
outputs_begun job permitted kept e = subst (AreOutputsHeard job permitted 0) (sym e) record {
  lefts = [];
  count = refl;
  of_profile = All-nil (λ left. IfSome left (IsOfProfile job.profile));
  heard = tt;
}

-- what was heard of one more output
pub outputs_more : (job : Job) (permitted : List Path) (count : ℕ) (kept more : List (Option Kept))
    (one : Option Kept) → more ≡ kept ++ one ∷ [] → AreOutputsHeard job permitted count kept
    → IsOutputHeard job permitted one → AreOutputsHeard job permitted (count + 1) more
outputs_more job permitted count kept more one e are is =
    subst (AreOutputsHeard job permitted (count + 1)) (sym e) record {
      lefts = are.lefts ++ is.left ∷ [];
      count = length-append are.lefts (is.left ∷ []) ∙ ap (λ n. n + 1) are.count;
      of_profile = All-push (λ left. IfSome left (IsOfProfile job.profile)) are.lefts is.left
          are.of_profile is.of_profile;
      heard = heard_more job permitted are.lefts kept is.left one are.heard is.heard;
    }

-- trees in memory of what lies at the outputs are as many
left_count : (lefts : List (Option LeftArchive)) (outputs : List (Option LeftOutput))
    → AreLeftAs lefts outputs → length outputs ≡ length lefts
left_count [] [] are = refl
left_count [] (o ∷ os) are = absurd are
left_count (l ∷ ls) [] are = absurd are
left_count (l ∷ ls) (o ∷ os) are = ap suc (left_count ls os are.1)

none_left : (outputs : List (Option LeftOutput)) → AreLeftAs [] outputs → outputs ≡ []
none_left [] are = refl
none_left (o ∷ os) are = absurd are

-- the verdict on what was heard of the outputs of a builder that ended with a status
pub end_examined : (job : Job) (permitted : List Path) (status : Option ℤ)
    (lefts : List (Option LeftArchive)) (result : Result (List PathInfo) Reason)
    → IsExaminedOf job permitted status lefts result
    → (status ≡ Some (pos 0) → length lefts ≡ length job.outputs.items)
    → (status ≢ Some (pos 0) → lefts ≡ [])
    → IsRunExamined MayEnd job permitted (Ok result)
end_examined job permitted status lefts result examined good bad =
    let answer = examined.answer in
    let is = examined.is_of in (
      answer,
      record {
        of_good = λ zero. left_count lefts answer.outputs.items is.left
            ∙ good (sym is.ended ∙ zero);
        of_bad = λ other. none_left answer.outputs.items
            (subst (λ l. AreLeftAs l answer.outputs.items) (bad (λ zero. other (is.ended ∙ zero)))
            is.left);
      },
      examined.each answer is,
    )

-- nothing is kept of an output for a reason why outputs can't be read
pub not_kept : (job : Job) (tree : Archived) (why : Reason) → IsNotKept job tree why
    → IsReadingFault why
not_kept job tree why not =
    ⊎_elim inl (λ h. inr (⊎_elim (λ read. inl read.0) (λ large. inr large.0) h)) not

-- only under `plain` nothing is kept of an output since it passes the limits
pub limited_kept : (job : Job) (tree : Archived) (why : Reason) → IsNotKept job tree why
    → why ≡ TooLarge → job.profile ≡ Plain
limited_kept job tree why (inl memory) large = absurd cc
limited_kept job tree why (inr (inl read)) large = let is : why ≡ ReadFault = read.0 in absurd cc
limited_kept job tree why (inr (inr past)) large = past.1

-- nothing was heard, where the exit status isn't 0
pub none_heard : (job : Job) (permitted : List Path) (build : HeardBuild)
    → exit_code build.ended.status ≢ Some (pos 0) → build.outputs.items ≡ []
    → IsHeardBuild job permitted build
none_heard job permitted build bad none = record {
  lefts = [];
  of_good = λ zero. absurd (bad zero);
  of_bad = λ _. refl;
  heard = subst (AreHeard job permitted []) (sym none) tt;
}

-- all outputs were heard, where it is
pub all_heard : (job : Job) (permitted : List Path) (build : HeardBuild)
    → exit_code build.ended.status ≡ Some (pos 0)
    → AreOutputsHeard job permitted (length job.outputs.items) build.outputs.items
    → IsHeardBuild job permitted build
all_heard job permitted build zero heard = record {
  lefts = heard.lefts;
  of_good = λ _. heard.count;
  of_bad = λ bad. absurd (bad zero);
  heard = heard.heard;
}
