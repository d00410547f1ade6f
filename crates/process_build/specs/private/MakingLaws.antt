-- What is made at some tokens joins.
use Rattle.std.specs.Prelude.{◌≡◌, Option, Some, None, List, [], ◌∷◌, ◌++◌}
use Rattle.std.proofs.Common.{◌∙◌, ap, append_assoc, refl, subst, sym}
use Rattle.nix_archive.specs.Trees.{Bytes}
use Rattle.nix_archive.specs.Tokens.{Token, EntryBegun, EntryEnded, FileBegun, FileByte, FileEnded, FolderBegun, FolderEnded, LinkTo}
use Rattle.process_build.specs.MadeTrees.{Step}
use Rattle.process_build.specs.Contents.{child_of}
use Rattle.process_build.specs.Making.{AreTaken, HaveOneTree, IsHeard, IsHeardBy, Position, outermost, position_after, position_along, position_of, steps_along, steps_at}
use Rattle.process_build.specs.declared.tree_maker.maker_fault.MakerFault.{MakerFault}
use Rattle.process_build.specs.declared.tree_maker.maker.TreeMaker.{TreeMaker}

pub position_append : (position : Position) (before after : List Token)
    → position_along position (before ++ after) ≡ position_along (position_along position before)
    after
position_append position [] after = refl
position_append position (token ∷ before) after =
    position_append (position_after position token) before after

pub steps_append : (position : Position) (before after : List Token)
    → steps_along position (before ++ after)
    ≡ steps_along position before ++ steps_along (position_along position before) after
steps_append position [] after = refl
steps_append position (token ∷ before) after =
    ap (λ l. steps_at position token ++ l)
    (steps_append (position_after position token) before after)
    ∙ sym (append_assoc (steps_at position token)
    (steps_along (position_after position token) before)
    (steps_along (position_along (position_after position token) before) after))

-- a position after some tokens is in the same tree
pub one_tree : (path : Bytes) (around : List Bytes) (said : List Token)
    → HaveOneTree (record { path = path; around = around })
    (position_along (record { path = path; around = around }) said)
one_tree path around [] = refl
one_tree path around (EntryBegun name ∷ said) =
    one_tree (child_of path name) (path ∷ around) said
one_tree path [] (EntryEnded ∷ said) = one_tree path [] said
one_tree path (folder ∷ around) (EntryEnded ∷ said) = one_tree folder around said
one_tree path around (FolderBegun ∷ said) = one_tree path around said
one_tree path around (FolderEnded ∷ said) = one_tree path around said
one_tree path around (FileBegun executable size ∷ said) = one_tree path around said
one_tree path around (FileByte byte ∷ said) = one_tree path around said
one_tree path around (FileEnded size ∷ said) = one_tree path around said
one_tree path around (LinkTo target ∷ said) = one_tree path around said

module _ {M : Type 0} (made : M → List Step → M → Type 0) where
  -- what was taken lies in the same tree
  tree_taken : (from to : Position) (s t : M) (said : List Token) → AreTaken made from to s t said
      → HaveOneTree from to
  tree_taken from to s t said h = subst (HaveOneTree from) (sym h.position)
      (one_tree from.path from.around said)

  none_by : ((m : M) → made m [] m) → (s : TreeMaker M) (was : Option MakerFault)
      → IsHeardBy made s [] s was was
  none_by silence s (Some fault) = refl
  none_by silence s None = record { steps = silence s.parts; position = refl }

  -- no tokens change nothing
  pub heard_none : ((m : M) → made m [] m) → (s : TreeMaker M) → IsHeard made s [] s
  heard_none silence s = none_by silence s s.fault

  module _ (joins : (s m t : M) (before after : List Step) → made s before m → made m after t
      → made s (before ++ after) t) where
    taken_both : (from mid to : Position) (s m t : M) (before after : List Token)
        → AreTaken made from mid s m before → AreTaken made mid to m t after
        → AreTaken made from to s t (before ++ after)
    taken_both from mid to s m t before after h g = record {
      steps = subst (λ l. made s l t) (sym (steps_append from before after)
          ) (joins s m t (steps_along from before) (steps_along (position_along from before) after)
          h.steps (subst (λ p. made m (steps_along p after) t) h.position g.steps));
      position = g.position ∙ ap (λ p. position_along p after) h.position
          ∙ sym (position_append from before after);
    }

    both_by : (s m t : TreeMaker M) (before after : List Token) (a b c : Option MakerFault)
        → a ≡ s.fault → b ≡ m.fault → c ≡ t.fault → IsHeardBy made s before m a b
        → IsHeardBy made m after t b c → IsHeardBy made s (before ++ after) t a c
    both_by s m t before after (Some f) None c ea eb ec h g =
        let same : m.fault ≡ s.fault = ap (λ (x : TreeMaker M). x.fault) h in absurd cc
    both_by s m t before after (Some f) (Some e) c ea eb ec h g = g ∙ h
    both_by s m t before after None None None ea eb ec h g =
        taken_both (position_of s) (position_of m) (position_of t) s.parts m.parts t.parts before
        after h g
    both_by s m t before after None None (Some f) ea eb ec h g =
        g ∙ tree_taken (position_of s) (position_of m) s.parts m.parts before h
    both_by s m t before after None (Some f) None ea eb ec h g =
        let same : t.fault ≡ m.fault = ap (λ (x : TreeMaker M). x.fault) g in absurd cc
    both_by s m t before after None (Some f) (Some e) ea eb ec h g =
        ap (λ (x : TreeMaker M). outermost (position_of x).path (position_of x).around) g ∙ h

    -- what is heard joins
    pub heard_both : (s m t : TreeMaker M) (before after : List Token)
        → IsHeard made s before m → IsHeard made m after t → IsHeard made s (before ++ after) t
    heard_both s m t before after h g =
        both_by s m t before after s.fault m.fault t.fault refl refl refl h g
