-- The diamond is cut when base and left are built and right has failed, and taken up.
use Rattle.std.proofs.Common.{◌≡◌, ◌∙◌, ◌⊎◌, inl, inr, ℕ, zero, suc, true, List, [], ◌∷◌, Some, refl, sym, ap, subst, ⊎_elim, arith}
use Rattle.std.specs.Prelude.{Contains, codes, pos}
use Rattle.nix_names.proofs.Lists.{Contains-cons_cases, Contains-first, Contains-later, Contains-nothing}
use Rattle.nix_drv.specs.Derivation.{Input}
use Rattle.drv_graph.specs.declared.kinds.Kind.TheVariants.{Fixed}
use Rattle.drv_graph.proofs.KindAnswers.{one_kind}
use Rattle.valid_table.specs.PathInfos.{PathInfo}
use Rattle.valid_table.specs.Valid.{IsJournal}
use Rattle.valid_table.specs.declared.entry.Entry.{Entry}
use Rattle.build_outcome.specs.declared.reason.Reason.{Reason}
use Rattle.build_outcome.specs.declared.reason.Reason.TheVariants.{ExitStatus, OutOfMemory}
use Rattle.run_states.specs.StateTables.{IsOpen, IsRunSettled}
use Rattle.run_states.specs.Legal.{AreOutputRecords, IsAllowed, IsLegal, begun, ended, failed, legal_begin, legal_done, legal_fail, legal_opening}
use Rattle.run_states.specs.Runs.{History, IsWanted, opened, state_in, wanted_input, wanted_root}
use Rattle.run_states.specs.States.{Ended, Idle, is_good, phase_of}
use Rattle.run_states.specs.declared.precondition.Precondition.TheVariants.{AllValid, Free}
use Rattle.run_states.specs.declared.state.State.{State}
use Rattle.run_states.specs.declared.state.State.TheVariants.{Done, Failed, Ready, Reused}
use Rattle.run_states.proofs.Registering.{entries_are_journal}
use Rattle.store_run.specs.Builders.{IsAnswered, answered_begin, answered_done, answered_fail, answered_opening}
use Rattle.store_run.specs.DiamondExample.{base, base_out, left_after_cut, diamond, drv_of, file_of, left, left_out, may_make, right, right_out, taken_up, top, top_out}
use Rattle.store_run.specs.Interruptions.{IsTakenUp}
use Rattle.store_run.specs.Scheduling.{HasMemory}
use Rattle.store_run.proofs.AlonePlans.{one_of}
use Rattle.store_run.proofs.CutOpenings.{none_earlier}
use Rattle.store_run.proofs.CutStates.{aside_valid}
use Rattle.store_run.proofs.DiamondPlan.{base_left, base_right, base_top, diamond_sound, foreign, kind_of, left_right, left_top, no_twins, right_top}
use Rattle.store_run.proofs.ScheduleExample.{closed_done, journal, none_valid, one_allowed, one_entry}
use Rattle.store_run.proofs.Telling.{drv_paths}
use Rattle.store_run.proofs.TwinExample.{same_digest}
use Rattle.store_run.proofs.TwinJobs.{file_in}
use Rattle.store_run.proofs.TwinPlans.{empty_kind}
use Rattle.store_run.proofs.Unhindered.{inputs_in, precondition_in, rows_in, state_by, unhindered_ready}
use Rattle.store_run.proofs.DiamondJobs.{base_comes, left_behind, left_comes, right_comes, right_fails_there, three_after, top_comes}

-- ---- what may be registered

records_of : (name out : List ℕ) (inputs : List Input)
    → AreOutputRecords (drv_of name out inputs) (file_in ∷ [])
records_of name out inputs = record {
  count = refl;
  fixed = λ method digest kind info has.
      let kinds : Fixed method digest ≡ empty_kind =
      one_kind (drv_of name out inputs) _ _ kind (kind_of name out inputs) in
      sym (ap (λ (i : PathInfo). i.digest) (one_of file_in info has))
      ∙ ap Some (sym (same_digest _ _ _ _ kinds));
}

new_by : (outs : List (List ℕ)) (out path : List ℕ) → (Contains outs out → ⊥)
    → Contains (out ∷ []) path → Contains outs path → ⊥
new_by outs out path none own valid =
    none (subst (Contains outs) (sym (one_of out path own)) valid)

base_allowed : IsAllowed diamond.graph [] base (file_in ∷ [])
base_allowed =
    one_allowed file_in refl diamond.graph [] base (records_of (codes "base") base_out [])
    (none_valid base)

left_allowed : IsAllowed diamond.graph (file_of base base_out ∷ []) left (file_in ∷ [])
left_allowed =
    one_allowed file_in refl diamond.graph (file_of base base_out ∷ []) left
    (records_of (codes "left") left_out left.drv.inputs)
    (λ path own valid. new_by (base_out ∷ []) left_out path
    (λ has. base_left (one_of base_out left_out has)) own valid)

right_allowed : IsAllowed diamond.graph left_behind right (file_in ∷ [])
right_allowed =
    one_allowed file_in refl diamond.graph left_behind right
    (records_of (codes "right") right_out right.drv.inputs)
    (λ path own valid. new_by (base_out ∷ left_out ∷ []) right_out path
    (λ has. ⊎_elim (λ is. base_right is) (λ last. left_right (one_of left_out right_out last))
    (Contains-cons_cases base_out (left_out ∷ []) right_out has)) own valid)

top_allowed : IsAllowed diamond.graph three_after top (file_in ∷ [])
top_allowed =
    one_allowed file_in refl diamond.graph three_after top
    (records_of (codes "top") top_out top.drv.inputs)
    (λ path own valid. new_by (base_out ∷ left_out ∷ right_out ∷ []) top_out path
    (λ has. ⊎_elim (λ is. base_top is)
    (λ rest. ⊎_elim (λ is. left_top is) (λ last. right_top (one_of right_out top_out last))
    (Contains-cons_cases left_out (right_out ∷ []) top_out rest))
    (Contains-cons_cases base_out (left_out ∷ right_out ∷ []) top_out has)) own valid)

-- ---- who is wanted, and ready

top_wanted : (opening : List Entry) → IsWanted diamond opening 3
top_wanted opening = wanted_root 3 (Contains-first 3 [])

left_wanted : IsWanted diamond [] 1
left_wanted = wanted_input 3 1 (top_wanted []) refl (Contains-first 1 (2 ∷ []))

right_wanted : IsWanted diamond [] 2
right_wanted = wanted_input 3 2 (top_wanted []) refl
    (Contains-later 1 (2 ∷ []) 2 (Contains-first 2 []))

base_wanted : IsWanted diamond [] 0
base_wanted = wanted_input 1 0 left_wanted refl (Contains-first 0 [])

right_wanted_again : IsWanted diamond left_behind 2
right_wanted_again = wanted_input 3 2 (top_wanted left_behind) refl
    (Contains-later 1 (2 ∷ []) 2 (Contains-first 2 []))

ready : (history : History) (d : ℕ) → precondition_in diamond history d ≡ Free
    → ((i : ℕ) → Contains (inputs_in diamond d) i → is_good (state_in diamond history i) ≡ true)
    → phase_of history.events d ≡ Idle → state_in diamond history d ≡ Ready
ready history d free good idle =
    unhindered_ready diamond history diamond_sound d
    (record {
      free = free;
      spent = λ t has. absurd (none_earlier diamond no_twins history.opening d t has);
      good = good;
    })
    idle

done : (history : History) (d : ℕ) → phase_of history.events d ≡ Ended
    → state_in diamond history d ≡ Done
done history d ends = state_by diamond history diamond_sound d Ended ends

reused : (history : History) (d : ℕ) → phase_of history.events d ≡ Idle
    → precondition_in diamond history d ≡ AllValid → state_in diamond history d ≡ Reused
reused history d idle stands =
    state_by diamond history diamond_sound d Idle idle
    ∙ aside_valid (rows_in diamond history) (state_in diamond history) d stands

-- base alone is waited for
after_base : (history : History) → is_good (state_in diamond history 0) ≡ true → (i : ℕ)
    → Contains (0 ∷ []) i → is_good (state_in diamond history i) ≡ true
after_base history good i has =
    subst (λ n. is_good (state_in diamond history n) ≡ true) (one_of 0 i has) good

-- ---- the first run

abbrev base_done : History
base_done = ended (begun (opened []) 0) 0 0 (file_of base base_out)

abbrev left_begun : History
left_begun = begun base_done 1

abbrev right_failed : History
right_failed = failed (begun left_begun 2) 2 2 (ExitStatus (pos 1))

legal_base : IsLegal diamond base_done
legal_base =
    legal_done (begun (opened []) 0) 0 0 base (file_in ∷ []) (file_of base base_out)
    (legal_begin (opened []) 0 (legal_opening [] journal) (omega arith) base_wanted
    (ready (opened []) 0 refl (λ i has. absurd (Contains-nothing i has)) refl))
    refl refl base_allowed (one_entry base base_out file_in refl)

legal_failed : IsLegal diamond right_failed
legal_failed =
    legal_fail (begun left_begun 2) 2 2 (ExitStatus (pos 1))
    (legal_begin left_begun 2
    (legal_begin base_done 1 legal_base (omega arith) left_wanted
    (ready base_done 1 refl (after_base base_done (ap is_good (done base_done 0 refl))) refl))
    (omega arith) right_wanted
    (ready left_begun 2 refl (after_base left_begun (ap is_good (done left_begun 0 refl))) refl))
    refl

legal_cut : IsLegal diamond left_after_cut
legal_cut =
    legal_done right_failed 1 1 left (file_in ∷ []) (file_of left left_out) legal_failed refl refl
    left_allowed (one_entry left left_out file_in refl)

answered_cut : IsAnswered may_make diamond left_after_cut
answered_cut =
    answered_done right_failed 1 1 left (file_in ∷ []) (file_of left left_out)
    (answered_fail (begun left_begun 2) 2 2 (ExitStatus (pos 1))
    (answered_begin left_begun 2
    (answered_begin base_done 1
    (answered_done (begun (opened []) 0) 0 0 base (file_in ∷ []) (file_of base base_out)
    (answered_begin (opened []) 0 (answered_opening [])) refl base_comes
    (one_entry base base_out file_in refl))))
    (inr right_fails_there))
    refl left_comes (one_entry left left_out file_in refl)

pub right_broken : state_in diamond left_after_cut 2 ≡ Failed (ExitStatus (pos 1))
right_broken = state_by diamond left_after_cut diamond_sound 2 _ refl

-- ---- the second run

abbrev right_done : History
right_done = ended (begun (opened left_behind) 2) 2 0 (file_of right right_out)

two_journal : IsJournal left_behind
two_journal = entries_are_journal diamond left_after_cut
    (drv_paths (λ reason. reason ≡ OutOfMemory) may_make diamond diamond_sound) legal_cut

legal_right : IsLegal diamond right_done
legal_right =
    legal_done (begun (opened left_behind) 2) 2 0 right (file_in ∷ []) (file_of right right_out)
    (legal_begin (opened left_behind) 2 (legal_opening left_behind two_journal) (omega arith)
    right_wanted_again
    (ready (opened left_behind) 2 refl
    (after_base (opened left_behind) (ap is_good (reused (opened left_behind) 0 refl refl)))
    refl))
    refl refl right_allowed (one_entry right right_out file_in refl)

rest_after_both : (i : ℕ) → Contains (1 ∷ 2 ∷ []) i → is_good (state_in diamond right_done i) ≡ true
rest_after_both i has =
    ⊎_elim
    (λ is. subst (λ n. is_good (state_in diamond right_done n) ≡ true) is
    (ap is_good (reused right_done 1 refl refl)))
    (λ last. subst (λ n. is_good (state_in diamond right_done n) ≡ true) (one_of 2 i last)
    (ap is_good (done right_done 2 refl)))
    (Contains-cons_cases 1 (2 ∷ []) i has)

legal_again : IsLegal diamond taken_up
legal_again =
    legal_done (begun right_done 3) 3 1 top (file_in ∷ []) (file_of top top_out)
    (legal_begin right_done 3 legal_right (omega arith) (top_wanted left_behind)
    (ready right_done 3 refl rest_after_both refl))
    refl refl top_allowed (one_entry top top_out file_in refl)

answered_again : IsAnswered may_make diamond taken_up
answered_again =
    answered_done (begun right_done 3) 3 1 top (file_in ∷ []) (file_of top top_out)
    (answered_begin right_done 3
    (answered_done (begun (opened left_behind) 2) 2 0 right (file_in ∷ []) (file_of right right_out)
    (answered_begin (opened left_behind) 2 (answered_opening left_behind)) refl right_comes
    (one_entry right right_out file_in refl)))
    refl top_comes (one_entry top top_out file_in refl)

pub base_reused : state_in diamond taken_up 0 ≡ Reused
base_reused = reused taken_up 0 refl refl

pub left_reused : state_in diamond taken_up 1 ≡ Reused
left_reused = reused taken_up 1 refl refl

pub right_built : state_in diamond taken_up 2 ≡ Done
right_built = done taken_up 2 refl

pub top_built : state_in diamond taken_up 3 ≡ Done
top_built = done taken_up 3 refl

closed_reused : (s : State) → s ≡ Reused → IsOpen s → ⊥
closed_reused s is (inl blocked) = cc
closed_reused s is (inr (inl ready)) = cc
closed_reused s is (inr (inr (lease, building))) = cc

settled_again : IsRunSettled diamond taken_up
settled_again zero low is = closed_reused _ base_reused
settled_again (suc zero) low is = closed_reused _ left_reused
settled_again (suc (suc zero)) low is = closed_done _ right_built
settled_again (suc (suc (suc zero))) low is = closed_done _ top_built
settled_again (suc (suc (suc (suc d)))) low is = absurd (omega (arith, low))

not_broken : (s : State) (reason : Reason) → (s ≡ Reused) ⊎ (s ≡ Done) → s ≡ Failed reason → ⊥
not_broken s reason (inl is) failed = cc
not_broken s reason (inr is) failed = cc

memory_again : HasMemory diamond taken_up
memory_again zero low is failed = not_broken _ OutOfMemory (inl base_reused) failed
memory_again (suc zero) low is failed = not_broken _ OutOfMemory (inl left_reused) failed
memory_again (suc (suc zero)) low is failed = not_broken _ OutOfMemory (inr right_built) failed
memory_again (suc (suc (suc zero))) low is failed = not_broken _ OutOfMemory (inr top_built) failed
memory_again (suc (suc (suc (suc d)))) low is failed = absurd (omega (arith, low))

pub is_taken_up : IsTakenUp may_make diamond left_after_cut taken_up
is_taken_up = record {
  is_cut = record {
    plan = diamond_sound;
    twins = no_twins;
    sources = foreign;
    legal = legal_cut;
    answered = answered_cut;
  };
  opening = refl;
  end = record {
    plan = diamond_sound;
    legal = legal_again;
    settled = settled_again;
    answered = answered_again;
    memory = memory_again;
  };
}
