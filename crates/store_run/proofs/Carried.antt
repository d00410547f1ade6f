-- Paths whose records stand in another list of registrations too, with those of all that they
-- reach.
use Rattle.std.proofs.Common.{◌≡◌, ◌↔◌, ◌∙◌, inl, inr, ℕ, List, [], ◌∷◌, ◌++◌, Some, ap, refl, subst, sym, ⊎_elim, rules}
use Rattle.std.specs.Prelude.{Contains}
use Rattle.std.proofs.lemmas.List.Elements.{Contains-append_left}
use Rattle.valid_table.specs.Closure.{LeadsByReferences, Reaches}
use Rattle.valid_table.specs.Entries.{registered}
use Rattle.valid_table.specs.PathInfos.{PathInfo}
use Rattle.valid_table.specs.Valid.{AreReferencesValid, IsOnce, IsValid, Registers}
use Rattle.valid_table.specs.declared.entry.Entry.{Entry}
use Rattle.valid_table.specs.declared.entry.Registration.{Registration}
use Rattle.valid_table.proofs.ClosureLaws.{leads_before, leads_after, registers_from_valid}
use Rattle.valid_table.proofs.Following.{one_info}
use Rattle.run_states.specs.Legal.{MayRefer}
use Rattle.run_states.proofs.Dones.{reached_is_valid}
use Rattle.run_report.proofs.NamedPaths.{ReferAlike}
use Rattle.valid_table.proofs.Reaching.{valid_from_registers}
use Rattle.build_outcome.specs.Checks.{record_at}
use Rattle.build_outcome.proofs.Sizes.{record_there}
use Rattle.store_run.proofs.KnownRecords.{record_is, record_registers}

-- all that a path reaches among some registrations has the same record among others
abbrev pub IsCarried : (all other : List Registration) → (from : List ℕ) → Type 0
IsCarried all other from = (to : List ℕ) (info : PathInfo) → Reaches all from to
    → Registers all to info → Registers other to info

-- what leads on
pub leads_on : (all : List Registration) (a b c : List ℕ) (there on : List (List ℕ))
    → LeadsByReferences all a b there → LeadsByReferences all b c on
    → LeadsByReferences all a c (there ++ on)
leads_on all a b c [] on there leads = search rules
leads_on all a b c (next ∷ there) on leads more =
    (leads.0, leads_on all next b c there on leads.1 more)

-- a carried path leads to the same paths by the same steps
leads_carried : (all other : List Registration) (from to : List ℕ) (steps : List (List ℕ))
    → IsCarried all other from → LeadsByReferences all from to steps
    → LeadsByReferences other from to steps
leads_carried all other from to [] carried leads =
    let had = registers_from_valid _ _ leads.0 in (
      valid_from_registers _ _ _ (carried from had.0 ([], (leads.0, refl)) had.1),
      leads.1,
    )
leads_carried all other from to (next ∷ steps) carried leads =
    let valid = valid_from_registers _ _ _ leads.0.1 in (
      (leads.0.0, carried from leads.0.0 ([], (valid, refl)) leads.0.1, leads.0.2),
      leads_carried _ other next to steps
          (λ x info reaches has. carried x info (next ∷ reaches.0, (leads.0, reaches.1)) has)
          leads.1,
    )

-- so what may be referred to is the same, where the seeds are carried
pub may_refer_there : (all other : List Registration) (seeds outputs : List (List ℕ))
    → ((seed : List ℕ) → Contains seeds seed → IsCarried all other seed) → (path : List ℕ)
    → MayRefer all seeds outputs path → MayRefer other seeds outputs path
may_refer_there all other seeds outputs carried path may =
    ⊎_elim
    (λ reached. inl (
      reached.0,
      reached.1,
      (
        reached.2.0,
        leads_carried _ _ _ _ _ (carried reached.0 reached.1)
            reached.2.1,
      ),
    ))
    (λ own. inr own) may

-- and wherever each path has the same records
pub refer_alike : (entries other : List Entry)
    → ((path : List ℕ) (info : PathInfo) → Registers (registered entries) path info
    ↔ Registers (registered other) path info) → ReferAlike entries other
refer_alike entries other same seeds outputs path = (
  may_refer_there (registered entries) (registered other) seeds outputs
      (λ seed has to info reaches is. (same to info).0 is) path,
  may_refer_there (registered other) (registered entries) seeds outputs
      (λ seed has to info reaches is. (same to info).1 is) path,
)

-- what may be referred to is valid, but for outputs
pub referred_valid : (registrations : List Registration) (seeds outputs : List (List ℕ))
    (path : List ℕ) → MayRefer registrations seeds outputs path → (Contains outputs path → ⊥)
    → IsValid registrations path
referred_valid registrations seeds outputs path (inl reached) foreign =
    reached_is_valid registrations reached.0 path reached.2.0 reached.2.1
referred_valid registrations seeds outputs path (inr own) foreign = absurd (foreign own)

-- what a carried path reaches is carried
carried_on : (all other : List Registration) (seed from : List ℕ) → IsCarried all other seed
    → Reaches all seed from → IsCarried all other from
carried_on all other seed from carried there to info reaches has =
    carried to info (
      there.0 ++ reaches.0,
      leads_on all seed from to there.0 reaches.0 there.1 reaches.1,
    ) has

-- what may be referred to reaches the same there, but for outputs
reach_carried : (all other : List Registration) (seeds outputs : List (List ℕ))
    → ((seed : List ℕ) → Contains seeds seed → IsCarried all other seed) → (from to : List ℕ)
    → MayRefer all seeds outputs from → (Contains outputs from → ⊥) → Reaches all from to
    → Reaches other from to
reach_carried all other seeds outputs carried from to (inl reached) foreign reaches = (
  reaches.0,
  leads_carried all other from to reaches.0
      (carried_on all other reached.0 from (carried reached.0 reached.1) reached.2) reaches.1,
)
reach_carried all other seeds outputs carried from to (inr own) foreign reaches =
    absurd (foreign own)

-- and so both ways
pub reach_both : (all other : List Registration) (seeds outputs : List (List ℕ))
    → ((seed : List ℕ) → Contains seeds seed → IsCarried all other seed)
    → ((seed : List ℕ) → Contains seeds seed → IsCarried other all seed) → (from to : List ℕ)
    → MayRefer all seeds outputs from → (Contains outputs from → ⊥)
    → Reaches all from to ↔ Reaches other from to
reach_both all other seeds outputs there back from to may foreign = (
  reach_carried all other seeds outputs there from to may foreign,
  reach_carried other all seeds outputs back from to
      (may_refer_there all other seeds outputs there from may) foreign,
)

-- what may be referred to reaches paths with the same records there, but for outputs
pub record_both : (all other : List Registration) (seeds outputs : List (List ℕ)) → IsOnce all
    → ((seed : List ℕ) → Contains seeds seed → IsCarried all other seed)
    → ((seed : List ℕ) → Contains seeds seed → IsCarried other all seed) → (from to : List ℕ)
    → MayRefer all seeds outputs from → (Contains outputs from → ⊥) → Reaches all from to
    → record_at all to ≡ record_at other to
record_both all other seeds outputs once there back from to (inl (seed, has, reached)) foreign
    reaches =
    let steps = reached.0 ++ reaches.0 in
    let leads = leads_on all seed from to reached.0 reaches.0 reached.1 reaches.1 in
    let leads' = leads_carried all other seed to steps (there seed has) leads in
    let here = record_there all to (reached_is_valid all seed to steps leads) in
    let far = record_there other to (reached_is_valid other seed to steps leads') in
    let registers : Registers all to far.0.info =
    back seed has to far.0.info (steps, leads') (record_registers other to far.0 far.1) in
    let same : far.0.info ≡ here.0.info =
    one_info all once to far.0.info here.0.info registers
    (record_registers all to here.0 here.1) in
    let paths : far.0.path ≡ here.0.path =
    (record_is other to far.0 far.1).1 ∙ sym (record_is all to here.0 here.1).1 in
    here.1
    ∙ sym (far.1
    ∙ ap (λ (p : List ℕ). Some (record { path = p; info = far.0.info })) paths
    ∙ ap (λ (i : PathInfo). Some (record { path = here.0.path; info = i })) same)
record_both all other seeds outputs once there back from to (inr own) foreign reaches =
    absurd (foreign own)

-- what a valid path reaches stays the same where more is registered
pub reach_more : (first more : List Registration) → AreReferencesValid first
    → IsOnce (first ++ more) → (from to : List ℕ) → IsValid first from
    → Reaches first from to ↔ Reaches (first ++ more) from to
reach_more first more closed once from to valid = (
  λ reaches. (reaches.0, leads_after first more from to reaches.0 reaches.1),
  λ reaches. (reaches.0, leads_before first more closed once from to reaches.0 valid reaches.1),
)

-- what was valid at first is carried to each list that begins the same
pub first_carried : (first more other : List Registration) → AreReferencesValid first
    → IsOnce (first ++ more) → (path : List ℕ) → IsValid first path
    → IsCarried (first ++ more) (first ++ other) path
first_carried first more other closed once path valid to info reaches has =
    let there = reached_is_valid _ _ _ _
    (leads_before _ _ closed once _ _ _ valid reaches.1) in
    let had = registers_from_valid _ _ there in
    let same : had.0 ≡ info = one_info _ once _ _ _
    (Contains-append_left _ _ _ had.1) has in
    subst (Registers (first ++ other) to) same
    (Contains-append_left _ _ _ had.1)

-- outputs are carried that have the same records, and refer to one another or to what carried seeds
-- reach
module _ (all other : List Registration) (seeds outputs : List (List ℕ))
    (carried : (seed : List ℕ) → Contains seeds seed → IsCarried all other seed)
    (records : (path : List ℕ) (info : PathInfo) → Contains outputs path → Registers all path info
    → Registers other path info)
    (refers : (path next : List ℕ) (info : PathInfo) → Contains outputs path
    → Registers all path info → Contains info.references next → MayRefer all seeds outputs next)
  where
    output_leads : (from to : List ℕ) (steps : List (List ℕ)) → Contains outputs from
        → LeadsByReferences all from to steps → (info : PathInfo) → Registers all to info
        → Registers other to info
    output_leads from to [] own leads info has = search rules
    output_leads from to (next ∷ steps) own leads info has =
        ⊎_elim
        (λ reached. carried reached.0 reached.1 to info (
          reached.2.0 ++ steps,
          leads_on _ _ _ _ _ _ reached.2.1 leads.1,
        ) has)
        (λ inner. output_leads next to steps inner leads.1 info has)
        (refers from next leads.0.0 own leads.0.1 leads.0.2)

    pub outputs_carried : (path : List ℕ) → Contains outputs path → IsCarried all other path
    outputs_carried path own to info reaches has = output_leads _ _ _ own reaches.1 _ has
