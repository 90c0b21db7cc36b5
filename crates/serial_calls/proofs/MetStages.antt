-- A slot that may have the stage of a change, once it is shown the history again.
use Rattle.std.proofs.Common.{None, Option, Some, ap, refl, subst, sym, ℕ, ◌∙◌, ◌≡◌}
use Rattle.serial_calls.specs.ChangeStaging.{DataCall, IsUnstaged, StagesChange, StagesEntry}
use Rattle.serial_calls.specs.declared.stage_result.Staged.{Staged}
use Rattle.serial_calls.specs.declared.stage_result.Staged.TheVariants.{Root, Unstaged}
use Rattle.crash_core.specs.EntryLists.{entry_at}
use Rattle.dir_records.specs.declared.entry.DirEntry.{DirEntry}
use Rattle.history_seats.specs.Changes.{seat_renewed, slot_renewed}
use Rattle.history_seats.specs.Records.{Version}
use Rattle.history_seats.specs.Rule.{IsSound, SlotFits}
use Rattle.history_seats.specs.Views.{GateView, Sight, SlotView}
use Rattle.call_steps.specs.GuardedGates.{GateInvariant}
use Rattle.call_steps.specs.declared.Closing.{Closing}
use Rattle.call_steps.specs.Fits.{SeesWhole}
use Rattle.call_steps.specs.Learning.{learned, shown}
use Rattle.call_steps.specs.GuardedSlots.{SlotInvariant}
use Rattle.call_steps.specs.GuardedReads.{GivesVersion}
use Rattle.call_steps.specs.GuardedStages.{IsStagedSlot}
use Rattle.call_steps.proofs.Meetings.{at-entry, at-stays, gives-one, met-gives, met-guarded}
use Rattle.call_steps.specs.SlotCatchUp.{IsAtEntry, StillGives}
use Rattle.call_steps.specs.StagedVersions.{IsStagedVersion}
use Rattle.call_steps.specs.SlotValues.{SlotValue, without_stage}
use Rattle.call_steps.specs.Gates.{GateValue}
use Rattle.core_laws.specs.Stores.{Store}

-- the slot that lent its seat, and got it back from the gate
pub given_back : (gate : GateView) (old lent new : SlotValue) (seat given : Sight SlotView) → old.seat ≡ Some seat → lent ≡ record old { seat = None } → Some given ≡ seat_renewed gate (Some seat)
    → new ≡ record lent { seat = Some given } → new ≡ shown gate old
given_back gate old lent new seat given has lends renewed gives =
    gives
    ∙ ap (λ (s : SlotValue). record s { seat = Some given }) lends
    ∙ ap (λ (o : Option (Sight SlotView)). record old { seat = o }) (renewed ∙ sym (ap (seat_renewed gate) has))

module _ (store : Store) (gate : GateView) (old new : SlotValue) (seat : Sight SlotView) (has : old.seat ≡ Some seat) (fits : SlotFits gate seat.knows)
    (base : SlotInvariant store (record old { holds = without_stage old.holds })) (settled : old.doubt ≡ None) (is : new ≡ shown gate old) where
  -- what a slot is without its stage
  abbrev unstaged : SlotValue → SlotValue
  unstaged slot = record slot { holds = without_stage slot.holds }

  -- a slot in no doubt is shown the history alone, and may stand behind its lock still
  shown_guarded : (slot : SlotValue) → slot.seat ≡ Some seat → slot.doubt ≡ None → SlotInvariant store slot → SlotInvariant store (shown gate slot)
  shown_guarded slot own calm guarded = subst (λ (d : Option ℕ). SlotInvariant store (learned gate d (shown gate slot))) calm (met-guarded store gate slot seat own fits guarded)

  pub met_base : SlotInvariant store (unstaged new)
  met_base = subst (λ (s : SlotValue). SlotInvariant store (unstaged s)) (sym is) (shown_guarded (unstaged old) has settled base)

  pub met_same : new ≡ record old { seat = new.seat }
  met_same = is ∙ ap (λ (s : Option (Sight SlotView)). record old { seat = s }) (sym (ap (λ (x : SlotValue). x.seat) is))

  -- it gives what it gave
  shown_gives : (v : Version) → GivesVersion old v → GivesVersion (shown gate (unstaged old)) v
  shown_gives v gives =
      subst (λ (d : Option ℕ). GivesVersion (learned gate d (shown gate (unstaged old))) v) settled
      (met-gives store gate (unstaged old) seat has fits base v (record { seat = gives.seat; is = gives.is; gives = gives.gives })).gives

  pub met_gives : (v : Version) → GivesVersion old v → StillGives old new v
  met_gives v gives =
      let now = shown_gives v gives in
      record { gives = subst (λ (s : SlotValue). GivesVersion s v) (sym is) (record { seat = now.seat; is = now.is; gives = now.gives }); same = met_same }

  -- and sees the whole history, so that it stands at the entry
  met_sees : SeesWhole gate new
  met_sees = record {
    seat = record seat { knows = slot_renewed gate seat.knows };
    is = ap (λ (x : SlotValue). x.seat) is ∙ ap (seat_renewed gate) has;
    whole = refl;
  }

  pub met_at : {F R : Type 0} (g : GateValue F R) (closing : Option Closing) → GateInvariant store g gate closing → g.doubt ≡ None → (index : ℕ) (e : DirEntry)
      → entry_at g.dir.dir.entries index ≡ Some e → old.number ≡ e.file → IsSound gate → (v : Version) × IsAtEntry gate new e v
  met_at g closing guarded idle index e held file sound =
      let at = at-entry store g gate closing guarded idle index e held (unstaged new) met_base (record { seat = met_sees.seat; is = met_sees.is; whole = met_sees.whole })
      (ap (λ (x : SlotValue). x.number) is ∙ file) sound in
      (at.0, at-stays gate (unstaged new) new e at.0 refl at.1)

  -- what it has in stage it keeps
  still_staged : (next : Version) → IsStagedSlot store old next → IsStagedSlot store new next
  still_staged next staged =
      subst (λ (s : SlotValue). IsStagedSlot store s next) (sym is)
      (record { has = staged.has; calm = staged.calm; before = shown_guarded (unstaged old) has settled staged.before; after = staged.after })

  kept : (v : Version) (asked : DataCall) (staged : Staged) → StagesChange store old v asked staged → StagesChange store new v asked staged
  kept v asked (Root root) stages = record {
    next = stages.next;
    staged = still_staged stages.next stages.staged;
    version = subst (λ (s : SlotValue). IsStagedVersion store.keys s.file v stages.next (asked.change v.size) root) (sym is) stages.version;
  }
  kept v asked (Unstaged reply) stages =
      subst (λ (s : SlotValue). IsUnstaged store s v asked reply) (sym is)
      (record { guarded = shown_guarded old has settled stages.guarded; failure = stages.failure; answers = stages.answers })

  -- and it is of the entry's version
  pub met_stages : (e : DirEntry) (w : Version) → IsAtEntry gate new e w → (v : Version) → GivesVersion old v → (asked : DataCall) (staged : Staged) → StagesChange store old v asked staged
      → StagesEntry store gate new e asked staged
  met_stages e w at v gives asked staged stages = record {
    version = w;
    at = at;
    stages = subst (λ (x : Version). StagesChange store new x asked staged) (gives-one new v w (met_gives v gives).gives at.gives) (kept v asked staged stages);
  }
