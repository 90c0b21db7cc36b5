-- A slot behind an answer that its file gave.
use Rattle.std.proofs.Common.{◌≡◌, ◌<◌, ◌^◌, ℕ, [], append-nil, Option, Some, None, refl, sym, ap, ◌∙◌, subst, arith}
use Rattle.tee_types.specs.declared.call.Call.{Call}
use Rattle.tee_types.specs.declared.reply.Reply.{Reply}
use Rattle.store_model.specs.declared.event.Event.{Event}
use Rattle.store_model.specs.declared.event.Event.TheVariants.{Call as CallEvent}
use Rattle.store_model.specs.declared.event.Mark.TheVariants.{Unchanged}
use Rattle.store_model.specs.Record.{Tag}
use Rattle.history_seats.specs.Changes.{TagVersions}
use Rattle.history_seats.specs.Directory.{given_version}
use Rattle.history_seats.specs.Mounts.{Mounted}
use Rattle.history_seats.specs.Records.{HistoryRecord, Version}
use Rattle.history_seats.specs.Rule.{IsSound, SlotFits}
use Rattle.history_seats.specs.Settling.{Pending, calm}
use Rattle.history_seats.specs.Tags.{HasRightTag}
use Rattle.history_seats.specs.Views.{GateView, Sight, SlotView}
use Rattle.crash_core.specs.DirectoryLaws.{AreEntries}
use Rattle.core_laws.specs.Stores.{Store}
use Rattle.core_laws.proofs.Mending.{some_same}
use Rattle.core_laws.specs.TagLaws.{NamesGiven}
use Rattle.core_laws.proofs.RightTags.{unchanged_right}
use Rattle.commit_gate.specs.Gates.{GateValue}
use Rattle.commit_gate.specs.Journals.{IsJournal}
use Rattle.commit_gate.specs.CallerSessions.{CallerSession}
use Rattle.object_slots.specs.SlotValues.{SlotValue}
use Rattle.object_slots.specs.Fits.{SeesWhole}
use Rattle.object_slots.specs.KnownFor.{own_version}
use Rattle.object_slots.specs.GuardedSlots.{SlotInvariant, IsSlotOf}
use Rattle.object_slots.specs.OwnEvents.{IsOwnEvent, own_record, seat_after}
use Rattle.object_slots.proofs.Contents.{seat_same}
use Rattle.object_slots.proofs.OwnRecords.{unchanged_keep}
use Rattle.commit_gate.specs.declared.guarded_gate.Closing.{Closing}
use Rattle.commit_gate.specs.KnownMachine.{KnowsMachine}
use Rattle.commit_gate.specs.GuardedGates.{GateInvariant}
use Rattle.commit_gate.specs.SlotAnswers.{versions_given}
use Rattle.call_steps.specs.ServableReplies.{MayBeServed}
use Rattle.call_steps.proofs.EntryAnswers.{answer-legal, given-view, own-view}

-- A seat that sees the whole history fits it.
pub whole-fits : (store : Store) (gate : GateView) (number : ℕ) (slot : SlotValue) (sees : SeesWhole gate slot) → IsSlotOf store number slot.file sees.seat → IsJournal store gate → IsSound gate
    → SlotFits gate sees.seat.knows
whole-fits store gate number slot sees own journal sound =
    subst (SlotFits gate) sees.whole (record {
      sees = record {
        begins = record { rest = []; is = append-nil gate.all; lacks = refl };
        decided_before = omega arith;
        decided_within = sound.decided_within;
        decided_below = sound.decided_below;
      };
      mounted = journal.mounted ∙ ap Some (sym own.mounted);
    })

-- a seat once the answer is appended
abbrev pub answered-seat : Store → GateView → Sight SlotView → (number made : ℕ) → Call → Reply → Sight SlotView
answered-seat store knows seat number made call reply = seat_after knows seat (CallEvent number made call reply Unchanged) (versions_given store knows seat.knows)

module _ {F R E : Type 0} (store : Store) (gate : GateValue F R) (knows : GateView) (closing : Option Closing) (guarded : GateInvariant store gate knows closing) (are : AreEntries gate.dir.dir.entries)
    (machine : KnowsMachine store knows gate.dir.dir.entries gate.open_handles) (low : gate.counter < 2 ^ 32) (slot : SlotValue) (own : SlotInvariant store slot) (call : Call) (reply : Reply)
    (s : CallerSession E) (may : MayBeServed store gate knows slot call reply s) where
  abbrev seat : Sight SlotView
  seat = may.at.sees.seat

  abbrev event : Event
  event = CallEvent s.number s.made call reply Unchanged

  abbrev versions : TagVersions
  versions = versions_given store knows seat.knows

  abbrev r : HistoryRecord
  r = own_record seat event versions

  mine : IsSlotOf store slot.number slot.file seat
  mine = own-view store gate knows closing guarded are machine low slot own call reply s may

  pub given-now : given_version store.mounted knows.all seat.knows.file seat.knows.generation ≡ Some may.version
  given-now = given-view store gate knows closing guarded are machine low slot own call reply s may

  abbrev the_tag : Tag Version
  the_tag = record { file = seat.knows.file; generation = seat.knows.generation; committed = versions.committed; doubted = None }

  right : HasRightTag seat.knows.mounted knows.all r
  right =
      unchanged_right seat.knows.mounted knows.all r refl
      (λ tag is. subst (NamesGiven seat.knows.mounted knows.all) (some_same the_tag tag is)
      (record { committed = ap (λ (m : Mounted). given_version m knows.all seat.knows.file seat.knows.generation) (sym mine.mounted); doubted = refl }))

  own-event : IsOwnEvent store knows slot.number slot.file seat event versions
  own-event = record {
    sound = may.at.sound;
    fits = whole-fits store knows slot.number slot may.at.sees mine guarded.journal may.at.sound;
    on_a_call = refl;
    right = right;
    real = λ v known. absurd known;
    stands = λ honest v known. absurd known;
    masked = λ v known. absurd known;
    legal = λ honest scenario off answered. answer-legal store gate knows closing guarded are machine low slot own call reply s may honest scenario off answered;
  }

  gives : own_version seat.knows ≡ calm (Some may.version)
  gives =
      ap (λ (x : Sight SlotView). own_version x.knows) (sym (seat_same may.at.gives.seat seat (sym may.at.gives.is ∙ may.at.sees.is)))
      ∙ may.at.gives.gives

  -- The slot may stand behind its lock again, with its seat as the event leaves that.
  pub answer-keeps : SlotInvariant store (record slot { seat = Some (seat_after knows seat event versions) })
  answer-keeps =
      unchanged_keep store knows slot seat event versions may.at.sees.is may.at.sees.whole own-event refl
      (given-now ∙ sym (ap (λ (p : Pending (Option Version)). p.now) gives)) own
