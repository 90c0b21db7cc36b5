-- A reply that may be appended with the slot of its object: it may be told, the session is as the machine's, and the slot may stand behind its
-- lock again.
use Rattle.std.proofs.Common.{List, None, Option, Some, ap, false, refl, subst, sym, true≢false, ℕ, ◌∙◌, ◌≡◌}
use Rattle.call_steps.proofs.CallMoves.{unchanged_move}
use Rattle.call_steps.specs.JournalCalls.{IsMovedBy}
use Rattle.call_steps.specs.CallerSessions.{CallerSession}
use Rattle.serial_calls.specs.Appending.{MayBeAppended}
use Rattle.dir_records.specs.declared.entry.DirEntry.{DirEntry}
use Rattle.core_laws.proofs.RightTags.{unchanged_right}
use Rattle.core_laws.specs.TagLaws.{NamesGiven}
use Rattle.history_seats.specs.Changes.{TagVersions, call_record}
use Rattle.history_seats.specs.Directory.{given_version}
use Rattle.history_seats.specs.Mounts.{Mounted}
use Rattle.history_seats.specs.Records.{HistoryRecord, Version}
use Rattle.history_seats.specs.Settling.{Pending, calm}
use Rattle.history_seats.specs.Tags.{HasRightTag}
use Rattle.history_seats.specs.Views.{GateView, Sight, SlotView}
use Rattle.call_steps.specs.KnownMachine.{KnowsMachine}
use Rattle.call_steps.specs.GuardedGates.{GateInvariant}
use Rattle.call_steps.specs.SlotAnswers.{MayBeTold, slot_record, versions_given}
use Rattle.call_steps.specs.ReplyLaws.{told_record}
use Rattle.call_steps.specs.declared.Closing.{Closing}
use Rattle.call_steps.proofs.Contents.{seat_same}
use Rattle.call_steps.proofs.OwnRecords.{unchanged_keep}
use Rattle.call_steps.specs.KnownFor.{own_version}
use Rattle.call_steps.specs.GuardedSlots.{SlotInvariant, IsSlotOf}
use Rattle.call_steps.specs.OwnEvents.{IsOwnEvent, own_record}
use Rattle.call_rules.specs.OpenLaws.{IsOpenedFile}
use Rattle.call_steps.proofs.AnswerMoves.{here-matches}
use Rattle.call_steps.proofs.Meetings.{own-seat}
use Rattle.call_steps.proofs.OwnAnswers.{answered-seat, whole-fits}
use Rattle.call_steps.specs.SlotValues.{SlotValue}
use Rattle.call_steps.specs.Gates.{GateValue}
use Rattle.store_model.specs.Calls.{is_handle}
use Rattle.store_model.specs.Machine.{MachineState}
use Rattle.store_model.specs.Record.{Tag}
use Rattle.store_model.specs.declared.event.Event.TheVariants.{Call as CallEvent}
use Rattle.store_model.specs.declared.event.Event.{Event}
use Rattle.store_model.specs.declared.event.Mark.TheVariants.{Unchanged}
use Rattle.core_laws.proofs.Mending.{none_some, some_same}
use Rattle.core_laws.specs.Answered.{IsFairAt, IsLegalAt}
use Rattle.core_laws.specs.Stores.{Store, replay_at}
use Rattle.tee_types.specs.declared.call.Call.TheVariants.{Open}
use Rattle.tee_types.specs.declared.call.Call.{Call}
use Rattle.tee_types.specs.declared.reply.Reply.TheVariants.{Handle as HandleReply}
use Rattle.tee_types.specs.declared.reply.Reply.{Reply}

-- a reply that gives no handle opens no file
opened_none : (entries : List (Option DirEntry)) (m : MachineState) (i file : ℕ) (call : Call) (reply : Reply) → is_handle reply ≡ false → IsOpenedFile entries m i call reply file
opened_none entries m i file (Open id flags) (HandleReply number) none = absurd (true≢false none)
opened_none entries m i file call reply none = tt

module _ {F R E : Type 0} (store : Store) (gate : GateValue F R) (knows : GateView) (closing : Option Closing) (guarded : GateInvariant store gate knows closing)
    (machine : KnowsMachine store knows gate.dir.dir.entries gate.open_handles) (slot : SlotValue) (own : SlotInvariant store slot) (call : Call) (reply : Reply) (s : CallerSession E)
    (may : MayBeAppended store gate knows slot call reply s) where
  abbrev e : DirEntry
  e = may.entry

  abbrev v : Version
  v = may.version

  abbrev seat : Sight SlotView
  seat = may.at.sees.seat

  mine : IsSlotOf store slot.number slot.file seat
  mine = own-seat store slot seat may.at.sees.is own

  file-is : seat.knows.file ≡ e.file
  file-is = mine.own ∙ may.at.file

  given : given_version store.mounted knows.all e.file e.generation ≡ Some v
  given = ap (λ (m : Mounted). given_version m knows.all e.file e.generation) (sym mine.mounted) ∙ may.at.given

  given-view : given_version store.mounted knows.all seat.knows.file seat.knows.generation ≡ Some v
  given-view = (λ i. given_version store.mounted knows.all (file-is i) (may.at.generation i)) ∙ given

  -- the record of the answer
  abbrev told : HistoryRecord
  told = told_record s.number s.made call reply e.file e.generation v

  abbrev r : HistoryRecord
  r = slot_record store knows seat.knows s.number s.made call reply

  record-is : told ≡ r
  record-is = λ i. call_record s.number s.made call reply Unchanged (Some (record {
    file = sym file-is i;
    generation = sym may.at.generation i;
    committed = sym given-view i;
    doubted = None;
  }))

  pub appended-told : MayBeTold store gate.doubt gate.dir.dir.entries knows seat.knows s.number s.made call reply
  appended-told = record {
    calm = may.idle;
    fault = λ n at. absurd (none_some n (sym may.no_file ∙ at));
    fair = λ scenario. subst (IsFairAt store scenario knows.all) record-is (may.fair scenario);
    opened = λ scenario answered. opened_none gate.dir.dir.entries (replay_at store scenario knows.all).state s.number seat.knows.file call reply may.no_handle;
  }

  pub appended-moves : IsMovedBy store knows r s
  appended-moves =
      unchanged_move E store knows r call reply s may.calm.within refl (λ doubt is. absurd (none_some doubt (sym may.calm.settled ∙ is))) (record {
        before = s.state;
        was = may.calm.caller;
        sees = may.calm.sees;
        application = refl;
        moves = λ scenario answered.
            may.stays (replay_at store scenario knows.all).state
            (here-matches E store knows gate.dir.dir.entries gate.open_handles machine s may.calm.caller may.calm.sees scenario answered)
            (machine scenario answered).opened;
      })

  abbrev event : Event
  event = CallEvent s.number s.made call reply Unchanged

  abbrev versions : TagVersions
  versions = versions_given store knows seat.knows

  abbrev the_tag : Tag Version
  the_tag = record { file = seat.knows.file; generation = seat.knows.generation; committed = versions.committed; doubted = None }

  right : HasRightTag seat.knows.mounted knows.all (own_record seat event versions)
  right =
      unchanged_right seat.knows.mounted knows.all (own_record seat event versions) refl
      (λ tag is. subst (NamesGiven seat.knows.mounted knows.all) (some_same the_tag tag is)
      (record { committed = ap (λ (m : Mounted). given_version m knows.all seat.knows.file seat.knows.generation) (sym mine.mounted); doubted = refl }))

  own-event : IsOwnEvent store knows slot.number slot.file seat event versions
  own-event = record {
    sound = may.at.sound;
    fits = whole-fits store knows slot.number slot may.at.sees mine guarded.journal may.at.sound;
    on_a_call = refl;
    right = right;
    real = λ w known. absurd known;
    stands = λ honest w known. absurd known;
    masked = λ w known. absurd known;
    legal = λ honest scenario off answered. subst (IsLegalAt store scenario knows.all) record-is (may.legal honest scenario off answered);
  }

  gives : own_version seat.knows ≡ calm (Some v)
  gives =
      ap (λ (x : Sight SlotView). own_version x.knows) (sym (seat_same may.at.gives.seat seat (sym may.at.gives.is ∙ may.at.sees.is)))
      ∙ may.at.gives.gives

  -- with its seat as the event leaves that
  pub appended-keeps : SlotInvariant store (record slot { seat = Some (answered-seat store knows seat s.number s.made call reply) })
  appended-keeps =
      unchanged_keep store knows slot seat event versions may.at.sees.is may.at.sees.whole own-event refl
      (given-view ∙ sym (ap (λ (p : Pending (Option Version)). p.now) gives)) own
