-- The ends of a commit that was brought with its slot, on the slot's side.
use Rattle.std.proofs.Common.{Bool, List, None, Option, Some, [], ap, cond, drop, false, length, refl, subst, sym, true, ℕ, ◌++◌, ◌+◌, ◌<◌, ◌==◌, ◌^◌, ◌∙◌, ◌∷◌, ◌≡◌}
use Rattle.std.proofs.lemmas.Bool.{cond-true, eq-eqb}
use Rattle.commit_gate.specs.Journals.{IsJournal}
use Rattle.core_laws.specs.Listed.{IsTagOfChange}
use Rattle.core_laws.specs.SlotLaws.{IsNewlyKnown}
use Rattle.crash_core.specs.declared.change.EntryChange.{EntryChange}
use Rattle.crash_core.specs.declared.change.EntryChange.TheVariants.{Clear, Put}
use Rattle.dir_records.specs.declared.entry.DirEntry.{DirEntry}
use Rattle.disk_model.specs.State.{FileState}
use Rattle.core_laws.proofs.CommitTags.{commit_tagged}
use Rattle.core_laws.proofs.LegalCommits.{commits_legal}
use Rattle.core_laws.proofs.LegalEvents.{unmade_legal}
use Rattle.core_laws.proofs.RightTags.{commits_right}
use Rattle.core_laws.specs.CallChanges.{IsEntryCommit}
use Rattle.core_laws.specs.CommitMaps.{IsCommitUnder, LeavesObject}
use Rattle.core_laws.specs.EventAnswers.{IsUnmade}
use Rattle.core_laws.specs.Ties.{IsTied}
use Rattle.history_seats.proofs.Givens.{version-snoc}
use Rattle.history_seats.proofs.Lists.{both_true}
use Rattle.history_seats.proofs.Places.{any_settles, open-snoc}
use Rattle.history_seats.specs.Changes.{TagVersions, slot_renewed}
use Rattle.history_seats.specs.Mounts.{Mounted}
use Rattle.history_seats.specs.Numbers.{is_in}
use Rattle.history_seats.specs.Records.{HistoryRecord, Version, concerns_object}
use Rattle.history_seats.specs.Settling.{Pending, calm, dropped, open_from, settled_by}
use Rattle.history_seats.specs.Tags.{HasRightTag}
use Rattle.history_seats.specs.Versions.{version_of}
use Rattle.history_seats.specs.Views.{GateView, Sight, SlotView}
use Rattle.commit_gate.proofs.ReadyCommits.{unmade_tag}
use Rattle.commit_gate.specs.Commits.{IsDueUnder, IsReadyCommit, file_record, made_versions, tag_of, unmade_versions}
use Rattle.commit_gate.specs.GateEnds.{IsCommitEnd, end_event, mark_told, reply_told, versions_told}
use Rattle.object_slots.proofs.OwnRecords.{doubtful_keep, made_keep, own_after}
use Rattle.object_slots.specs.KnownFor.{own_version}
use Rattle.object_slots.specs.GuardedSlots.{IsContentOf, SlotInvariant, IsSlotOf}
use Rattle.object_slots.specs.OwnEvents.{IsOwnEvent, own_record, seat_after}
use Rattle.call_steps.specs.StageEndLaws.{CommitsEndSlots, EndedSlotsAreGuarded}
use Rattle.call_steps.specs.StageEnds.{slot_behind}
use Rattle.object_slots.specs.SlotValues.{SlotValue, with_stage, without_stage}
use Rattle.commit_gate.specs.declared.CommitEnd.{CommitEnd}
use Rattle.commit_gate.specs.declared.CommitEnd.TheVariants.{Doubtful as DoubtfulEnd, Dropped, Made as MadeEnd, Spent}
use Rattle.commit_gate.specs.declared.DoubtedChange.{DoubtedChange}
use Rattle.store_model.specs.Record.{Tag, fault_in_reply}
use Rattle.store_model.specs.declared.event.Event.TheVariants.{Call as CallEvent}
use Rattle.store_model.specs.declared.event.Mark.TheVariants.{Doubtful, Made, Unchanged}
use Rattle.core_laws.proofs.Mending.{none_some, some_same}
use Rattle.core_laws.specs.Answered.{AreAnswered, IsLegalAt}
use Rattle.core_laws.specs.TamperScenarios.{TamperScenario}
use Rattle.core_laws.specs.Stores.{Store, replay_at}
use Rattle.tee_types.specs.declared.call.Call.{Call}
use Rattle.tee_types.specs.declared.call.Call.TheVariants.{Create, Rename, Truncate, Write}
use Rattle.tee_types.specs.declared.reply.Reply.{Reply}
use Rattle.tee_types.specs.declared.reply.Reply.TheVariants.{CounterSpent, NotAvailable}

-- the tag of a commit that was made is of the same object
retagged : (entries : List (Option DirEntry)) (change : EntryChange) (slot : SlotView) (a b : TagVersions) → IsTagOfChange entries change (tag_of slot a) → IsTagOfChange entries change (tag_of slot b)
retagged entries (Put index e) slot a b is = record { file = is.file; generation = is.generation }
retagged entries (Clear index) slot a b is = λ e at_. record { file = (is e at_).file; generation = (is e at_).generation }

left_same : (store : Store) (scenario : TamperScenario) (before : List HistoryRecord) (session : ℕ) (call : Call) (change : EntryChange) (slot : SlotView) (a b : TagVersions) (left : Option Version)
    → LeavesObject store scenario before session call change (tag_of slot a) left → LeavesObject store scenario before session call change (tag_of slot b) left
left_same store scenario before session (Create id flags attributes bytes) (Put index e) slot a b left is = is
left_same store scenario before session (Write handle bytes) (Put index e) slot a b left is = is
left_same store scenario before session (Truncate handle size) (Put index e) slot a b left is = is
left_same store scenario before session (Rename handle id) change slot a b left is = is
left_same store scenario before session call change slot a b left is = tt

-- Under a tamper scenario by which the machine commits the call, each end is legal.
module _ (store : Store) (knows : GateView) (entries : List (Option DirEntry)) (counter session number : ℕ) (call : Call) (reply : Reply) (change : EntryChange) (slot : SlotView) (versions : TagVersions)
    (kept : IsJournal store knows) (tied : IsTied store knows entries counter None) (known : session < length store.mounted.applications)
    (ready : IsReadyCommit store knows entries counter session number call reply change slot versions) where
  abbrev named : Tag Version
  named = tag_of slot (made_versions versions)

  made_commit : IsEntryCommit store entries counter session call change named versions.doubted
  made_commit = record {
    makes = ready.commit.makes;
    place = ready.commit.place;
    tagged = retagged entries change slot versions (made_versions versions) ready.commit.tagged;
    leaves = ready.commit.leaves;
    before = ready.commit.before;
    after = ready.commit.after;
  }

  module _ (scenario : TamperScenario) (answered : AreAnswered store scenario knows.all) (due : IsDueUnder store scenario knows.all session call reply change (tag_of slot versions)) where
    committable_under : IsCommitUnder store scenario knows entries counter session call change (tag_of slot versions) versions.doubted
    committable_under = record {
      answered = answered;
      mapped = (kept.in_step scenario answered).now;
      commit = ready.commit;
      due = due.due;
      on = ready.on scenario answered;
      object = due.object;
    }

    made_under : IsCommitUnder store scenario knows entries counter session call change named versions.doubted
    made_under = record {
      answered = answered;
      mapped = (kept.in_step scenario answered).now;
      commit = made_commit;
      due = due.due;
      on = ready.on scenario answered;
      object = left_same store scenario knows.all session call change slot versions (made_versions versions) versions.doubted due.object;
    }

    unmade_end : (told : Reply) → IsUnmade (replay_at store scenario knows.all).counter told → fault_in_reply told ≡ None
        → IsLegalAt store scenario knows.all (file_record session number call told Unchanged slot (unmade_versions versions))
    unmade_end told unmade none =
        unmade_legal store scenario knows.all session number call told (Some (tag_of slot (unmade_versions versions))) known due.due unmade
        (commit_tagged store scenario knows entries counter None tied session (tag_of slot versions) told Unchanged none call change versions.doubted committable_under)

    next_number : (n : ℕ) → n ≡ counter + 1 → n < 2 ^ 32 → counter + 1 < 2 ^ 32
    next_number n is low = subst (λ (k : ℕ). k < 2 ^ 32) is low

    pub end_legal : (end : CommitEnd) → IsCommitEnd counter end
        → IsLegalAt store scenario knows.all (file_record session number call (reply_told end reply) (mark_told end) slot (versions_told end versions))
    end_legal (MadeEnd n) at_end =
        subst (λ (k : ℕ). IsLegalAt store scenario knows.all (file_record session number call reply (Made k) slot (made_versions versions))) (sym at_end.0)
        ((commits_legal store scenario knows entries counter None tied session number call change named known (next_number n at_end.0 at_end.1)).made made_under refl reply due.replied)
    end_legal (DoubtfulEnd n cause) at_end =
        subst (λ (k : ℕ). IsLegalAt store scenario knows.all (file_record session number call (NotAvailable cause) (Doubtful k) slot versions)) (sym at_end.0)
        ((commits_legal store scenario knows entries counter None tied session number call change (tag_of slot versions) known (next_number n at_end.0 at_end.1)).doubtful committable_under ready.given cause at_end.2)
    end_legal (Dropped cause) none = unmade_end (NotAvailable cause) tt none
    end_legal Spent last = unmade_end (CounterSpent 4294967295) (refl, tied.counter scenario answered ∙ last) refl

  pub end_right : (end : CommitEnd) → HasRightTag store.mounted knows.all (file_record session number call (reply_told end reply) (mark_told end) slot (versions_told end versions))
  end_right (MadeEnd n) = (commits_right store knows entries counter None session number call reply n named change tied).made made_commit refl
  end_right (DoubtfulEnd n cause) =
      (commits_right store knows entries counter None session number call (NotAvailable cause) n (tag_of slot versions) change tied).doubtful ready.commit ready.given
  end_right (Dropped cause) = unmade_tag store knows session number call (NotAvailable cause) slot versions ready.given
  end_right Spent = unmade_tag store knows session number call (CounterSpent 4294967295) slot versions ready.given

-- the version that an end makes known is the one that the commit leaves
newly_left : (session number : ℕ) (call : Call) (reply : Reply) (versions : TagVersions) (end : CommitEnd) (v : Version)
    → IsNewlyKnown (end_event end session number call reply) (versions_told end versions) v → versions.doubted ≡ Some v
newly_left session number call reply versions (MadeEnd n) v known = known
newly_left session number call reply versions (DoubtfulEnd n cause) v known = known
newly_left session number call reply versions (Dropped cause) v known = absurd known
newly_left session number call reply versions Spent v known = absurd known

pub commits_end : (F R E : Type 0) → CommitsEndSlots F R E
commits_end F R E store gate knows closing caller call reply change slot seat versions end guarded idle calm commit committable sees at_end =
    let tied : IsTied store knows gate.dir.dir.entries gate.counter None =
    subst (λ (d : Option DoubtedChange). IsTied store knows gate.dir.dir.entries gate.counter d) idle guarded.tied in
    let own : IsSlotOf store slot.number slot.file seat = own_seat store slot seat committable.before in
    record {
      knows = knows;
      was = seat;
      session = caller.number;
      number = caller.made;
      call = call;
      reply = reply;
      versions = versions;
      committable = committable;
      whole = sees.whole;
      event = record {
        sound = sees.sound;
        fits = sees.fits;
        on_a_call = refl;
        right =
            subst (λ (m : Mounted). HasRightTag m knows.all (file_record caller.number caller.made call (reply_told end reply) (mark_told end) seat.knows (versions_told end versions))) (sym own.mounted)
            (end_right store knows gate.dir.dir.entries gate.counter caller.number caller.made call reply change seat.knows versions guarded.journal tied calm.caller.session.known commit.ready end);
        real = λ v known. committable.real v (newly_left caller.number caller.made call reply versions end v known);
        stands = λ honest v known. committable.stands honest v (newly_left caller.number caller.made call reply versions end v known);
        masked = λ v known. committable.masked v (newly_left caller.number caller.made call reply versions end v known);
        legal = λ honest scenario off answered.
            end_legal store knows gate.dir.dir.entries gate.counter caller.number caller.made call reply change seat.knows versions guarded.journal tied calm.caller.session.known commit.ready scenario answered
            (commit.honest honest scenario answered (ap (λ (n : ℕ). is_in n scenario.tampered) own.own ∙ off)) end at_end;
      };
      sees = refl;
      at = refl;
    }
  where
    own_seat : (store : Store) (slot : SlotValue) (seat : Sight SlotView) → SlotInvariant store (record slot { seat = Some seat; holds = without_stage slot.holds }) → IsSlotOf store slot.number slot.file seat
    own_seat store slot seat is = subst (IsSlotOf store slot.number slot.file) (sym (some_same seat is.seat is.is)) is.own

-- Behind an event that changes nothing, whose tag names a version, the view gives that, where no doubt touched what it gave before.
module _ (store : Store) (knows : GateView) (number : ℕ) (file : FileState) (seat : Sight SlotView) (session count : ℕ) (call : Call) (told : Reply) (versions : TagVersions)
    (own : IsOwnEvent store knows number file seat (CallEvent session count call told Unchanged) versions) (whole : slot_renewed knows seat.knows ≡ seat.knows) where
  abbrev view : SlotView
  view = seat.knows

  abbrev r : HistoryRecord
  r = own_record seat (CallEvent session count call told Unchanged) versions

  abbrev stood : Pending (Option Version)
  stood = version_of view.file view.generation view.mounted knows.all

  abbrev now : Pending (Option Version)
  now = record { now = versions.committed; if_landed = stood.if_landed }

  version_now : version_of view.file view.generation view.mounted (knows.all ++ r ∷ []) ≡ now
  version_now =
      version-snoc view.file view.generation view.mounted knows.all r
      ∙ cond-true (concerns_object view.file view.generation r) now (settled_by r.event stood)
      (both_true (view.file == view.file) (view.generation == view.generation) (eq-eqb view.file view.file refl) (eq-eqb view.generation view.generation refl))

  calmed : (b : Bool) (p : Pending (Option Version)) (was : Option Version) → cond b p (dropped p) ≡ calm was
      → cond b (record { now = versions.committed; if_landed = p.if_landed }) (calm versions.committed) ≡ calm versions.committed
  calmed true p was is = ap (λ (q : Pending (Option Version)). record { now = versions.committed; if_landed = q.if_landed }) is
  calmed false p was is = refl

  pub unmade_gives : (was : Option Version) → own_version view ≡ calm was → own_version (seat_after knows seat (CallEvent session count call told Unchanged) versions).knows ≡ calm versions.committed
  unmade_gives was gives =
      ap (open_from knows.decided (knows.all ++ r ∷ [])) version_now
      ∙ open-snoc knows.decided knows.all r now refl own.sound.decided_within
      ∙ calmed (any_settles (drop knows.decided knows.all)) stood was (ap own_version whole ∙ gives)

pub ended_guarded : EndedSlotsAreGuarded
ended_guarded store slot seat end place ended =
    subst (λ (x : Sight SlotView × ℕ). SlotInvariant store (slot_behind slot x.0 end x.1)) (λ i. (sym ended.sees i, sym ended.at i)) (by_end end ended.event)
  where
    own : IsSlotOf store slot.number slot.file ended.was
    own = subst (IsSlotOf store slot.number slot.file) (sym (some_same ended.was ended.committable.before.seat ended.committable.before.is)) ended.committable.before.own

    -- no doubt touches what its view gives
    calm_content : (was_there : Sight SlotView) (doubt : Option ℕ) → doubt ≡ None → ended.was ≡ was_there → IsContentOf store.keys slot.file was_there.knows (without_stage slot.holds) doubt
        → (version : Option Version) × (own_version ended.was.knows ≡ calm version)
    calm_content there (Some place) none same content = absurd (none_some place (sym none))
    calm_content there None none same content = (content.version, ap (λ (s : Sight SlotView). own_version s.knows) same ∙ content.gives)

    unchanged : (told : Reply)
        → IsOwnEvent store ended.knows slot.number slot.file ended.was (CallEvent ended.session ended.number ended.call told Unchanged) (unmade_versions ended.versions)
        → SlotInvariant store (record slot {
          seat = Some (seat_after ended.knows ended.was (CallEvent ended.session ended.number ended.call told Unchanged) (unmade_versions ended.versions));
          holds = without_stage slot.holds;
          doubt = None;
        })
    unchanged told event =
        let calm_was = calm_content ended.committable.before.seat slot.doubt ended.committable.settled (some_same ended.was ended.committable.before.seat ended.committable.before.is) ended.committable.before.content in
        record {
          seat = seat_after ended.knows ended.was (CallEvent ended.session ended.number ended.call told Unchanged) (unmade_versions ended.versions);
          is = refl;
          own = own_after store ended.knows slot.number slot.file ended.was (CallEvent ended.session ended.number ended.call told Unchanged) (unmade_versions ended.versions) event own;
          content = record {
            version = ended.versions.committed;
            gives = unmade_gives store ended.knows slot.number slot.file ended.was ended.session ended.number ended.call told (unmade_versions ended.versions) event ended.whole calm_was.0 calm_was.1;
            holding = ended.committable.held;
          };
        }

    by_end : (e : CommitEnd)
        → IsOwnEvent store ended.knows slot.number slot.file ended.was (end_event e ended.session ended.number ended.call ended.reply) (versions_told e ended.versions)
        → SlotInvariant store (slot_behind slot (seat_after ended.knows ended.was (end_event e ended.session ended.number ended.call ended.reply) (versions_told e ended.versions)) e (length (ended.knows).all))
    by_end (MadeEnd n) event =
        made_keep store ended.knows slot ended.was (CallEvent ended.session ended.number ended.call ended.reply (Made n)) (made_versions ended.versions) n (with_stage slot.holds) own event refl ended.committable.after
    by_end (DoubtfulEnd n cause) event =
        doubtful_keep store ended.knows slot ended.was (CallEvent ended.session ended.number ended.call (NotAvailable cause) (Doubtful n)) ended.versions n own event refl
        ended.committable.held ended.committable.after
    by_end (Dropped cause) event = unchanged (NotAvailable cause) event
    by_end Spent event = unchanged (CounterSpent 4294967295) event
