-- A create whose object is not made is legal, and leaves its session.
use Rattle.std.proofs.Common.{List, None, Option, Some, inl, refl, subst, sym, true, true≢false, ℕ, ◌≡◌}
use Rattle.call_steps.specs.JournalCalls.{IsMovedBy}
use Rattle.call_steps.specs.CallerSessions.{CallerSession}
use Rattle.serial_calls.specs.Rules.{IsCreate, MakesByRule}
use Rattle.serial_calls.specs.CreateFailure.{MayTell, reply_unmade}
use Rattle.serial_calls.specs.declared.create_failure.CreateFailure.{CreateFailure}
use Rattle.serial_calls.specs.declared.create_failure.CreateFailure.TheVariants.{Failed, Spent}
use Rattle.crash_core.specs.DirectoryLaws.{AreEntries}
use Rattle.crash_core.specs.EntryLists.{IsUnnamed}
use Rattle.dir_records.specs.declared.entry.DirEntry.{DirEntry}
use Rattle.core_laws.proofs.LegalEvents.{unmade_legal}
use Rattle.core_laws.proofs.Told.{tied_tell}
use Rattle.core_laws.specs.EventAnswers.{IsUnmade}
use Rattle.core_laws.specs.OwnEntries.{AreTold}
use Rattle.core_laws.specs.Ties.{IsTied}
use Rattle.history_seats.specs.Records.{Version}
use Rattle.history_seats.specs.Views.{GateView, SlotView}
use Rattle.call_steps.proofs.Knowing.{guarded_know, shown_stand}
use Rattle.call_steps.proofs.ReadyCommits.{unmade_moves}
use Rattle.call_steps.specs.Commits.{IsCalm}
use Rattle.call_steps.specs.GuardedGates.{GateInvariant}
use Rattle.call_steps.specs.SlotAnswers.{MayBeTold, slot_record, versions_given}
use Rattle.call_steps.specs.declared.Closing.{Closing}
use Rattle.call_rules.specs.OpenLaws.{IsOpenedFile}
use Rattle.open_table.specs.Table.{TableState}
use Rattle.call_steps.specs.Gates.{GateValue}
use Rattle.open_table.specs.HandleChanges.{NotesReply}
use Rattle.call_steps.specs.declared.DoubtedChange.{DoubtedChange}
use Rattle.store_model.specs.Calls.{is_commit}
use Rattle.store_model.specs.Files.{makes_object}
use Rattle.store_model.specs.Legal.{meant_by}
use Rattle.store_model.specs.Machine.{MachineState}
use Rattle.store_model.specs.Record.{Tag, fault_in_reply}
use Rattle.store_model.specs.ReplayState.{ReplayState, is_undone}
use Rattle.store_model.specs.declared.event.Mark.TheVariants.{Unchanged}
use Rattle.core_laws.proofs.CallSessions.{free_tag}
use Rattle.core_laws.proofs.Mending.{none_some}
use Rattle.core_laws.specs.Answered.{AreAnswered, IsLegalAt}
use Rattle.core_laws.specs.TamperScenarios.{TamperScenario}
use Rattle.core_laws.specs.Stores.{Store, replay_at}
use Rattle.tee_types.specs.declared.call.Call.{Call}
use Rattle.tee_types.specs.declared.call.Call.TheVariants.{Create}
use Rattle.tee_types.specs.declared.reply.Reply.{Reply}

-- a create that makes an object is a commit
made_due : (s : MachineState) (i : ℕ) (call : Call) (reply : Reply) → makes_object call reply ≡ true → is_commit s i call reply ≡ true
made_due s i (Create id flags attributes bytes) reply makes = makes
made_due s i call reply makes = absurd (true≢false (sym makes))

opened_none : (entries : List (Option DirEntry)) (s : MachineState) (i file : ℕ) (call : Call) (reply : Reply) → IsCreate call → IsOpenedFile entries s i call reply file
opened_none entries s i file (Create id flags attributes bytes) reply create = tt
opened_none entries s i file call reply create = absurd create

-- what is told adds no handle
pub noted_none : (old new : TableState) (file session : ℕ) (call : Call) (why : CreateFailure) → IsCreate call → NotesReply old new file session call (reply_unmade why) → new.records ≡ old.records
noted_none old new file session (Create id flags attributes bytes) (Failed cause) create notes = notes
noted_none old new file session (Create id flags attributes bytes) Spent create notes = notes
noted_none old new file session call why create notes = absurd create

told_undone : (why : CreateFailure) → is_undone (reply_unmade why) ≡ true
told_undone (Failed cause) = refl
told_undone Spent = refl

told_unmade : (counter file : ℕ) (why : CreateFailure) → MayTell counter file why → IsUnmade counter (reply_unmade why)
told_unmade counter file (Failed cause) may = tt
told_unmade counter file Spent may = (refl, may)

told_accuses : (counter file : ℕ) (why : CreateFailure) → MayTell counter file why → (n : ℕ) → fault_in_reply (reply_unmade why) ≡ Some n → n ≡ file
told_accuses counter file (Failed cause) may n is = may n is
told_accuses counter file Spent may n is = absurd (none_some n is)

module _ {F R E : Type 0} (store : Store) (gate : GateValue F R) (knows : GateView) (closing : Option Closing) (guarded : GateInvariant store gate knows closing) (idle : gate.doubt ≡ None)
    (are : AreEntries gate.dir.dir.entries) (caller : CallerSession E) (calm : IsCalm store knows caller) (call : Call) (create : IsCreate call)
    (makes : MakesByRule gate.dir.dir.entries gate.open_handles caller.state call) (slot : SlotView) (unnamed : IsUnnamed gate.dir.dir.entries slot.file) (why : CreateFailure) (may : MayTell gate.counter slot.file why) where
  abbrev entries : List (Option DirEntry)
  entries = gate.dir.dir.entries

  tied : IsTied store knows entries gate.counter None
  tied = subst (λ (d : Option DoubtedChange). IsTied store knows entries gate.counter d) idle guarded.tied

  -- the tag of its record names the file
  abbrev named : Tag Version
  named = record { file = slot.file; generation = slot.generation; committed = (versions_given store knows slot).committed; doubted = None }

  module _ (scenario : TamperScenario) (answered : AreAnswered store scenario knows.all) where
    abbrev here : ReplayState
    here = replay_at store scenario knows.all

    meant : makes_object call (meant_by here caller.number call) ≡ true
    meant =
        let machine = guarded_know F R store gate knows closing guarded are.distinct scenario answered in
        let session = shown_stand E store knows caller calm.caller calm.sees scenario answered in
        makes here.state caller.number (record { shaped = machine.shaped; handles = machine.handles; within = session.within; session = session.is })

    told : AreTold store scenario knows entries
    told = tied_tell store scenario knows entries gate.counter None tied are answered (guarded.journal.in_step scenario answered).now

    pub told_legal : IsLegalAt store scenario knows.all (slot_record store knows slot caller.number caller.made call (reply_unmade why))
    told_legal =
        unmade_legal store scenario knows.all caller.number caller.made call (reply_unmade why) (Some named) calm.caller.session.known
        (made_due here.state caller.number call (meant_by here caller.number call) meant)
        (subst (λ (n : ℕ). IsUnmade n (reply_unmade why)) (sym (tied.counter scenario answered)) (told_unmade gate.counter slot.file why may))
        (free_tag store scenario knows.all caller.number call (reply_unmade why) Unchanged slot.file told.mapped (told.lacked.file slot.file unnamed) meant (told_accuses gate.counter slot.file why may))

  pub told_may : MayBeTold store gate.doubt entries knows slot caller.number caller.made call (reply_unmade why)
  told_may = record {
    calm = idle;
    fault = told_accuses gate.counter slot.file why may;
    fair = λ scenario answered owed. inl (inl (told_legal scenario answered));
    opened = λ scenario answered. opened_none entries (replay_at store scenario knows.all).state caller.number slot.file call (reply_unmade why) create;
  }

  pub told_moves : IsMovedBy store knows (slot_record store knows slot caller.number caller.made call (reply_unmade why)) caller
  told_moves = unmade_moves store knows caller calm call (reply_unmade why) slot (versions_given store knows slot) (told_undone why)
