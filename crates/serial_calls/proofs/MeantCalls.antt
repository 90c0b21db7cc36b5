-- A call that the machine answers whatever the object's bytes are: its reply may be appended with the slot of the object.
use Rattle.std.proofs.Common.{Bool, None, Option, Some, ap, false, inl, refl, subst, sym, true, true≢false, ℕ, ◌<◌, ◌^◌, ◌∙◌, ◌≡◌}
use Rattle.call_steps.specs.CallerSessions.{CallerSession}
use Rattle.call_rules.specs.Matches.{Matches}
use Rattle.serial_calls.proofs.Replies.{done_done, done_no_file, done_no_handle}
use Rattle.serial_calls.specs.Appending.{MayBeAppended}
use Rattle.serial_calls.specs.Meant.{IsMeantAnyhow, IsMeantCall}
use Rattle.serial_calls.specs.ChangeReplies.{IsDoneOrRefused}
use Rattle.core_laws.specs.Listed.{history_entry}
use Rattle.crash_core.specs.DirectoryLaws.{AreEntries}
use Rattle.crash_core.specs.Entries.{name_of}
use Rattle.crash_core.specs.EntryLists.{entry_at}
use Rattle.dir_records.specs.declared.entry.DirEntry.{DirEntry}
use Rattle.core_laws.proofs.Told.{tied_tell}
use Rattle.core_laws.specs.EntryFacts.{IsEntryFact}
use Rattle.history_seats.specs.Directory.{given_version}
use Rattle.history_seats.specs.Records.{Version}
use Rattle.history_seats.specs.Views.{GateView}
use Rattle.call_steps.specs.Commits.{IsCalm}
use Rattle.call_steps.specs.KnownMachine.{KnowsMachine}
use Rattle.call_steps.specs.GuardedGates.{GateInvariant}
use Rattle.call_steps.specs.ReplyLaws.{told_record}
use Rattle.call_steps.specs.declared.Closing.{Closing}
use Rattle.call_steps.proofs.AnswerMoves.{here-matches}
use Rattle.call_steps.specs.SlotCatchUp.{IsAtEntry}
use Rattle.call_steps.specs.SlotValues.{SlotValue}
use Rattle.call_steps.specs.Gates.{GateValue}
use Rattle.store_model.specs.Calls.{is_commit, is_handle, state_after}
use Rattle.store_model.specs.Files.{makes_object}
use Rattle.store_model.specs.Legal.{Answered, IsTagged, counter_after, is_commit_due, mark_of}
use Rattle.store_model.specs.Machine.{MachineState, session_at}
use Rattle.store_model.specs.ReplayState.{ReplayState, is_undone, state_unless_undone}
use Rattle.store_model.specs.declared.event.Mark.TheVariants.{Unchanged}
use Rattle.core_laws.proofs.CallSessions.{entries_tag}
use Rattle.core_laws.proofs.Mending.{none_some}
use Rattle.core_laws.specs.Answered.{AreAnswered, IsLegalAt}
use Rattle.core_laws.specs.TamperScenarios.{TamperScenario}
use Rattle.core_laws.specs.Mapped.{IsMapped}
use Rattle.core_laws.specs.Stores.{Store, entries_at, replay_at}
use Rattle.tee_types.specs.declared.call.Call.TheVariants.{Create}
use Rattle.tee_types.specs.declared.call.Call.{Call}
use Rattle.tee_types.specs.declared.reply.Reply.{Reply}

-- a reply that gives no handle makes no object
makes_none : (call : Call) (reply : Reply) → is_handle reply ≡ false → makes_object call reply ≡ false
makes_none (Create id flags attributes bytes) reply none = none
makes_none call reply none = refl

-- the state behind a call that was done
after_done : (m : MachineState) (i : ℕ) (call : Call) (reply : Reply) (b : Bool) → is_undone reply ≡ b → b ≡ false → state_unless_undone m i call reply ≡ state_after m i call
after_done m i call reply b is off = ap (λ (x : Bool). elim x as (λ _. MachineState) [ true ↦ m | false ↦ state_after m i call ]) (is ∙ off)

module _ {F R E : Type 0} (store : Store) (gate : GateValue F R) (knows : GateView) (closing : Option Closing) (guarded : GateInvariant store gate knows closing) (are : AreEntries gate.dir.dir.entries)
    (machine : KnowsMachine store knows gate.dir.dir.entries gate.open_handles) (low : gate.counter < 2 ^ 32) (s : CallerSession E) (calmly : IsCalm store knows s) (index : ℕ) (e : DirEntry)
    (held : entry_at gate.dir.dir.entries index ≡ Some e) (v : Version) (call : Call) (reply : Reply) (kind : IsDoneOrRefused reply) (meant : IsMeantAnyhow gate s e call reply) where
  module _ (scenario : TamperScenario) (answered : AreAnswered store scenario knows.all) where
    abbrev here : ReplayState
    here = replay_at store scenario knows.all

    matches : Matches gate.dir.dir.entries gate.open_handles s.state here.state s.number
    matches = here-matches E store knows gate.dir.dir.entries gate.open_handles machine s calmly.caller calmly.sees scenario answered

    is : IsMeantCall here.state s.number e call reply
    is = meant here.state matches (machine scenario answered).opened

    mapped : IsMapped store scenario knows.all
    mapped = (guarded.journal.in_step scenario answered).now

    fact : IsEntryFact store.keys scenario (given_version store.mounted knows.all) (entries_at store knows.all).now here e
    fact = (tied_tell store scenario knows gate.dir.dir.entries gate.counter gate.doubt guarded.tied are answered mapped).facts.each index e held

    tagged : IsTagged here s.number call reply Unchanged (Some e.file)
    tagged =
        entries_tag store scenario knows.all s.number call reply Unchanged (name_of e) (history_entry e) mapped is.named fact.named
        (ap (makes_object call) is.replied ∙ makes_none call reply (done_no_handle reply kind))
        (λ n at. absurd (none_some n (sym (done_no_file reply kind) ∙ at)))

    quiet : is_commit_due here s.number call ≡ false
    quiet = ap (is_commit here.state s.number call) is.replied ∙ is.quiet

    pub meant-legal : IsLegalAt store scenario knows.all (told_record s.number s.made call reply e.file e.generation v)
    meant-legal = record {
      legal = record {
        declared = matches.within;
        tagged = tagged;
        answer = Answered (record {
          replied = sym is.replied;
          marked = ap (mark_of here.counter) (sym quiet);
          counted = subst (λ (b : Bool). counter_after here.counter b < 2 ^ 32) (sym quiet) (subst (λ (n : ℕ). n < 2 ^ 32) (sym (guarded.tied.counter scenario answered)) low);
        });
      };
      kept = λ commits_ mapped_. absurd (true≢false (sym commits_));
    }

  pub meant-stays : (m : MachineState) → Matches gate.dir.dir.entries gate.open_handles s.state m s.number → IsMeantCall m s.number e call reply
      → session_at (state_unless_undone m s.number call reply) s.number ≡ s.state
  meant-stays m matches is =
      ap (λ (x : MachineState). session_at x s.number) (after_done m s.number call reply (is_undone reply) refl (done_done reply kind))
      ∙ is.stays
      ∙ matches.session

  pub meant-appended : gate.doubt ≡ None → (slot : SlotValue) → IsAtEntry knows slot e v → MayBeAppended store gate knows slot call reply s
  meant-appended idle slot at = record {
    idle = idle;
    calm = calmly;
    index = index;
    entry = e;
    held = held;
    version = v;
    at = at;
    no_handle = done_no_handle reply kind;
    no_file = done_no_file reply kind;
    stays = λ m matches opened. meant-stays m matches (meant m matches opened);
    fair = λ scenario answered owed. inl (inl (meant-legal scenario answered));
    legal = λ honest scenario off answered. meant-legal scenario answered;
  }
