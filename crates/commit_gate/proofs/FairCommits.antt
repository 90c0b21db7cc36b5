-- Under each tamper scenario the records of a ready commit's ends are fair.
use Rattle.std.proofs.Common.{◌≡◌, ◌<◌, ℕ, List, Option, Some, None, length, inl, inr, refl, sym, subst, true}
use Rattle.tee_types.specs.declared.call.Call.{Call}
use Rattle.tee_types.specs.declared.reply.Reply.{Reply}
use Rattle.tee_types.specs.declared.reply.Reply.TheVariants.{CounterSpent, NotAvailable}
use Rattle.store_model.specs.declared.event.Mark.TheVariants.{Unchanged}
use Rattle.store_model.specs.Record.{fault_in_reply}
use Rattle.store_model.specs.ReplayState.{is_undone}
use Rattle.dir_records.specs.declared.entry.DirEntry.{DirEntry}
use Rattle.history_seats.specs.Changes.{TagVersions}
use Rattle.history_seats.specs.Views.{GateView, SlotView}
use Rattle.crash_core.specs.declared.change.EntryChange.{EntryChange}
use Rattle.core_laws.specs.TamperScenarios.{TamperScenario}
use Rattle.core_laws.specs.Stores.{Store, replay_at}
use Rattle.core_laws.specs.Answered.{AreAnswered, IsFairAt}
use Rattle.commit_gate.specs.Journals.{IsJournal}
use Rattle.core_laws.specs.Ties.{IsTied}
use Rattle.core_laws.specs.CommitMaps.{IsCommitUnder}
use Rattle.core_laws.specs.EventAnswers.{IsUnmade}
use Rattle.core_laws.proofs.CommitTags.{commit_tagged}
use Rattle.core_laws.proofs.LegalEvents.{unmade_legal}
use Rattle.commit_gate.specs.Commits.{IsDueUnder, IsReadyCommit, file_record, tag_of, unmade_versions}

-- why a commit was not made says so of the machine's counter, too
unmade_there : (there counter : ℕ) (reply : Reply) → there ≡ counter → IsUnmade counter reply → IsUnmade there reply
unmade_there there counter reply same is = subst (λ (n : ℕ). IsUnmade n reply) (sym same) is

-- such a reply is that of a call which was not done
pub unmade_undone : (counter : ℕ) (reply : Reply) → IsUnmade counter reply → is_undone reply ≡ true
unmade_undone counter (NotAvailable cause) is = refl
unmade_undone counter (CounterSpent last) is = refl
unmade_undone counter reply is = absurd is

module _ (store : Store) (view : GateView) (entries : List (Option DirEntry)) (counter session number : ℕ) (call : Call) (reply : Reply) (change : EntryChange) (slot : SlotView) (versions : TagVersions)
    (kept : IsJournal store view) (tied : IsTied store view entries counter None) (known : session < length store.mounted.applications)
    (ready : IsReadyCommit store view entries counter session number call reply change slot versions) where
  -- the commit under a tamper scenario
  pub commit_under : (scenario : TamperScenario) → AreAnswered store scenario view.all → IsDueUnder store scenario view.all session call reply change (tag_of slot versions)
      → IsCommitUnder store scenario view entries counter session call change (tag_of slot versions) versions.doubted
  commit_under scenario answered due = record {
    answered = answered;
    mapped = (kept.in_step scenario answered).now;
    commit = ready.commit;
    due = due.due;
    on = ready.on scenario answered;
    object = due.object;
  }

  pub unmade_fair : (told : Reply) → IsUnmade counter told → fault_in_reply told ≡ None → (scenario : TamperScenario)
      → IsFairAt store scenario view.all (file_record session number call told Unchanged slot (unmade_versions versions))
  unmade_fair told unmade none scenario answered owed = elim (ready.due scenario answered (owed slot.file refl)) [
    | inl due ↦ inl (inl (unmade_legal store scenario view.all session number call told (Some (tag_of slot (unmade_versions versions))) known due.due
        (unmade_there (replay_at store scenario view.all).counter counter told (tied.counter scenario answered) unmade)
        (commit_tagged store scenario view entries counter None tied session (tag_of slot versions) told Unchanged none call change versions.doubted (commit_under scenario answered due))))
    | inr ends ↦ inr (ends told Unchanged (unmade_versions versions) (unmade_undone counter told unmade))
  ]
