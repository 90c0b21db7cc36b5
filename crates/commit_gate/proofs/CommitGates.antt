-- What always holds of the gate holds behind a ready commit that was made, or that is in doubt.
use Rattle.std.proofs.Common.{◌≡◌, ◌≤◌, ◌<◌, ℕ, List, [], ◌∷◌, Option, Some, None, IfSome, length, refl, sym, ap, ◌∙◌, subst}
use Rattle.tee_types.specs.declared.call.Call.{Call}
use Rattle.tee_types.specs.declared.reply.Cause.{Cause}
use Rattle.tee_types.specs.declared.reply.Reply.{Reply}
use Rattle.tee_types.specs.declared.reply.Reply.TheVariants.{NotAvailable}
use Rattle.store_model.specs.declared.event.Mark.TheVariants.{Made, Doubtful}
use Rattle.store_model.specs.Doubt.{Doubt}
use Rattle.store_model.specs.Record.{Tag, file_of}
use Rattle.store_model.specs.ReplayState.{ReplayState}
use Rattle.open_table.specs.Table.{TableState}
use Rattle.dir_records.specs.declared.entry.DirEntry.{DirEntry}
use Rattle.history_seats.specs.Records.{HistoryRecord, Version}
use Rattle.history_seats.specs.Changes.{TagVersions, with_record}
use Rattle.history_seats.specs.Views.{GateView, SlotView}
use Rattle.crash_core.specs.declared.change.EntryChange.TheVariants.{Clear, Put}
use Rattle.crash_core.specs.EntryChanges.{changed, file_put}
use Rattle.core_laws.specs.Listed.{IsTagOfChange}
use Rattle.core_laws.specs.TamperScenarios.{TamperScenario}
use Rattle.core_laws.specs.Stores.{Store, replay_at}
use Rattle.core_laws.specs.Answered.{AreAnswered}
use Rattle.core_laws.proofs.Answers.{answered-front, answered-last, replay_state-snoc}
use Rattle.core_laws.proofs.Mending.{none_some, some_same}
use Rattle.commit_gate.specs.Journals.{IsJournal}
use Rattle.commit_gate.proofs.MadeCommits.{made_due}
use Rattle.core_laws.specs.Ties.{IsTied}
use Rattle.call_rules.specs.OpenHandles.{AreOpen}
use Rattle.call_rules.proofs.EventOpens.{doubtful-event, made-event}
use Rattle.open_table.specs.HandleChanges.{NotesReply}
use Rattle.store_commit.specs.Gates.{GateValue}
use Rattle.crash_core.specs.declared.change.DoubtedChange.{DoubtedChange}
use Rattle.crash_core.specs.declared.change.EntryChange.{EntryChange}
use Rattle.commit_gate.specs.declared.guarded_gate.Closing.{Closing}
use Rattle.commit_gate.specs.GuardedGates.{IsClosingTied, GateInvariant, closing_of}
use Rattle.commit_gate.specs.Commits.{IsReadyCommit, file_record, made_versions, tag_of}
use Rattle.commit_gate.specs.CurrentFiles.{PutsCurrent}
use Rattle.commit_gate.proofs.CurrentFiles.{kept_current, landed_current}
use Rattle.commit_gate.proofs.ReadyCommits.{notes_undone}
use Rattle.commit_gate.proofs.EndedCommits.{doubtful_tied, made_tied, makes_entries}

-- the file that is put is the tag's
puts_own : (entries : List (Option DirEntry)) (change : EntryChange) (tag : Tag Version) → IsTagOfChange entries change tag → (put : ℕ) → file_put change ≡ Some put → tag.file ≡ put
puts_own entries (Put index e) tag is put has = is.file ∙ some_same e.file put has
puts_own entries (Clear index) tag is put has = absurd (none_some put has)

module _ {F R : Type 0} (store : Store) (gate next : GateValue F R) (view : GateView) (closing : Option Closing) (guarded : GateInvariant store gate view closing) (idle : gate.doubt ≡ None)
    (within : view.decided ≤ length view.all) (session number : ℕ) (known : session < length store.mounted.applications) (call : Call) (reply : Reply) (change : EntryChange)
    (slot : SlotView) (versions : TagVersions)
    (ready : IsReadyCommit store view gate.dir.dir.entries gate.counter session number call reply change slot versions) where
  abbrev entries : List (Option DirEntry)
  entries = gate.dir.dir.entries

  kept : IsJournal store view
  kept = guarded.journal

  calm_tied : IsTied store view entries gate.counter None
  calm_tied = subst (λ (d : Option DoubtedChange). IsTied store view entries gate.counter d) idle guarded.tied

  module _ (cause : Cause) (n : ℕ) (same_entries : next.dir.dir.entries ≡ gate.dir.dir.entries) (counted : next.counter ≡ gate.counter) (doubted : next.doubt ≡ Some (record { number = n; change = change }))
      (handles : next.open_handles ≡ gate.open_handles) (tsk : next.dir.dir.tsk ≡ gate.dir.dir.tsk) (format : next.dir.dir.root.format ≡ gate.dir.dir.root.format) (key : next.host.key ≡ gate.host.key) where
    abbrev r : HistoryRecord
    r = file_record session number call (NotAvailable cause) (Doubtful n) slot versions

    abbrev after : GateView
    after = with_record r view

    closes : (scenario : TamperScenario) (doubt : Doubt) → (replay_at store scenario after.all).doubt ≡ Some doubt → closing_of session call ≡ closing_of doubt.session doubt.call
    closes scenario doubt is =
        let own : Doubt = record { commit = n; session = session; call = call; file = file_of r } in
        let stands : Some own ≡ Some doubt = sym (ap (λ (s : ReplayState). s.doubt) (replay_state-snoc store scenario view.all r)) ∙ is in
        ap (λ (d : Doubt). closing_of d.session d.call) (some_same own doubt stands)

    still_open : (scenario : TamperScenario) → AreAnswered store scenario after.all → AreOpen entries gate.open_handles (replay_at store scenario after.all).state.sessions
    still_open scenario answered =
        doubtful-event store scenario view.all r answered entries gate.open_handles gate.open_handles (guarded.handles scenario (answered-front store scenario view.all (r ∷ []) answered)) session number 0 call
        (NotAvailable cause) (notes_undone gate.open_handles 0 session call (NotAvailable cause) refl) n refl

    pub doubtful_guarded : IsJournal store after → GateInvariant store next after (closing_of session call)
    doubtful_guarded journal = record {
      journal = journal;
      tied = subst (λ (d : Option DoubtedChange). IsTied store after next.dir.dir.entries next.counter d) (sym doubted)
          (subst (λ (k : ℕ). IsTied store after next.dir.dir.entries k (Some (record { number = n; change = change }))) (sym counted)
          (subst (λ (l : List (Option DirEntry)). IsTied store after l gate.counter (Some (record { number = n; change = change }))) (sym same_entries)
          (doubtful_tied store view entries gate.counter session number call reply change slot versions kept calm_tied known ready (NotAvailable cause) n within)));
      handles = λ scenario answered.
          subst (λ (l : List (Option DirEntry)). AreOpen l next.open_handles (replay_at store scenario after.all).state.sessions) (sym same_entries)
          (subst (λ (t : TableState). AreOpen entries t (replay_at store scenario after.all).state.sessions) (sym handles) (still_open scenario answered));
      closes = subst (λ (d : Option DoubtedChange). IsClosingTied store after d (closing_of session call)) (sym doubted) (λ scenario doubt answered is. closes scenario doubt is);
      directory_key = tsk ∙ guarded.directory_key;
      card_key = key ∙ guarded.card_key;
      current = kept_current gate.dir.dir next.dir.dir gate.doubt guarded.current next.doubt format same_entries
          (subst (λ (o : Option DoubtedChange). IfSome o (λ d. PutsCurrent d.change)) (sym doubted) ready.current);
    }

  module _ (n : ℕ) (entries_are : next.dir.dir.entries ≡ changed gate.dir.dir.entries change) (counted : next.counter ≡ n) (none : next.doubt ≡ None)
      (notes : NotesReply gate.open_handles next.open_handles slot.file session call reply)
      (tsk : next.dir.dir.tsk ≡ gate.dir.dir.tsk) (format : next.dir.dir.root.format ≡ gate.dir.dir.root.format) (key : next.host.key ≡ gate.host.key) where
    abbrev r_made : HistoryRecord
    r_made = file_record session number call reply (Made n) slot (made_versions versions)

    abbrev after_made : GateView
    after_made = with_record r_made view

    made_open : (scenario : TamperScenario) → AreAnswered store scenario after_made.all
        → AreOpen (changed entries change) next.open_handles (replay_at store scenario after_made.all).state.sessions
    made_open scenario answered =
        let front = answered-front store scenario view.all (r_made ∷ []) answered in
        let due = made_due store scenario view.all r_made session number call reply n refl (answered-last store scenario view.all r_made answered) in
        let x = makes_entries store view entries gate.counter session number call reply change slot versions kept calm_tied known ready scenario front due in
        made-event store scenario view.all r_made answered entries gate.open_handles next.open_handles (guarded.handles scenario front) session number slot.file call reply notes n
        (replay_at store scenario view.all).counter x.made change x.object refl ready.commit.before.distinct x.makes x.enters
        (puts_own entries change (tag_of slot versions) ready.commit.tagged)

    none_closes : closing ≡ None
    none_closes = subst (λ (d : Option DoubtedChange). IsClosingTied store view d closing) idle guarded.closes

    pub made_guarded : IsJournal store after_made → GateInvariant store next after_made closing
    made_guarded journal = record {
      journal = journal;
      tied = subst (λ (d : Option DoubtedChange). IsTied store after_made next.dir.dir.entries next.counter d) (sym none)
          (subst (λ (k : ℕ). IsTied store after_made next.dir.dir.entries k None) (sym counted)
          (subst (λ (l : List (Option DirEntry)). IsTied store after_made l n None) (sym entries_are)
          (made_tied store view entries gate.counter session number call reply change slot versions kept calm_tied known ready n)));
      handles = λ scenario answered.
          subst (λ (l : List (Option DirEntry)). AreOpen l next.open_handles (replay_at store scenario after_made.all).state.sessions) (sym entries_are) (made_open scenario answered);
      closes = subst (λ (d : Option DoubtedChange). IsClosingTied store after_made d closing) (sym none) none_closes;
      directory_key = tsk ∙ guarded.directory_key;
      card_key = key ∙ guarded.card_key;
      current = landed_current gate.dir.dir next.dir.dir gate.doubt guarded.current change ready.current format entries_are next.doubt none;
    }
