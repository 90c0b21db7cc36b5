-- The records of a commit's ends: their tags are right, and under each tamper scenario they are fair.
use Rattle.std.proofs.Common.{◌≡◌, ◌<◌, ℕ, Bool, true, false, true≢false, List, [], ◌∷◌, length, Option, Some, None, refl, sym, ap, ◌∙◌, subst}
use Rattle.tee_types.specs.declared.call.Call.{Call}
use Rattle.tee_types.specs.declared.call.Call.TheVariants.{Close, Create, Delete, Open}
use Rattle.tee_types.specs.declared.reply.Reply.{Reply}
use Rattle.tee_types.specs.declared.reply.Reply.TheVariants.{Done, Handle}
use Rattle.store_model.specs.declared.event.Mark.TheVariants.{Unchanged}
use Rattle.store_model.specs.Machine.{MachineState, session_at}
use Rattle.store_model.specs.Calls.{state_after}
use Rattle.store_model.specs.Record.{fault_in_reply}
use Rattle.store_model.specs.ReplayState.{is_undone}
use Rattle.open_table.specs.Table.{TableState}
use Rattle.open_table.specs.HandleChanges.{NotesReply}
use Rattle.dir_records.specs.declared.entry.DirEntry.{DirEntry}
use Rattle.history_seats.specs.Records.{HistoryRecord}
use Rattle.history_seats.specs.Directory.{given_version}
use Rattle.history_seats.specs.Mounts.{Mounted}
use Rattle.history_seats.specs.Tags.{HasRightTag}
use Rattle.history_seats.specs.Changes.{IsFitting, TagVersions, with_record}
use Rattle.history_seats.specs.Views.{GateView, SlotView}
use Rattle.core_laws.specs.Stores.{Store, replay_at}
use Rattle.core_laws.proofs.Answers.{answered-front}
use Rattle.core_laws.proofs.Mending.{none_some, some_same}
use Rattle.core_laws.proofs.SessionSteps.{sessions_at}
use Rattle.commit_gate.specs.Journals.{IsJournal}
use Rattle.commit_gate.specs.CallerSessions.{CallerSession}
use Rattle.commit_gate.specs.JournalCalls.{IsMovedBy}
use Rattle.commit_gate.proofs.CallMoves.{stands-now, unchanged-moves}
use Rattle.core_laws.specs.Ties.{IsTied}
use Rattle.core_laws.specs.TagLaws.{NamesGiven}
use Rattle.core_laws.proofs.RightTags.{unchanged_right}
use Rattle.core_laws.proofs.QuietTies.{unchanged_ties}
use Rattle.call_rules.specs.OpenLaws.{IsOpenedFile}
use Rattle.call_rules.proofs.EventOpens.{unchanged-event}
use Rattle.store_commit.specs.Gates.{GateValue}
use Rattle.crash_core.specs.declared.change.DoubtedChange.{DoubtedChange}
use Rattle.commit_gate.specs.declared.guarded_gate.Closing.{Closing}
use Rattle.commit_gate.specs.GuardedGates.{IsClosingTied, GateInvariant}
use Rattle.commit_gate.specs.Commits.{IsCalm, file_record, tag_of, unmade_versions}

-- a reply of what was not done adds and takes no handle
pub notes_undone : (table : TableState) (file session : ℕ) (call : Call) (reply : Reply) → is_undone reply ≡ true → NotesReply table table file session call reply
notes_undone table file session (Create id flags attributes bytes) (Handle number) undone = absurd (true≢false (sym undone))
notes_undone table file session (Open id flags) (Handle number) undone = absurd (true≢false (sym undone))
notes_undone table file session (Close handle) Done undone = absurd (true≢false (sym undone))
notes_undone table file session (Delete handle) Done undone = absurd (true≢false (sym undone))
notes_undone table file session call reply undone = refl

opened_undone : (entries : List (Option DirEntry)) (s : MachineState) (session file : ℕ) (call : Call) (reply : Reply) → is_undone reply ≡ true → IsOpenedFile entries s session call reply file
opened_undone entries s session file (Open id flags) (Handle number) undone = absurd (true≢false (sym undone))
opened_undone entries s session file call reply undone = tt

-- A commit that was not made.
module _ (store : Store) (view : GateView) (session number : ℕ) (call : Call) (reply : Reply) (slot : SlotView) (versions : TagVersions) where
  abbrev pub unmade : HistoryRecord
  unmade = file_record session number call reply Unchanged slot (unmade_versions versions)

  pub unmade_tag : versions.committed ≡ given_version store.mounted view.all slot.file slot.generation → HasRightTag store.mounted view.all unmade
  unmade_tag given =
      unchanged_right store.mounted view.all unmade refl
      (λ tag of. subst (NamesGiven store.mounted view.all) (some_same (tag_of slot (unmade_versions versions)) tag of) (record { committed = given; doubted = refl }))

  pub unmade_fits : view.mounted ≡ Some store.mounted → fault_in_reply reply ≡ None → versions.committed ≡ given_version store.mounted view.all slot.file slot.generation → IsFitting view unmade
  unmade_fits mounted fault given = record {
    right = λ other is. subst (λ (m : Mounted). HasRightTag m view.all unmade) (some_same store.mounted other (sym mounted ∙ is)) (unmade_tag given);
    tagged = record {
      fault = λ file is. absurd (none_some file (sym fault ∙ is));
      commit = λ commits_. absurd (true≢false (sym commits_));
    };
  }

-- The session of such a call stays as it is.
module _ {E : Type 0} (store : Store) (view : GateView) (s : CallerSession E) (calm : IsCalm store view s) (call : Call) (reply : Reply) (slot : SlotView) (versions : TagVersions) where
  pub unmade_moves : is_undone reply ≡ true → IsMovedBy store view (unmade store view s.number s.made call reply slot versions) s
  unmade_moves undone =
      unchanged-moves store view (unmade store view s.number s.made call reply slot versions) call reply s calm.within refl
      (λ doubt has. absurd (none_some doubt (sym calm.settled ∙ has)))
      (record {
        before = s.state;
        was = calm.caller;
        sees = calm.sees;
        application = refl;
        moves = λ scenario answered.
            let here = replay_at store scenario view.all in
            ap (λ (b : Bool). session_at (elim b as (λ _. MachineState) [ true ↦ here.state | false ↦ state_after here.state s.number call ]) s.number) undone
            ∙ stands-now store view s calm.caller calm.sees scenario answered;
      })

-- What always holds of the gate holds behind such a call.
module _ {F R : Type 0} (store : Store) (gate : GateValue F R) (view : GateView) (closing : Option Closing) (guarded : GateInvariant store gate view closing) (idle : gate.doubt ≡ None) where
  pub unmade_guarded : (session number : ℕ) (call : Call) (reply : Reply) (slot : SlotView) (versions : TagVersions) → session < length store.mounted.applications → is_undone reply ≡ true
      → versions.committed ≡ given_version store.mounted view.all slot.file slot.generation
      → IsJournal store (with_record (unmade store view session number call reply slot versions) view)
      → GateInvariant store gate (with_record (unmade store view session number call reply slot versions) view) closing
  unmade_guarded session number call reply slot versions known undone given journal =
      let r = unmade store view session number call reply slot versions in
      let entries = gate.dir.dir.entries in
      record {
        journal = journal;
        tied = subst (λ (d : Option DoubtedChange). IsTied store (with_record r view) entries gate.counter d) (sym idle)
            (unchanged_ties store view entries gate.counter None r refl (unmade_tag store view session number call reply slot versions given) tt
            (subst (λ (d : Option DoubtedChange). IsTied store view entries gate.counter d) idle guarded.tied));
        handles = λ scenario answered.
            let front = answered-front store scenario view.all (r ∷ []) answered in
            unchanged-event store scenario view.all r answered entries gate.open_handles gate.open_handles (guarded.handles scenario front) session number 0 call reply
            (notes_undone gate.open_handles 0 session call reply undone) refl (subst (λ (n : ℕ). session < n) (sym (sessions_at store scenario view.all)) known)
            (opened_undone entries (replay_at store scenario view.all).state session 0 call reply undone);
        closes = subst (λ (d : Option DoubtedChange). IsClosingTied store (with_record r view) d closing) (sym idle)
            (subst (λ (d : Option DoubtedChange). IsClosingTied store view d closing) idle guarded.closes);
        directory_key = guarded.directory_key;
        card_key = guarded.card_key;
        current = guarded.current;
      }
