-- A rename and a delete may be brought to the gate.
use Rattle.std.proofs.Common.{List, None, Option, Some, [], ap, false, inl, inr, length, refl, slice_index_or, subst, sym, ℕ, ◌<◌, ◌∙◌, ◌≡◌}
use Rattle.std.proofs.lemmas.Bool.{cases_Bool}
use Rattle.std.specs.Ordering.{is_eq}
use Rattle.commit_gate.specs.CallerSessions.{CallerSession}
use Rattle.call_rules.specs.Matches.{Matches}
use Rattle.call_rules.specs.declared.decision.OpenObject.{OpenObject}
use Rattle.core_laws.specs.GateParts.{IsVersionOf}
use Rattle.core_laws.specs.Listed.{IsTagOf}
use Rattle.crash_core.proofs.Doubles.{below}
use Rattle.crash_core.proofs.Names.{alike_is}
use Rattle.crash_core.specs.Entries.{name_of}
use Rattle.crash_core.specs.declared.change.EntryChange.TheVariants.{Clear, Put}
use Rattle.crash_core.specs.EntryLists.{IsAlone}
use Rattle.call_rules.specs.Index.{named}
use Rattle.dir_records.specs.Form.{HasForm}
use Rattle.dir_records.specs.declared.entry.DirEntry.{DirEntry}
use Rattle.disk_model.specs.State.{FileState}
use Rattle.core_laws.specs.CallChanges.{IsEntryCommit, LacksName}
use Rattle.history_seats.specs.Records.{Version}
use Rattle.history_seats.specs.Views.{GateView, SlotView}
use Rattle.commit_gate.proofs.Knowing.{guarded_know, shown_stand}
use Rattle.commit_gate.specs.Commits.{IsDueUnder, tag_of}
use Rattle.commit_gate.specs.declared.guarded_gate.Closing.{Closing}
use Rattle.call_steps.proofs.AtObject.{at_hand, entry_current, entry_there, version_own, version_real}
use Rattle.call_steps.proofs.OwnHandles.{own_name}
use Rattle.call_steps.proofs.PlacedEntries.{entries_cleared, entries_placed, file_own}
use Rattle.call_steps.specs.AtObject.{IsAtObject}
use Rattle.call_steps.specs.NameLaws.{DeletesMayCommit, HandlesAreOwn, IsDoneByRule, RenamesMayCommit, cleared_versions, kept_versions, renamed_entry}
use Rattle.call_steps.specs.SlotCommits.{IsSlotCommit}
use Rattle.commit_gate.specs.Gates.{GateValue}
use Rattle.call_rules.specs.EntryNames.{IsEntryNamed}
use Rattle.store_model.specs.Calls.{is_commit, reply_of}
use Rattle.store_model.specs.Machine.{Session, handle_at}
use Rattle.store_model.specs.Name.{name_cmp}
use Rattle.core_laws.proofs.Mending.{some_same}
use Rattle.core_laws.specs.Answered.{AreAnswered}
use Rattle.core_laws.specs.TamperScenarios.{TamperScenario}
use Rattle.core_laws.specs.Stores.{Store, replay_at}
use Rattle.tee_types.specs.declared.call.Call.{Call}
use Rattle.tee_types.specs.declared.call.Call.TheVariants.{Delete, Rename}
use Rattle.tee_types.specs.declared.reply.Reply.TheVariants.{Done}

-- the commit is the machine's under each tamper scenario
module _ {F R E : Type 0} (store : Store) (gate : GateValue F R) (knows : GateView) (closing : Option Closing) (caller : CallerSession E) (handle : ℕ) (found : OpenObject) (slot : SlotView) (v : Version)
    (at_object : IsAtObject store gate knows closing caller handle found slot v) where
  abbrev e : DirEntry
  e = found.held.entry

  abbrev entries : List (Option DirEntry)
  entries = gate.dir.dir.entries

  place : found.held.index < length entries
  place = below entries found.held.index e (entry_there store gate knows closing caller handle found slot v at_object)

  matches : (scenario : TamperScenario) → AreAnswered store scenario knows.all → Matches entries gate.open_handles caller.state (replay_at store scenario knows.all).state caller.number
  matches scenario answered =
      let machine = guarded_know F R store gate knows closing at_object.guarded at_object.entries.distinct scenario answered in
      let session = shown_stand E store knows caller at_object.calm.caller at_object.calm.sees scenario answered in
      record { shaped = machine.shaped; handles = machine.handles; within = session.within; session = session.is }

  done_by : (call : Call) → IsDoneByRule gate caller found call → (scenario : TamperScenario) → AreAnswered store scenario knows.all → reply_of (replay_at store scenario knows.all).state caller.number call ≡ Done
  done_by call rule scenario answered = (rule (replay_at store scenario knows.all).state caller.number (matches scenario answered)).done

  -- A rename.
  module _ (id : List ℕ) (rule : IsDoneByRule gate caller found (Rename handle id)) (free : IsEntryNamed entries (named caller.state.application id) None) (own : e.app ≡ caller.state.application) where
    abbrev put : DirEntry
    put = renamed_entry e id

    application : caller.state.application ≡ slice_index_or store.mounted.applications caller.number []
    application = at_object.calm.caller.session.application

    put_name : name_of put ≡ record { app = slice_index_or store.mounted.applications caller.number []; id = id }
    put_name = ap (λ (a : List ℕ). named a id) (own ∙ application)

    lacks : LacksName entries (named caller.state.application id)
    lacks i f at_ = elim (cases_Bool (is_eq (name_cmp (named caller.state.application id) (name_of f)))) [
      | inl alike ↦ absurd (free i f at_ (sym (alike_is (named caller.state.application id) (name_of f) alike)))
      | inr off ↦ off
    ]

    put_form : HasForm put
    put_form =
        let form = at_object.entries.forms found.held.index e (entry_there store gate knows closing caller handle found slot v at_object) in
        record { version = form.version; file = form.file; size = form.size; attributes = form.attributes; format = form.format }

    put_alone : IsAlone entries found.held.index (name_of put)
    put_alone i f other at_ = subst (λ (a : List ℕ). is_eq (name_cmp (named a id) (name_of f)) ≡ false) (sym own) (lacks i f at_)

    put_version : IsVersionOf put v
    put_version =
        let version = version_own store gate knows closing caller handle found slot v at_object in
        record { root = version.root; app = version.app; size = version.size; attributes = version.attributes }

    rename_commit : IsEntryCommit store entries gate.counter caller.number (Rename handle id) (Put found.held.index put) (tag_of slot (kept_versions v)) (Some v)
    rename_commit = record {
      makes = record {
        old = name_of e;
        next = record {
          was = record { entry = e; at = entry_there store gate knows closing caller handle found slot v at_object; named = refl };
          named = put_name;
          file = refl;
          generation = refl;
        };
        free = subst (λ (a : List ℕ). LacksName entries (named a id)) application lacks;
      };
      place = place;
      tagged = record { file = at_object.file; generation = at_object.generation };
      leaves = (v, refl, put_version, version_real store gate knows closing caller handle found slot v at_object);
      before = at_object.entries;
      after = entries_placed entries at_object.entries found.held.index put place put_form put_alone
          (file_own entries at_object.entries found.held.index e (entry_there store gate knows closing caller handle found slot v at_object));
    }

    rename_due : (scenario : TamperScenario) → AreAnswered store scenario knows.all
        → IsDueUnder store scenario knows.all caller.number (Rename handle id) Done (Put found.held.index put) (tag_of slot (kept_versions v))
    rename_due scenario answered =
        let done : reply_of (replay_at store scenario knows.all).state caller.number (Rename handle id) ≡ Done = done_by (Rename handle id) rule scenario answered in
        record {
          due = ap (is_commit (replay_at store scenario knows.all).state caller.number (Rename handle id)) done;
          replied = sym done;
          object = sym at_object.gives;
        }

    pub rename_commits : (file : FileState)
        → IsSlotCommit store knows entries gate.counter caller.number caller.made (Rename handle id) Done (Put found.held.index put) file slot (kept_versions v)
    rename_commits file = record {
      ready = record {
        commit = rename_commit;
        given = sym at_object.gives;
        current = entry_current store gate knows closing caller handle found slot v at_object;
        on = λ scenario answered. (at_hand store gate knows closing caller handle found slot v at_object scenario answered, refl);
        due = λ scenario answered off. inl (rename_due scenario answered);
      };
      honest = λ now scenario answered honest. rename_due scenario answered;
    }

  -- A delete.
  module _ (rule : IsDoneByRule gate caller found (Delete handle)) where
    delete_commit : IsEntryCommit store entries gate.counter caller.number (Delete handle) (Clear found.held.index) (tag_of slot (cleared_versions v)) None
    delete_commit = record {
      makes = (name_of e, record { entry = e; at = entry_there store gate knows closing caller handle found slot v at_object; named = refl });
      place = place;
      tagged = λ f at_.
          subst (IsTagOf (tag_of slot (cleared_versions v))) (some_same e f (sym (entry_there store gate knows closing caller handle found slot v at_object) ∙ at_))
          (record { file = at_object.file; generation = at_object.generation });
      leaves = refl;
      before = at_object.entries;
      after = entries_cleared entries found.held.index at_object.entries;
    }

    delete_due : (scenario : TamperScenario) → AreAnswered store scenario knows.all
        → IsDueUnder store scenario knows.all caller.number (Delete handle) Done (Clear found.held.index) (tag_of slot (cleared_versions v))
    delete_due scenario answered =
        let done : reply_of (replay_at store scenario knows.all).state caller.number (Delete handle) ≡ Done = done_by (Delete handle) rule scenario answered in
        record { due = ap (is_commit (replay_at store scenario knows.all).state caller.number (Delete handle)) done; replied = sym done; object = tt }

    pub delete_commits : (file : FileState)
        → IsSlotCommit store knows entries gate.counter caller.number caller.made (Delete handle) Done (Clear found.held.index) file slot (cleared_versions v)
    delete_commits file = record {
      ready = record {
        commit = delete_commit;
        given = sym at_object.gives;
        current = tt;
        on = at_hand store gate knows closing caller handle found slot v at_object;
        due = λ scenario answered off. inl (delete_due scenario answered);
      };
      honest = λ now scenario answered honest. delete_due scenario answered;
    }

pub renames_commit : (F R E : Type 0) → RenamesMayCommit F R E
renames_commit F R E store gate knows closing caller handle found slot v file id at_object rule free own =
    rename_commits store gate knows closing caller handle found slot v at_object id rule free own file

pub deletes_commit : (F R E : Type 0) → DeletesMayCommit F R E
deletes_commit F R E store gate knows closing caller handle found slot v file at_object rule =
    delete_commits store gate knows closing caller handle found slot v at_object rule file

pub handles_own : (E : Type 0) → HandlesAreOwn E
handles_own E store knows caller handle h calm live scenario answered =
    let stands = shown_stand E store knows caller calm.caller calm.sees scenario answered in
    own_name store scenario knows.all caller.number handle h (ap (λ (s : Session). handle_at s handle) stands.is ∙ live) ∙ ap (λ (s : Session). s.application) stands.is
