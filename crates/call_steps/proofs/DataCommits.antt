-- The commit of a change of an object in its place, in the words of the gate's entries.
use Rattle.node_image.specs.References.{IsCurrent}
use Rattle.std.proofs.Common.{Option, Some, [], ap, false, inl, inr, length, refl, slice_index_or, sym, ℕ, ◌∙◌, ◌≡◌, ◌≤◌, ◌⊎◌}
use Rattle.commit_gate.specs.CallerSessions.{CallerSession}
use Rattle.call_rules.specs.declared.decision.OpenObject.{OpenObject}
use Rattle.core_laws.specs.GateParts.{IsVersionOf}
use Rattle.crash_core.proofs.Doubles.{below}
use Rattle.crash_core.specs.Entries.{name_of}
use Rattle.crash_core.specs.declared.change.EntryChange.{EntryChange}
use Rattle.crash_core.specs.declared.change.EntryChange.TheVariants.{Put}
use Rattle.crash_core.specs.EntryChanges.{IsNextEntry}
use Rattle.dir_records.specs.Form.{HasForm}
use Rattle.dir_records.specs.declared.entry.DirEntry.{DirEntry}
use Rattle.core_laws.proofs.DueCommits.{due_commits}
use Rattle.core_laws.specs.CallChanges.{IsCallChange, IsEntryCommit}
use Rattle.core_laws.specs.DueChanges.{IsDueCommit}
use Rattle.core_laws.specs.MachineChanges.{IsCallOn}
use Rattle.history_seats.specs.Numbers.{is_in}
use Rattle.history_seats.specs.Records.{Version}
use Rattle.history_seats.specs.Views.{GateView, SlotView}
use Rattle.commit_gate.specs.Commits.{EndsUnder, IsDueUnder, file_record, tag_of}
use Rattle.commit_gate.specs.declared.guarded_gate.Closing.{Closing}
use Rattle.call_rules.specs.WellOpened.{IsSoundAt}
use Rattle.call_steps.proofs.AtObject.{entries_after, entry_current, entry_name, entry_there, mapped_here, object_here, sound_here, version_own, version_real}
use Rattle.call_steps.proofs.GivenCalls.{ends_any}
use Rattle.call_steps.specs.AtObject.{IsAtObject}
use Rattle.call_steps.specs.StagedVersions.{change_versions, changed_entry}
use Rattle.commit_gate.specs.Gates.{GateValue}
use Rattle.store_model.specs.Object.{Contents, Sound, object_at, size_of}
use Rattle.store_model.specs.Record.{Tag}
use Rattle.store_model.specs.declared.event.Mark.{Mark}
use Rattle.core_laws.proofs.Mending.{object_honest, size_under, some_same}
use Rattle.core_laws.specs.Answered.{AreAnswered}
use Rattle.core_laws.specs.ChangeLaws.{IsDueChange}
use Rattle.core_laws.specs.TamperScenarios.{TamperScenario, object_under}
use Rattle.core_laws.specs.Shown.{IsGivenAt, IsPartial, IsWriteEndAt}
use Rattle.core_laws.specs.Decodings.{IsReal}
use Rattle.core_laws.specs.Stores.{Store, replay_at}
use Rattle.tee_types.specs.declared.call.Call.{Call}
use Rattle.tee_types.specs.declared.reply.Reply.{Reply}
use Rattle.tee_types.specs.declared.reply.Reply.TheVariants.{Done}

-- the next version of an object at hand
module _ {F R E : Type 0} (store : Store) (gate : GateValue F R) (knows : GateView) (closing : Option Closing) (caller : CallerSession E) (handle : ℕ) (found : OpenObject) (slot : SlotView) (v : Version)
    (at_object : IsAtObject store gate knows closing caller handle found slot v) (next : Version) (app : next.app ≡ v.app) (attributes : next.attributes ≡ v.attributes) (real : IsReal store.keys next)
    (current : IsCurrent next.root) (few : next.size ≤ 1044480) where
  abbrev pub put : DirEntry
  put = changed_entry found.held.entry next

  abbrev pub change : EntryChange
  change = Put found.held.index put

  abbrev pub tag : Tag Version
  tag = tag_of slot (change_versions v next)

  put_form : HasForm put
  put_form =
      let form = at_object.entries.forms found.held.index found.held.entry (entry_there store gate knows closing caller handle found slot v at_object) in
      record { version = current.0; file = form.file; size = few; attributes = form.attributes; format = form.format }

  kept_format : next.root.format ≡ put.format
  kept_format = current.1 ∙ sym (entry_current store gate knows closing caller handle found slot v at_object)

  put_version : IsVersionOf put next
  put_version =
      let own = version_own store gate knows closing caller handle found slot v at_object in
      record { root = λ i. record { hash = next.root.hash; version = next.root.version; format = kept_format i }; app = app ∙ own.app; size = refl; attributes = attributes ∙ own.attributes }

  pub put_next : IsNextEntry gate.dir.dir.entries found.held.index put (name_of put) (name_of put)
  put_next = record {
    was = record { entry = found.held.entry; at = entry_there store gate knows closing caller handle found slot v at_object; named = refl };
    named = refl;
    file = refl;
    generation = refl;
  }

  -- a write and a truncation change the entries so
  pub commits_change : (call : Call) → IsCallChange (slice_index_or store.mounted.applications caller.number []) call gate.dir.dir.entries gate.counter change
      → IsEntryCommit store gate.dir.dir.entries gate.counter caller.number call change tag (Some next)
  commits_change call makes = record {
    makes = makes;
    place = below gate.dir.dir.entries found.held.index found.held.entry (entry_there store gate knows closing caller handle found slot v at_object);
    tagged = record { file = at_object.file; generation = at_object.generation };
    leaves = (next, refl, put_version, real);
    before = at_object.entries;
    after = entries_after store gate knows closing caller handle found slot v at_object put put_form refl refl;
  }

  -- Under a tamper scenario: what is the machine's change is a commit of the entries.
  module _ (call : Call) (partial : IsPartial call) (makes : IsCallChange (slice_index_or store.mounted.applications caller.number []) call gate.dir.dir.entries gate.counter change)
      (scenario : TamperScenario) (answered : AreAnswered store scenario knows.all) (on : IsCallOn (replay_at store scenario knows.all).state caller.number call gate.dir.dir.entries change)
      (reply : Reply) (mark : Mark) (x : IsGivenAt store scenario knows.all (file_record caller.number caller.made call reply mark slot (change_versions v next))) where
    pub due_or_end : IsDueChange store scenario knows.all (file_record caller.number caller.made call reply mark slot (change_versions v next)) x next
        ⊎ IsWriteEndAt store scenario knows.all (file_record caller.number caller.made call reply mark slot (change_versions v next))
        → IsDueUnder store scenario knows.all caller.number call Done change tag ⊎ EndsUnder store scenario knows.all caller.number caller.made call Done slot
    due_or_end which = elim which [
      | inl due ↦ inl (by_commit (due_commits store scenario knows gate.dir.dir.entries gate.counter caller.number caller.made call reply mark change tag (Some next)
          (file_record caller.number caller.made call reply mark slot (change_versions v next)) x next refl refl partial answered
          (mapped_here store gate knows closing caller handle found slot v at_object scenario answered) (commits_change call makes) on refl due))
      | inr ends ↦ inr (ends_any store scenario knows.all caller.number caller.made call slot reply mark (change_versions v next) ends)
    ]
      where
        by_commit : IsDueCommit store scenario knows gate.dir.dir.entries gate.counter caller.number call change tag (Some next) → IsDueUnder store scenario knows.all caller.number call Done change tag
        by_commit due = record { due = due.commit.due; replied = due.replied; object = due.commit.object }

  -- Where the object's file is honest under the tamper scenario.
  module _ (scenario : TamperScenario) (answered : AreAnswered store scenario knows.all) (honest : is_in slot.file scenario.tampered ≡ false) where
    abbrev e : DirEntry
    e = found.held.entry

    entry_honest : is_in e.file scenario.tampered ≡ false
    entry_honest = ap (λ (n : ℕ). is_in n scenario.tampered) (sym at_object.file) ∙ honest

    pub held_here : IsSoundAt (replay_at store scenario knows.all).state.objects found.handle.name
    held_here = sound_here store gate knows closing caller handle found slot v at_object scenario answered

    stands_here : object_under store.keys scenario e.file e.generation v ≡ Sound held_here.contents
    stands_here =
        some_same (object_under store.keys scenario e.file e.generation v) (Sound held_here.contents)
        (sym (object_here store gate knows closing caller handle found slot v at_object scenario answered)
        ∙ ap (object_at (replay_at store scenario knows.all).state.objects) (entry_name store gate knows closing caller handle found slot v at_object) ∙ held_here.is)

    pub version_here : v.object ≡ Sound held_here.contents
    version_here =
        sym (object_honest store.keys scenario e.file e.generation v (version_real store gate knows closing caller handle found slot v at_object) entry_honest) ∙ stands_here

    pub long_here : length held_here.contents.bytes ≡ v.size
    long_here = ap size_of (sym stands_here) ∙ size_under store.keys scenario e.file e.generation v

    pub next_here : (c : Contents) → next.object ≡ Sound c → object_under store.keys scenario e.file e.generation next ≡ Sound c
    next_here c is = object_honest store.keys scenario e.file e.generation next real entry_honest ∙ is
