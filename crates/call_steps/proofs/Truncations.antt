-- A truncation that was staged may be brought to the gate.
use Rattle.std.proofs.Common.{IsTrue, List, Option, Some, [], ap, false, length, max, min, nat_lt, refl, slice_index_or, subst, sym, ℕ, ◌==◌, ◌∙◌, ◌≡◌, ◌≤◌, ◌⊎◌}
use Rattle.std.proofs.lemmas.Bool.{le-ltb}
use Rattle.std.specs.List.{list_any}
use Rattle.commit_gate.specs.CallerSessions.{CallerSession}
use Rattle.call_rules.specs.declared.decision.OpenObject.{OpenObject}
use Rattle.crash_core.specs.Entries.{name_of}
use Rattle.crash_core.specs.declared.change.EntryChange.TheVariants.{Put}
use Rattle.dir_records.specs.declared.entry.DirEntry.{DirEntry}
use Rattle.disk_model.specs.State.{FileState}
use Rattle.core_laws.specs.CallChanges.{IsCallChange}
use Rattle.core_laws.specs.MachineChanges.{IsCallOn}
use Rattle.history_seats.specs.Changes.{TagVersions}
use Rattle.history_seats.specs.Numbers.{is_in}
use Rattle.history_seats.specs.Records.{Version}
use Rattle.history_seats.specs.Views.{GateView, SlotView}
use Rattle.commit_gate.specs.Commits.{EndsUnder, IsDueUnder, file_record, tag_of}
use Rattle.commit_gate.specs.declared.guarded_gate.Closing.{Closing}
use Rattle.object_slots.specs.GuardedStages.{IsMadeOverGiven, VersionChange, resize_of}
use Rattle.call_rules.specs.WellOpened.{IsSoundAt}
use Rattle.node_image.specs.declared.node.RootRef.{RootRef}
use Rattle.call_steps.proofs.AtObject.{at_hand, entry_current, entry_name, live_here, mapped_here, version_real}
use Rattle.call_steps.proofs.DataCommits.{commits_change, due_or_end, held_here, long_here, next_here, put_next, version_here}
use Rattle.call_steps.proofs.GivenCalls.{given_call}
use Rattle.call_steps.specs.AtObject.{IsAtObject}
use Rattle.call_steps.specs.DataCommitLaws.{MayResize, TruncationsMayCommit}
use Rattle.call_steps.specs.SlotCommits.{IsSlotCommit}
use Rattle.call_steps.specs.StagedVersions.{IsStagedVersion, change_versions, changed_entry}
use Rattle.commit_gate.specs.Gates.{GateValue}
use Rattle.store_model.specs.Data.{needs_block, range_resized, resized_contents, spoils, truncate_of as truncate_by}
use Rattle.store_model.specs.Machine.{MachineState, handle_at, session_at}
use Rattle.store_model.specs.Object.{Contents, Sound, changed_object}
use Rattle.store_model.specs.declared.event.Mark.TheVariants.{Made}
use Rattle.core_laws.proofs.ChangeCalls.{IsDone, truncate_commits, truncate_done}
use Rattle.core_laws.proofs.Mending.{some_same}
use Rattle.core_laws.proofs.StagedChanges.{truncations_due}
use Rattle.core_laws.specs.Answered.{AreAnswered}
use Rattle.core_laws.specs.TamperScenarios.{TamperScenario, object_under}
use Rattle.core_laws.specs.Shown.{IsGivenAt}
use Rattle.core_laws.specs.Masked.{told_taints}
use Rattle.disk_model.specs.Arms.{Taint}
use Rattle.core_laws.specs.Stores.{Store, replay_at}
use Rattle.tee_types.specs.Limits.{most_data_bytes}
use Rattle.tee_types.specs.declared.call.Call.{Call}
use Rattle.tee_types.specs.declared.call.Call.TheVariants.{Truncate}
use Rattle.tee_types.specs.declared.reply.Reply.TheVariants.{Done}

module _ {F R E : Type 0} (store : Store) (gate : GateValue F R) (knows : GateView) (closing : Option Closing) (caller : CallerSession E) (handle : ℕ) (found : OpenObject) (slot : SlotView) (v next : Version)
    (file : FileState) (root : RootRef) (size : ℕ) (at_object : IsAtObject store gate knows closing caller handle found slot v) (may : MayResize found.handle v.size size)
    (told : told_taints file ≡ store.taints slot.file) (staged : IsStagedVersion store.keys file v next (resize_of v.size size) root) where
  abbrev e : DirEntry
  e = found.held.entry

  few : next.size ≤ 1044480
  few = subst (λ (n : ℕ). n ≤ 1044480) (sym staged.follows.size) may.fits

  abbrev cut : Call
  cut = Truncate handle next.size

  abbrev versions : TagVersions
  versions = change_versions v next

  fits : nat_lt most_data_bytes next.size ≡ false
  fits = le-ltb most_data_bytes next.size few

  other : (next.size == v.size) ≡ false
  other = ap (λ (n : ℕ). n == v.size) staged.follows.size ∙ may.other

  makes : IsCallChange (slice_index_or store.mounted.applications caller.number []) cut gate.dir.dir.entries gate.counter (Put found.held.index (changed_entry e next))
  makes = put_next store gate knows closing caller handle found slot v at_object next staged.follows.app staged.follows.attributes staged.real staged.current few

  -- the change, by the size of the version that it leaves
  resizes : resize_of v.size next.size ≡ resize_of v.size size
  resizes = ap (resize_of v.size) staged.follows.size

  over : IsMadeOverGiven store.keys (store.taints slot.file) v next (resize_of v.size next.size)
  over = subst (λ (x : Option (List Taint) × VersionChange). IsMadeOverGiven store.keys x.0 v next x.1) (λ i. (told i, sym resizes i)) staged.follows.over

  -- Under a tamper scenario.
  module _ (scenario : TamperScenario) (answered : AreAnswered store scenario knows.all) where
    abbrev m : MachineState
    m = (replay_at store scenario knows.all).state

    live : handle_at (session_at m caller.number) handle ≡ Some found.handle
    live = live_here store gate knows closing caller handle found slot v at_object scenario answered

    on_cut : IsCallOn m caller.number cut gate.dir.dir.entries (Put found.held.index (changed_entry e next))
    on_cut = (at_hand store gate knows closing caller handle found slot v at_object scenario answered, refl)

    abbrev given : IsGivenAt store scenario knows.all (file_record caller.number caller.made cut Done (Made 0) slot versions)
    given = given_call store gate knows closing caller handle found slot v at_object scenario answered cut Done (Made 0) versions 0 refl refl over.0

    due_cut : IsDueUnder store scenario knows.all caller.number cut Done (Put found.held.index (changed_entry e next)) (tag_of slot versions)
        ⊎ EndsUnder store scenario knows.all caller.number caller.made cut Done slot
    due_cut =
        due_or_end store gate knows closing caller handle found slot v at_object next staged.follows.app staged.follows.attributes staged.real staged.current few cut tt makes scenario answered on_cut Done (Made 0) given
        (truncations_due store scenario knows.all (file_record caller.number caller.made cut Done (Made 0) slot versions) given (version_real store gate knows closing caller handle found slot v at_object) refl
        (mapped_here store gate knows closing caller handle found slot v at_object scenario answered) next handle refl
        (record { handle = found.handle; live = live }, may.right, other, fits) over.1)

    -- Over an honest file.
    module _ (now : IsTrue file.honest) (honest : is_in slot.file scenario.tampered ≡ false) where
      abbrev there : IsSoundAt m.objects found.handle.name
      there = held_here store gate knows closing caller handle found slot v at_object next staged.follows.app staged.follows.attributes staged.real staged.current few scenario answered honest

      abbrev c : Contents
      c = there.contents

      is_version : v.object ≡ Sound c
      is_version = version_here store gate knows closing caller handle found slot v at_object next staged.follows.app staged.follows.attributes staged.real staged.current few scenario answered honest

      long : length c.bytes ≡ v.size
      long = long_here store gate knows closing caller handle found slot v at_object next staged.follows.app staged.follows.attributes staged.real staged.current few scenario answered honest

      spares : spoils c (range_resized c next.size) ≡ false
      spares =
          (λ i. list_any (needs_block (long i) (min (staged.follows.size i) (long i)) (max (staged.follows.size i) (long i))) c.bad)
          ∙ staged.spared now c is_version

      apart : (next.size == length c.bytes) ≡ false
      apart = ap (λ (n : ℕ). next.size == n) long ∙ other

      done : IsDone m found.handle (truncate_by m caller.number handle next.size) (resized_contents c next.size)
      done = truncate_done m caller.number handle found.handle live may.right c there.is next.size apart fits spares

      next_stands : object_under store.keys scenario e.file e.generation next ≡ Sound (resized_contents c next.size)
      next_stands =
          next_here store gate knows closing caller handle found slot v at_object next staged.follows.app staged.follows.attributes staged.real staged.current few scenario answered honest
          (resized_contents c next.size) (staged.follows.object now c is_version ∙ ap (λ (n : ℕ). Sound (resized_contents c n)) (sym staged.follows.size))

      due_honest : IsDueUnder store scenario knows.all caller.number cut Done (Put found.held.index (changed_entry e next)) (tag_of slot versions)
      due_honest = record {
        due = truncate_commits m caller.number handle found.handle live may.right c there.is next.size apart fits spares;
        replied = sym done.reply;
        object = λ w is.
            done.objects
            ∙ (λ i. changed_object m.objects (sym (entry_name store gate knows closing caller handle found slot v at_object) i) (sym next_stands i))
            ∙ ap (λ (x : Version). changed_object m.objects (name_of e) (object_under store.keys scenario e.file e.generation x)) (some_same next w is);
      }

  -- in the words of the version that is left
  by_next : IsSlotCommit store knows gate.dir.dir.entries gate.counter caller.number caller.made cut Done (Put found.held.index (changed_entry e next)) file slot versions
  by_next = record {
    ready = record {
      commit = commits_change store gate knows closing caller handle found slot v at_object next staged.follows.app staged.follows.attributes staged.real staged.current few cut makes;
      given = sym at_object.gives;
      current = entry_current store gate knows closing caller handle found slot v at_object;
      on = on_cut;
      due = λ scenario answered off. due_cut scenario answered;
    };
    honest = λ now scenario answered honest. due_honest scenario answered now honest;
  }

  pub truncation_commits : IsSlotCommit store knows gate.dir.dir.entries gate.counter caller.number caller.made (Truncate handle size) Done (Put found.held.index (changed_entry e next)) file slot versions
  truncation_commits =
      subst
      (λ (n : ℕ). IsSlotCommit store knows gate.dir.dir.entries gate.counter caller.number caller.made (Truncate handle n) Done (Put found.held.index (changed_entry e next)) file slot versions)
      staged.follows.size by_next

pub truncations_commit : (F R E : Type 0) → TruncationsMayCommit F R E
truncations_commit F R E store gate knows closing caller handle found slot v next file root size at_object may told staged =
    truncation_commits store gate knows closing caller handle found slot v next file root size at_object may told staged
