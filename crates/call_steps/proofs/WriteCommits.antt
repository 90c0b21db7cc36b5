-- A write that was staged may be brought to the gate.
use Rattle.std.proofs.Common.{IsTrue, List, Option, Some, [], ap, arith, false, length, max, min, nat_lt, refl, slice_index_or, subst, sym, ℕ, ◌+◌, ◌∙◌, ◌≡◌, ◌≤◌, ◌⊎◌}
use Rattle.std.proofs.lemmas.Bool.{le-ltb}
use Rattle.std.specs.List.{list_any}
use Rattle.commit_gate.specs.CallerSessions.{CallerSession}
use Rattle.call_rules.specs.declared.decision.OpenObject.{OpenObject}
use Rattle.crash_core.specs.Entries.{name_of}
use Rattle.crash_core.specs.declared.change.EntryChange.TheVariants.{Put}
use Rattle.dir_records.specs.declared.entry.DirEntry.{DirEntry}
use Rattle.disk_model.specs.State.{FileState}
use Rattle.core_laws.specs.CallChanges.{IsCallChange}
use Rattle.core_laws.specs.MachineChanges.{IsCallOn}
use Rattle.history_seats.specs.Changes.{TagVersions}
use Rattle.history_seats.specs.Numbers.{is_in}
use Rattle.history_seats.specs.Records.{Version}
use Rattle.history_seats.specs.Views.{GateView, SlotView}
use Rattle.commit_gate.specs.Commits.{EndsUnder, IsDueUnder, file_record, tag_of}
use Rattle.commit_gate.specs.declared.guarded_gate.Closing.{Closing}
use Rattle.object_slots.specs.GuardedStages.{write_of}
use Rattle.call_rules.specs.WellOpened.{IsSoundAt}
use Rattle.node_image.specs.declared.node.RootRef.{RootRef}
use Rattle.call_steps.proofs.AtObject.{at_hand, entry_current, entry_name, entry_there, live_here, mapped_here, version_own, version_real}
use Rattle.call_steps.proofs.DataCommits.{commits_change, due_or_end, held_here, long_here, next_here, put_next, version_here}
use Rattle.call_steps.proofs.GivenCalls.{given_call}
use Rattle.call_steps.specs.AtObject.{IsAtObject}
use Rattle.call_steps.specs.DataCommitLaws.{MayWrite, WritesMayCommit}
use Rattle.call_steps.specs.StagedVersions.{IsStagedVersion, change_versions, changed_entry}
use Rattle.commit_gate.specs.Gates.{GateValue}
use Rattle.store_model.specs.Data.{greatest_position, needs_block, range_written, spoils, write_of as write_by, written_contents}
use Rattle.store_model.specs.Machine.{MachineState, handle_at, session_at}
use Rattle.store_model.specs.Object.{Contents, Sound, changed_object}
use Rattle.store_model.specs.declared.event.Mark.TheVariants.{Made}
use Rattle.core_laws.proofs.ChangeCalls.{IsDone, write_commits, write_done}
use Rattle.core_laws.proofs.Mending.{some_same}
use Rattle.core_laws.proofs.StagedChanges.{writes_due}
use Rattle.core_laws.specs.Answered.{AreAnswered}
use Rattle.core_laws.specs.Given.{position_of}
use Rattle.core_laws.specs.TamperScenarios.{TamperScenario, object_under}
use Rattle.core_laws.specs.Shown.{IsGivenAt}
use Rattle.core_laws.specs.Masked.{told_taints}
use Rattle.disk_model.specs.Arms.{Taint}
use Rattle.object_slots.specs.GuardedStages.{IsMadeOverGiven}
use Rattle.core_laws.specs.Stores.{Store, replay_at}
use Rattle.tee_types.specs.Limits.{most_data_bytes}
use Rattle.tee_types.specs.declared.call.Call.{Call}
use Rattle.tee_types.specs.declared.call.Call.TheVariants.{Write}
use Rattle.tee_types.specs.declared.reply.Reply.TheVariants.{Done}

pub data_fits : (old position count : ℕ) → old ≤ 1044480 → position + count ≤ 1044480 → max old (position + count) ≤ 1044480
data_fits old position count small fits = omega arith

module _ {F R E : Type 0} (store : Store) (gate : GateValue F R) (knows : GateView) (closing : Option Closing) (caller : CallerSession E) (handle : ℕ) (found : OpenObject) (slot : SlotView) (v next : Version)
    (file : FileState) (root : RootRef) (bytes : List ℕ) (at_object : IsAtObject store gate knows closing caller handle found slot v) (may : MayWrite found.handle bytes)
    (told : told_taints file ≡ store.taints slot.file) (staged : IsStagedVersion store.keys file v next (write_of v.size found.handle.position bytes) root) where
  abbrev e : DirEntry
  e = found.held.entry

  size_own : v.size ≡ e.size
  size_own = (version_own store gate knows closing caller handle found slot v at_object).size

  few : next.size ≤ 1044480
  few =
      let small : e.size ≤ 1044480 = (at_object.entries.forms found.held.index e (entry_there store gate knows closing caller handle found slot v at_object)).size in
      let fits : max e.size (found.handle.position + length bytes) ≤ 1044480 = data_fits e.size found.handle.position (length bytes) small may.fits in
      subst (λ (n : ℕ). n ≤ 1044480) (sym (staged.follows.size ∙ ap (λ (n : ℕ). max n (found.handle.position + length bytes)) size_own)) fits

  abbrev write : Call
  write = Write handle bytes

  abbrev versions : TagVersions
  versions = change_versions v next

  low : nat_lt greatest_position (found.handle.position + length bytes) ≡ false
  low = le-ltb greatest_position (found.handle.position + length bytes) (let fits = may.fits in omega (arith, fits))

  fits : nat_lt most_data_bytes (found.handle.position + length bytes) ≡ false
  fits = le-ltb most_data_bytes (found.handle.position + length bytes) may.fits

  makes : IsCallChange (slice_index_or store.mounted.applications caller.number []) write gate.dir.dir.entries gate.counter (Put found.held.index (changed_entry e next))
  makes = put_next store gate knows closing caller handle found slot v at_object next staged.follows.app staged.follows.attributes staged.real staged.current few

  over : IsMadeOverGiven store.keys (store.taints slot.file) v next (write_of v.size found.handle.position bytes)
  over = subst (λ (t : Option (List Taint)). IsMadeOverGiven store.keys t v next (write_of v.size found.handle.position bytes)) told staged.follows.over

  -- Under a tamper scenario.
  module _ (scenario : TamperScenario) (answered : AreAnswered store scenario knows.all) where
    abbrev m : MachineState
    m = (replay_at store scenario knows.all).state

    live : handle_at (session_at m caller.number) handle ≡ Some found.handle
    live = live_here store gate knows closing caller handle found slot v at_object scenario answered

    on_write : IsCallOn m caller.number write gate.dir.dir.entries (Put found.held.index (changed_entry e next))
    on_write = (
      at_hand store gate knows closing caller handle found slot v at_object scenario answered,
      staged.follows.size ∙ ap (λ (n : ℕ). max n (found.handle.position + length bytes)) size_own,
    )

    abbrev given : IsGivenAt store scenario knows.all (file_record caller.number caller.made write Done (Made 0) slot versions)
    given =
        given_call store gate knows closing caller handle found slot v at_object scenario answered write Done (Made 0) versions found.handle.position refl
        (sym (ap position_of live)) over.0

    due_write : IsDueUnder store scenario knows.all caller.number write Done (Put found.held.index (changed_entry e next)) (tag_of slot versions)
        ⊎ EndsUnder store scenario knows.all caller.number caller.made write Done slot
    due_write =
        due_or_end store gate knows closing caller handle found slot v at_object next staged.follows.app staged.follows.attributes staged.real staged.current few write tt makes scenario answered on_write Done (Made 0) given
        (writes_due store scenario knows.all (file_record caller.number caller.made write Done (Made 0) slot versions) given (version_real store gate knows closing caller handle found slot v at_object) refl
        (mapped_here store gate knows closing caller handle found slot v at_object scenario answered) next handle bytes refl
        (record { handle = found.handle; live = live }, may.right, may.some, low, fits) staged.follows.size over.1)

    -- Over an honest file.
    module _ (now : IsTrue file.honest) (honest : is_in slot.file scenario.tampered ≡ false) where
      abbrev there : IsSoundAt m.objects found.handle.name
      there = held_here store gate knows closing caller handle found slot v at_object next staged.follows.app staged.follows.attributes staged.real staged.current few scenario answered honest

      abbrev c : Contents
      c = there.contents

      is_version : v.object ≡ Sound c
      is_version = version_here store gate knows closing caller handle found slot v at_object next staged.follows.app staged.follows.attributes staged.real staged.current few scenario answered honest

      long : length c.bytes ≡ v.size
      long = long_here store gate knows closing caller handle found slot v at_object next staged.follows.app staged.follows.attributes staged.real staged.current few scenario answered honest

      spares : spoils c (range_written c found.handle.position (length bytes)) ≡ false
      spares =
          (λ i. list_any (needs_block (long i) (min found.handle.position (long i)) (found.handle.position + length bytes)) c.bad)
          ∙ staged.spared now c is_version

      done : IsDone m found.handle (write_by m caller.number handle bytes) (written_contents c found.handle.position bytes)
      done = write_done m caller.number handle found.handle live may.right c there.is bytes may.some low fits spares

      next_stands : object_under store.keys scenario e.file e.generation next ≡ Sound (written_contents c found.handle.position bytes)
      next_stands =
          next_here store gate knows closing caller handle found slot v at_object next staged.follows.app staged.follows.attributes staged.real staged.current few scenario answered honest
          (written_contents c found.handle.position bytes) (staged.follows.object now c is_version)

      due_honest : IsDueUnder store scenario knows.all caller.number write Done (Put found.held.index (changed_entry e next)) (tag_of slot versions)
      due_honest = record {
        due = write_commits m caller.number handle found.handle live may.right c there.is bytes may.some low fits spares;
        replied = sym done.reply;
        object = λ w is.
            done.objects
            ∙ (λ i. changed_object m.objects (sym (entry_name store gate knows closing caller handle found slot v at_object) i) (sym next_stands i))
            ∙ ap (λ (x : Version). changed_object m.objects (name_of e) (object_under store.keys scenario e.file e.generation x)) (some_same next w is);
      }

pub writes_commit : (F R E : Type 0) → WritesMayCommit F R E
writes_commit F R E store gate knows closing caller handle found slot v next file root bytes at_object may told staged = record {
  ready = record {
    commit = commits_change store gate knows closing caller handle found slot v at_object next staged.follows.app staged.follows.attributes staged.real staged.current
        (few store gate knows closing caller handle found slot v next file root bytes at_object may told staged) (Write handle bytes)
        (makes store gate knows closing caller handle found slot v next file root bytes at_object may told staged);
    given = sym at_object.gives;
    current = entry_current store gate knows closing caller handle found slot v at_object;
    on = on_write store gate knows closing caller handle found slot v next file root bytes at_object may told staged;
    due = λ scenario answered off. due_write store gate knows closing caller handle found slot v next file root bytes at_object may told staged scenario answered;
  };
  honest = λ now scenario answered honest. due_honest store gate knows closing caller handle found slot v next file root bytes at_object may told staged scenario answered now honest;
}
