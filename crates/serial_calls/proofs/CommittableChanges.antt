-- A change that was staged is brought to the gate with the slot of its object.
use Rattle.std.proofs.Common.{List, None, Option, Some, ap, false, length, max, subst, sym, ℕ, ◌+◌, ◌==◌, ◌∙◌, ◌≡◌, ◌≤◌}
use Rattle.call_steps.specs.CallerSessions.{CallerSession}
use Rattle.call_rules.specs.Objects.{IsRightful}
use Rattle.call_rules.specs.declared.decision.OpenObject.{OpenObject}
use Rattle.serial_calls.specs.Renewed.{renewal, renewed_entry}
use Rattle.serial_calls.specs.ChangeStaging.{IsStagedChange, StagesChange, resizing, writing}
use Rattle.serial_calls.specs.declared.stage_result.Staged.TheVariants.{Root}
use Rattle.crash_core.specs.DirectoryLaws.{AreEntries}
use Rattle.crash_core.specs.declared.change.EntryChange.TheVariants.{Put}
use Rattle.dir_records.specs.declared.entry.DirEntry.{DirEntry}
use Rattle.history_seats.specs.Changes.{TagVersions}
use Rattle.history_seats.specs.Directory.{given_version}
use Rattle.history_seats.specs.Records.{Version}
use Rattle.history_seats.specs.Settling.{calm}
use Rattle.history_seats.specs.Views.{GateView, Sight, SlotView}
use Rattle.call_steps.specs.Commits.{IsCalm}
use Rattle.call_steps.specs.GuardedGates.{GateInvariant}
use Rattle.call_steps.specs.declared.Closing.{Closing}
use Rattle.call_steps.proofs.Contents.{seat_same}
use Rattle.call_steps.specs.KnownFor.{own_version}
use Rattle.call_steps.specs.GuardedSlots.{IsSlotOf}
use Rattle.call_steps.specs.GuardedStages.{IsStagedSlot, VersionChange, resize_of, write_of}
use Rattle.node_image.specs.declared.node.RootRef.{RootRef}
use Rattle.call_steps.proofs.Meetings.{own-seat}
use Rattle.call_steps.proofs.OwnAnswers.{whole-fits}
use Rattle.call_steps.specs.SlotCatchUp.{IsAtEntry}
use Rattle.call_steps.proofs.CommittableSlots.{staged_committable}
use Rattle.call_steps.proofs.Truncations.{truncations_commit}
use Rattle.call_steps.proofs.WriteCommits.{writes_commit}
use Rattle.call_steps.specs.AtObject.{IsAtObject}
use Rattle.call_steps.specs.ObjectCommits.{IsCommittable}
use Rattle.call_steps.specs.SlotCommits.{IsSlotCommit}
use Rattle.call_steps.specs.StagedVersions.{change_versions, changed_entry}
use Rattle.call_steps.specs.SlotValues.{SlotValue, without_stage}
use Rattle.call_steps.specs.Gates.{GateValue}
use Rattle.core_laws.specs.Masked.{told_taints}
use Rattle.core_laws.specs.Stores.{Store}
use Rattle.tee_types.specs.Rights.{write_bit}
use Rattle.tee_types.specs.declared.call.Call.TheVariants.{Truncate, Write}
use Rattle.tee_types.specs.declared.call.Call.{Call}
use Rattle.tee_types.specs.declared.reply.Reply.TheVariants.{Done}

module _ {F R E : Type 0} (store : Store) (gate : GateValue F R) (knows : GateView) (closing : Option Closing) (guarded : GateInvariant store gate knows closing) (are : AreEntries gate.dir.dir.entries)
    (idle : gate.doubt ≡ None) (s : CallerSession E) (calmly : IsCalm store knows s) (number : ℕ) (found : OpenObject) (rightful : IsRightful gate.dir.dir.entries s.state number write_bit found) (slot : SlotValue)
    (v : Version) (at : IsAtEntry knows slot found.held.entry v) (root : RootRef) where
  abbrev e : DirEntry
  e = found.held.entry

  abbrev seat : Sight SlotView
  seat = at.sees.seat

  sized : v.size ≡ e.size
  sized = at.own.size

  gives : own_version seat.knows ≡ calm (Some v)
  gives = ap (λ (x : Sight SlotView). own_version x.knows) (sym (seat_same at.gives.seat seat (sym at.gives.is ∙ at.sees.is))) ∙ at.gives.gives

  -- whatever the change is
  module _ (change : VersionChange) (stages : IsStagedChange store slot v change root) where
    abbrev next : Version
    next = stages.next

    mine : IsSlotOf store slot.number slot.file seat
    mine = own-seat store (record slot { holds = without_stage slot.holds }) seat at.sees.is stages.staged.before

    told_here : told_taints slot.file ≡ store.taints seat.knows.file
    told_here = mine.told ∙ ap store.taints (sym mine.own)

    seated : slot ≡ record slot { seat = Some seat }
    seated = λ i. record slot { seat = at.sees.is i }

    pub at_object : IsAtObject store gate knows closing s number found seat.knows v
    at_object = record {
      guarded = guarded;
      idle = idle;
      entries = are;
      calm = calmly;
      opened = rightful.opened;
      file = mine.own ∙ at.file;
      generation = at.generation;
      gives =
          (λ i. given_version (sym mine.mounted i) knows.all ((mine.own ∙ at.file) i) (at.generation i))
          ∙ at.given;
    }

    pub brings : (call : Call) → IsSlotCommit store knows gate.dir.dir.entries gate.counter s.number s.made call Done (Put found.held.index (changed_entry e next)) slot.file seat.knows (change_versions v next)
        → IsCommittable store gate knows slot s call Done (Put found.held.index (changed_entry e next)) (change_versions v next)
    brings call commit = record {
      seat = seat;
      is = at.sees.is;
      number = mine.own;
      commit = commit;
      committable = staged_committable store slot seat v next (subst (λ (x : SlotValue). IsStagedSlot store x next) seated stages.staged) gives;
      sees = record { sound = at.sound; fits = whole-fits store knows slot.number slot at.sees mine guarded.journal at.sound; whole = at.sees.whole };
    }

    -- the entry, by the reference and the size that are told
    renews : (size : ℕ) → next.size ≡ size → changed_entry e next ≡ renewed_entry e root size
    renews size is = λ i. record e { version = (stages.version.follows.root_is i).version; hash = (stages.version.follows.root_is i).hash; size = is i }

    pub brings_renewed : (size : ℕ) → next.size ≡ size → (call : Call)
        → IsSlotCommit store knows gate.dir.dir.entries gate.counter s.number s.made call Done (Put found.held.index (changed_entry e next)) slot.file seat.knows (change_versions v next)
        → (versions : TagVersions) × IsCommittable store gate knows slot s call Done (renewal found.held root size) versions
    brings_renewed size is call commit =
        (change_versions v next, subst (λ (x : DirEntry). IsCommittable store gate knows slot s call Done (Put found.held.index x) (change_versions v next)) (renews size is) (brings call commit))

  pub write_committable : (bytes : List ℕ) → (length bytes == 0) ≡ false → found.handle.position + length bytes ≤ 1044480
      → StagesChange store slot v (writing found.handle.position bytes) (Root root)
      → (versions : TagVersions) × IsCommittable store gate knows slot s (Write number bytes) Done (renewal found.held root (max e.size (found.handle.position + length bytes))) versions
  write_committable bytes some fits stages =
      let change : VersionChange = write_of v.size found.handle.position bytes in
      brings_renewed change stages (max e.size (found.handle.position + length bytes))
      (stages.version.follows.size ∙ ap (λ (n : ℕ). max n (found.handle.position + length bytes)) sized) (Write number bytes)
      (writes_commit F R E store gate knows closing s number found seat.knows v (next change stages) slot.file root bytes (at_object change stages)
      (record { right = rightful.has_right; some = some; fits = fits }) (told_here change stages) stages.version)

  pub truncate_committable : (size : ℕ) → (size == e.size) ≡ false → size ≤ 1044480 → StagesChange store slot v (resizing size) (Root root)
      → (versions : TagVersions) × IsCommittable store gate knows slot s (Truncate number size) Done (renewal found.held root size) versions
  truncate_committable size other fits stages =
      let change : VersionChange = resize_of v.size size in
      brings_renewed change stages size stages.version.follows.size (Truncate number size)
      (truncations_commit F R E store gate knows closing s number found seat.knows v (next change stages) slot.file root size (at_object change stages)
      (record { right = rightful.has_right; other = ap (λ (n : ℕ). size == n) sized ∙ other; fits = fits }) (told_here change stages) stages.version)
