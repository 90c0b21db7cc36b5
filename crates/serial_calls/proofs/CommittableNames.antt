-- A rename and a delete of an open object, as they are brought to the gate with its slot.
use Rattle.std.proofs.Common.{◌≡◌, ◌∙◌, ℕ, List, Option, None, Some, sym, ap, subst}
use Rattle.call_steps.specs.CallerSessions.{CallerSession}
use Rattle.call_rules.specs.Objects.{IsOpenObject}
use Rattle.call_rules.specs.declared.decision.OpenObject.{OpenObject}
use Rattle.crash_core.specs.DirectoryLaws.{AreEntries}
use Rattle.crash_core.specs.declared.change.EntryChange.TheVariants.{Clear, Put}
use Rattle.call_steps.specs.Index.{named}
use Rattle.dir_records.specs.declared.entry.DirEntry.{DirEntry}
use Rattle.history_seats.specs.Directory.{given_version}
use Rattle.history_seats.specs.Mounts.{Mounted}
use Rattle.history_seats.specs.Records.{Version}
use Rattle.history_seats.specs.Settling.{calm}
use Rattle.history_seats.specs.Views.{GateView, Sight, SlotView}
use Rattle.call_steps.specs.Commits.{IsCalm}
use Rattle.call_steps.specs.GuardedGates.{GateInvariant}
use Rattle.call_steps.specs.declared.Closing.{Closing}
use Rattle.call_steps.proofs.Contents.{gives_seat, seat_same, settled_now}
use Rattle.call_steps.specs.KnownFor.{own_version}
use Rattle.call_steps.specs.GuardedSlots.{IsContentOf, SlotInvariant, IsSlotOf}
use Rattle.call_steps.specs.SlotObjects.{IsOfVersion}
use Rattle.call_steps.proofs.Meetings.{own-seat}
use Rattle.call_steps.proofs.OwnAnswers.{whole-fits}
use Rattle.call_steps.specs.SlotCatchUp.{IsAtEntry}
use Rattle.call_steps.proofs.NameCommits.{deletes_commit, renames_commit}
use Rattle.call_steps.proofs.WholeSlots.{whole_committable}
use Rattle.call_steps.specs.AtObject.{IsAtObject}
use Rattle.call_steps.specs.ObjectCommits.{IsCommittable}
use Rattle.call_steps.specs.CommittableSlots.{SeesWhole}
use Rattle.call_steps.specs.NameLaws.{IsDoneByRule, cleared_versions, kept_versions, renamed_entry}
use Rattle.call_steps.specs.SlotValues.{HasNoStage, Holding, SlotValue, free, live, made, staged}
use Rattle.call_steps.specs.Gates.{GateValue}
use Rattle.call_steps.specs.EntryNames.{IsEntryNamed}
use Rattle.core_laws.proofs.Mending.{none_some}
use Rattle.core_laws.specs.Stores.{Store}
use Rattle.tee_types.specs.declared.call.Call.TheVariants.{Delete, Rename}
use Rattle.tee_types.specs.declared.reply.Reply.TheVariants.{Done}

-- A slot at an entry has no stage, and may let its object go.
module _ (store : Store) (knows : GateView) (slot : SlotValue) (own : SlotInvariant store slot) (e : DirEntry) (v : Version) (at : IsAtEntry knows slot e v) where
  unstaged : (holds : Holding) → IsOfVersion store.keys slot.file holds (Some v) → HasNoStage holds
  unstaged free of = tt
  unstaged (live o) of = tt
  unstaged (made o) of = absurd of
  unstaged (staged o s) of = absurd of

  pub no-stage : HasNoStage slot.holds
  no-stage = unstaged slot.holds (settled_now store.keys slot.file own.seat.knows v (gives_seat store slot v own at.gives) slot.holds slot.doubt own.content).1

  emptied : (doubt : Option ℕ) → doubt ≡ None → IsContentOf store.keys slot.file own.seat.knows slot.holds doubt → IsContentOf store.keys slot.file own.seat.knows free doubt
  emptied None none content = record { version = content.version; gives = content.gives; holding = tt }
  emptied (Some place) none content = absurd (none_some place (sym none))

  pub free-guarded : SlotInvariant store (record slot { holds = free })
  free-guarded = record { seat = own.seat; is = own.is; own = own.own; content = emptied slot.doubt at.settled own.content }

-- The slot of an open object's file, at the object's entry.
module _ {F R E : Type 0} (store : Store) (gate : GateValue F R) (knows : GateView) (closing : Option Closing) (guarded : GateInvariant store gate knows closing) (entries : AreEntries gate.dir.dir.entries)
    (idle : gate.doubt ≡ None) (caller : CallerSession E) (calmly : IsCalm store knows caller) (handle : ℕ) (found : OpenObject) (opened : IsOpenObject gate.dir.dir.entries caller.state handle found)
    (slot : SlotValue) (own : SlotInvariant store slot) (v : Version) (at : IsAtEntry knows slot found.held.entry v) where
  abbrev e : DirEntry
  e = found.held.entry

  abbrev seat : Sight SlotView
  seat = at.sees.seat

  mine : IsSlotOf store slot.number slot.file seat
  mine = own-seat store slot seat at.sees.is own

  file-is : seat.knows.file ≡ e.file
  file-is = mine.own ∙ at.file

  given-now : given_version store.mounted knows.all seat.knows.file seat.knows.generation ≡ Some v
  given-now =
      (λ i. given_version store.mounted knows.all (file-is i) (at.generation i))
      ∙ ap (λ (m : Mounted). given_version m knows.all e.file e.generation) (sym mine.mounted)
      ∙ at.given

  at-object : IsAtObject store gate knows closing caller handle found seat.knows v
  at-object = record {
    guarded = guarded;
    idle = idle;
    entries = entries;
    calm = calmly;
    opened = opened;
    file = file-is;
    generation = at.generation;
    gives = given-now;
  }

  sees-whole : SeesWhole knows seat
  sees-whole = record { sound = at.sound; fits = whole-fits store knows slot.number slot at.sees mine guarded.journal at.sound; whole = at.sees.whole }

  gives-own : own_version seat.knows ≡ calm (Some v)
  gives-own = ap (λ (s : Sight SlotView). own_version s.knows) (seat_same seat at.gives.seat (sym at.sees.is ∙ at.gives.is)) ∙ at.gives.gives

  -- with that seat the slot may stand behind its lock
  seated : (holds : Holding) → SlotInvariant store (record slot { holds = holds }) → SlotInvariant store (record slot { seat = Some seat; holds = holds })
  seated holds is = subst (λ (o : Option (Sight SlotView)). SlotInvariant store (record slot { seat = o; holds = holds })) at.sees.is is

  pub rename-committable : (id : List ℕ) → IsDoneByRule gate caller found (Rename handle id) → IsEntryNamed gate.dir.dir.entries (named caller.state.application id) None
      → e.app ≡ caller.state.application
      → IsCommittable store gate knows slot caller (Rename handle id) Done (Put found.held.index (renamed_entry e id)) (kept_versions v)
  rename-committable id rule unnamed app = record {
    seat = seat;
    is = at.sees.is;
    number = mine.own;
    commit = renames_commit F R E store gate knows closing caller handle found seat.knows v slot.file id at-object rule unnamed app;
    committable = whole_committable.kept store knows slot seat v (seated slot.holds own) at.settled sees-whole gives-own given-now;
    sees = sees-whole;
  }

  pub delete-committable : IsDoneByRule gate caller found (Delete handle)
      → IsCommittable store gate knows (record slot { holds = free }) caller (Delete handle) Done (Clear found.held.index) (cleared_versions v)
  delete-committable rule = record {
    seat = seat;
    is = at.sees.is;
    number = mine.own;
    commit = deletes_commit F R E store gate knows closing caller handle found seat.knows v slot.file at-object rule;
    committable = whole_committable.freed store (record slot { holds = free }) seat v (seated free (free-guarded store knows slot own e v at)) at.settled tt;
    sees = sees-whole;
  }
