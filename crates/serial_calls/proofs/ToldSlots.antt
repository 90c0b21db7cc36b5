-- The slot of a create whose object is not made, behind the event that tells so.
use Rattle.std.proofs.Common.{None, Option, Some, ap, refl, subst, sym, ℕ, ◌∙◌, ◌≡◌}
use Rattle.call_steps.specs.JournalCalls.{IsMovedBy}
use Rattle.call_steps.specs.CallerSessions.{CallerSession}
use Rattle.serial_calls.proofs.CreateToldCalls.{told_legal, told_may, told_moves}
use Rattle.serial_calls.specs.Rules.{IsCreate, MakesByRule}
use Rattle.serial_calls.specs.Seating.{IsFreshSlot, unmade}
use Rattle.serial_calls.specs.CreateFailure.{MayTell, reply_unmade}
use Rattle.serial_calls.specs.declared.create_failure.CreateFailure.{CreateFailure}
use Rattle.crash_core.specs.DirectoryLaws.{AreEntries}
use Rattle.crash_core.specs.EntryLists.{IsUnnamed}
use Rattle.disk_model.specs.State.{FileState}
use Rattle.history_seats.specs.Changes.{TagVersions}
use Rattle.history_seats.specs.Mounts.{Mounted}
use Rattle.history_seats.specs.Records.{HistoryRecord, Version}
use Rattle.history_seats.specs.Settling.{calm}
use Rattle.history_seats.specs.Tags.{HasRightTag}
use Rattle.history_seats.specs.Views.{GateView, Sight, SlotView}
use Rattle.hmac_keys.specs.declared.Keys.{Keys}
use Rattle.call_steps.proofs.ReadyCommits.{unmade_tag}
use Rattle.call_steps.specs.Commits.{IsCalm}
use Rattle.call_steps.specs.GuardedGates.{GateInvariant}
use Rattle.call_steps.specs.SlotAnswers.{MayBeTold, slot_record, versions_given}
use Rattle.call_steps.specs.declared.Closing.{Closing}
use Rattle.call_steps.proofs.Contents.{seat_same}
use Rattle.call_steps.proofs.OwnRecords.{own_after}
use Rattle.call_steps.specs.KnownFor.{own_version}
use Rattle.call_steps.specs.GuardedSlots.{IsContentOf, SlotInvariant, IsSlotOf}
use Rattle.call_steps.specs.SlotObjects.{IsOfVersion}
use Rattle.call_steps.specs.OwnEvents.{IsOwnEvent, seat_after}
use Rattle.call_steps.proofs.SlotEnds.{unmade_gives}
use Rattle.call_steps.specs.SlotValues.{Holding, IsFree, SlotValue, free, live, made, staged, without_stage}
use Rattle.call_steps.specs.Gates.{GateValue}
use Rattle.store_model.specs.declared.event.Event.{Event}
use Rattle.store_model.specs.declared.event.Event.TheVariants.{Call as CallEvent}
use Rattle.store_model.specs.declared.event.Mark.TheVariants.{Unchanged}
use Rattle.core_laws.specs.Stores.{Store}
use Rattle.tee_types.specs.declared.call.Call.{Call}

-- what holds nothing is of any version
vacant_holds : (keys : Keys) (file : FileState) (holds : Holding) (version : Option Version) → IsFree holds → IsOfVersion keys file holds version
vacant_holds keys file free version is = tt
vacant_holds keys file (live o) version is = absurd is
vacant_holds keys file (made o) version is = absurd is
vacant_holds keys file (staged o s) version is = absurd is

module _ {F R E : Type 0} (store : Store) (gate : GateValue F R) (knows : GateView) (closing : Option Closing) (guarded : GateInvariant store gate knows closing) (idle : gate.doubt ≡ None)
    (are : AreEntries gate.dir.dir.entries) (caller : CallerSession E) (calmed : IsCalm store knows caller) (call : Call) (create : IsCreate call)
    (makes : MakesByRule gate.dir.dir.entries gate.open_handles caller.state call) (slot : SlotValue) (unnamed : IsUnnamed gate.dir.dir.entries slot.number) (fresh : IsFreshSlot store knows gate.counter slot)
    (vacant : IsFree slot.holds) (why : CreateFailure) (may : MayTell gate.counter slot.number why) where
  abbrev seat : Sight SlotView
  seat = fresh.seat

  abbrev guarded_slot : SlotInvariant store (unmade slot)
  guarded_slot = fresh.empty.guarded

  same_seat : guarded_slot.seat ≡ seat
  same_seat = seat_same guarded_slot.seat seat (sym guarded_slot.is ∙ fresh.is)

  own_fresh : IsSlotOf store slot.number slot.file seat
  own_fresh = subst (IsSlotOf store slot.number slot.file) same_seat guarded_slot.own

  abbrev event : Event
  event = CallEvent caller.number caller.made call (reply_unmade why) Unchanged

  abbrev versions : TagVersions
  versions = versions_given store knows seat.knows

  abbrev r : HistoryRecord
  r = slot_record store knows seat.knows caller.number caller.made call (reply_unmade why)

  unnamed_view : IsUnnamed gate.dir.dir.entries seat.knows.file
  unnamed_view = subst (IsUnnamed gate.dir.dir.entries) (sym own_fresh.own) unnamed

  may_view : MayTell gate.counter seat.knows.file why
  may_view = subst (λ (n : ℕ). MayTell gate.counter n why) (sym own_fresh.own) may

  pub told_may_view : MayBeTold store gate.doubt gate.dir.dir.entries knows seat.knows caller.number caller.made call (reply_unmade why)
  told_may_view = told_may store gate knows closing guarded idle are caller calmed call create makes seat.knows unnamed_view why may_view

  pub told_moves_view : IsMovedBy store knows r caller
  told_moves_view = told_moves store gate knows closing guarded idle are caller calmed call create makes seat.knows unnamed_view why may_view

  own_event : IsOwnEvent store knows slot.number slot.file seat event versions
  own_event = record {
    sound = fresh.sees.sound;
    fits = fresh.sees.fits;
    on_a_call = refl;
    right =
        subst (λ (m : Mounted). HasRightTag m knows.all r) (sym own_fresh.mounted)
        (unmade_tag store knows caller.number caller.made call (reply_unmade why) seat.knows versions refl);
    real = λ v known. absurd known;
    stands = λ honest v known. absurd known;
    masked = λ v known. absurd known;
    legal = λ honest scenario off answered.
        told_legal store gate knows closing guarded idle are caller calmed call create makes seat.knows unnamed_view why may_view scenario answered;
  }

  -- its view gives some version, which no doubt touches
  given_calm : (doubt : Option ℕ) → doubt ≡ None → IsContentOf store.keys slot.file guarded_slot.seat.knows (without_stage slot.holds) doubt → (version : Option Version) × (own_version seat.knows ≡ calm version)
  given_calm None none content = (content.version, ap (λ (s : Sight SlotView). own_version s.knows) (sym same_seat) ∙ content.gives)
  given_calm (Some place) none content = let off : ⊥ = cc (none) in absurd off

  -- so it may stand behind its lock again, with its seat as the event leaves that
  pub told_keeps : SlotInvariant store (record slot { seat = Some (seat_after knows seat event versions) })
  told_keeps =
      let before = given_calm slot.doubt fresh.empty.settled guarded_slot.content in
      record {
        seat = seat_after knows seat event versions;
        is = refl;
        own = own_after store knows slot.number slot.file seat event versions own_event own_fresh;
        content = subst (IsContentOf store.keys slot.file (seat_after knows seat event versions).knows slot.holds) (sym fresh.empty.settled) (record {
          version = versions.committed;
          gives = unmade_gives store knows slot.number slot.file seat caller.number caller.made call (reply_unmade why) versions own_event fresh.sees.whole before.0 before.1;
          holding = vacant_holds store.keys slot.file slot.holds versions.committed vacant;
        });
      }
