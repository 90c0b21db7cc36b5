-- An object that was made may be brought to the gate, with the slot's new seat.
use Rattle.std.proofs.Common.{List, None, Option, Some, subst, sym, ℕ, ◌+◌, ◌<◌, ◌∙◌, ◌≡◌}
use Rattle.std.specs.Prelude.{IfSome, length}
use Rattle.call_steps.specs.CallerSessions.{CallerSession}
use Rattle.call_rules.specs.declared.decision.NewPlace.{NewPlace}
use Rattle.serial_calls.proofs.ClearSlots.{own_of}
use Rattle.serial_calls.specs.ObjectMaking.{IsMadeSlot, entry_by}
use Rattle.serial_calls.specs.FileReserving.{IsReserved}
use Rattle.serial_calls.specs.Rules.{MayCreate, NewObject, create_call}
use Rattle.serial_calls.specs.Seating.{IsFreshSlot, unmade}
use Rattle.crash_core.specs.DirectoryLaws.{AreEntries}
use Rattle.crash_core.specs.declared.change.EntryChange.TheVariants.{Put}
use Rattle.crash_core.specs.EntryLists.{IsUnnamed}
use Rattle.dir_records.specs.declared.entry.DirEntry.{DirEntry}
use Rattle.history_seats.specs.Views.{GateView, Sight, SlotView}
use Rattle.call_steps.specs.Commits.{IsCalm}
use Rattle.call_steps.specs.GuardedGates.{GateInvariant}
use Rattle.call_steps.specs.declared.Closing.{Closing}
use Rattle.call_steps.specs.GuardedSlots.{SlotInvariant, IsSlotOf}
use Rattle.call_steps.specs.GuardedStages.{IsStagedSlot}
use Rattle.call_steps.proofs.Creates.{creates_commit}
use Rattle.call_steps.proofs.NewFiles.{new_committable}
use Rattle.call_steps.specs.ObjectCommits.{IsCommittable}
use Rattle.call_steps.specs.CreateLaws.{IsAtPlace, index_of_place, new_entry, new_versions}
use Rattle.call_steps.specs.SlotValues.{SlotValue}
use Rattle.rpmb_card.specs.Protocol.{last_counter}
use Rattle.node_image.specs.declared.node.RootRef.{RootRef}
use Rattle.call_steps.specs.Gates.{GateValue}
use Rattle.core_laws.specs.Stores.{Store}
use Rattle.tee_types.specs.Limits.{IsObjectFile}
use Rattle.tee_types.specs.declared.reply.Reply.TheVariants.{Handle}

module _ {F R E : Type 0} (store : Store) (gate : GateValue F R) (knows : GateView) (closing : Option Closing) (guarded : GateInvariant store gate knows closing) (idle : gate.doubt ≡ None)
    (are : AreEntries gate.dir.dir.entries) (caller : CallerSession E) (calm : IsCalm store knows caller) (object : NewObject) (place : NewPlace)
    (may : MayCreate gate.dir.dir.entries gate.open_handles caller.state object place) (slot : SlotValue) (reserved : IsReserved gate caller.number slot.number) (root : RootRef)
    (made : IsMadeSlot store slot caller.state.application object.attributes object.bytes root) (fresh : IsFreshSlot store knows gate.counter slot) (low : gate.counter < last_counter) where
  abbrev pub view : SlotView
  view = fresh.seat.knows

  own : IsSlotOf store slot.number slot.file fresh.seat
  own = own_of store (unmade slot) fresh.empty.guarded fresh.seat fresh.is

  pub view_file : view.file ≡ slot.number
  view_file = own.own

  pub view_generation : view.generation ≡ gate.counter + 1
  view_generation = fresh.next low

  -- the entry is that of the version that was made
  pub committable_entry : (app : List ℕ) (entry : DirEntry) → app ≡ caller.state.application
      → IfSome slot.seat (λ (seat : Sight SlotView). entry ≡ entry_by app object.id root slot.number seat.knows.generation (length object.attributes) (length object.bytes))
      → entry ≡ new_entry caller.state.application object.id view made.next
  committable_entry app entry is named =
      let here : entry ≡ entry_by app object.id root slot.number view.generation (length object.attributes) (length object.bytes) =
      subst (λ (o : Option (Sight SlotView)). IfSome o (λ (x : Sight SlotView). entry ≡ entry_by app object.id root slot.number x.knows.generation (length object.attributes) (length object.bytes))) fresh.is named in
      here ∙ (λ i. entry_by (is i) object.id (sym made.of.root_is i) (sym own.own i) view.generation (sym made.of.long i) (sym made.of.size i))

  at_place : IsAtPlace store gate knows closing caller object.id object.flags object.attributes object.bytes place view
  at_place = record {
    guarded = guarded;
    idle = idle;
    entries = are;
    calm = calm;
    rule = may.rule;
    place_is = may.place_is;
    unnamed = subst (IsUnnamed gate.dir.dir.entries) (sym own.own) reserved.unnamed;
    numbered = subst IsObjectFile (sym own.own) reserved.numbered;
    generation = view_generation;
    short = may.short;
    few = may.few;
  }

  -- what was made stands in the slot with its new seat
  staged : IsStagedSlot store (record slot { seat = Some fresh.seat }) made.next
  staged = record {
    has = made.staged.has;
    calm = made.staged.calm;
    before = subst (λ (o : Option (Sight SlotView)). SlotInvariant store (record (unmade slot) { seat = o })) fresh.is fresh.empty.guarded;
    after = made.staged.after;
  }

  pub made_committable : IsCommittable store gate knows slot caller (create_call object) (Handle caller.state.next_handle)
      (Put (index_of_place place) (new_entry caller.state.application object.id view made.next)) (new_versions made.next)
  made_committable = record {
    seat = fresh.seat;
    is = fresh.is;
    number = own.own;
    commit = creates_commit F R E store gate knows closing caller object.id object.flags object.attributes object.bytes place view made.next root slot.file at_place made.of made.real made.current;
    committable = new_committable store slot fresh.seat made.next staged made.vacant;
    sees = fresh.sees;
  }
