-- The slot of a file that no entry names, with a new seat.
use Rattle.std.proofs.Common.{None, Option, Some, refl, subst, sym, ℕ, ◌+◌, ◌<◌, ◌∙◌, ◌≡◌}
use Rattle.call_steps.specs.Journals.{IsJournal}
use Rattle.serial_calls.proofs.ClearSlots.{own_of}
use Rattle.serial_calls.specs.Seating.{IsFreshSlot, IsVacant, file_reseated, unmade}
use Rattle.crash_core.specs.EntryLists.{IsUnnamed}
use Rattle.core_laws.specs.Ties.{IsTied}
use Rattle.history_seats.proofs.Keeping.{seen-whole, still_told}
use Rattle.history_seats.proofs.Numbers.{distinct-more, distinct-without, gone}
use Rattle.history_seats.specs.Changes.{together}
use Rattle.history_seats.specs.Numbers.{without}
use Rattle.history_seats.specs.Rule.{Agrees, IsSound}
use Rattle.history_seats.specs.Views.{GateView, Sight, SlotView}
use Rattle.call_steps.specs.GuardedGates.{GateInvariant}
use Rattle.call_steps.specs.declared.Closing.{Closing}
use Rattle.call_steps.specs.GuardedSlots.{IsSlotOf}
use Rattle.call_steps.proofs.NewFiles.{reseated}
use Rattle.call_steps.specs.CreateLaws.{IsReseated, new_seat}
use Rattle.call_steps.specs.SlotValues.{SlotValue}
use Rattle.rpmb_card.specs.Protocol.{last_counter}
use Rattle.call_steps.specs.Gates.{GateValue}
use Rattle.call_steps.specs.declared.DoubtedChange.{DoubtedChange}
use Rattle.store_model.specs.Record.{concerns_file}
use Rattle.core_laws.specs.Stores.{Store}

-- the gate's view is sound, whatever seats are out
pub reseated_sound : (store : Store) (knows : GateView) (file : ℕ) → IsJournal store knows → IsSound knows → IsSound (file_reseated store file knows)
reseated_sound store knows file journal sound = record {
  decided_within = sound.decided_within;
  decided_below = sound.decided_below;
  tags_right = λ mounted is. sound.tags_right mounted (journal.mounted ∙ sym (still_told knows.mounted store.mounted store.mounted journal.mounted) ∙ is);
  tagged = sound.tagged;
  numbered = sound.numbered;
  files_distinct = distinct-more file (without file knows.files) (gone file knows.files sound.files_distinct) (distinct-without file knows.files sound.files_distinct);
  sessions_distinct = sound.sessions_distinct;
}

-- the seat that such a slot has is of its file
pub seated_own : (store : Store) (slot : SlotValue) → IsVacant store slot → (lent : Sight SlotView) → slot.seat ≡ Some lent → lent.knows.file ≡ slot.number
seated_own store slot empty lent is = (own_of store (unmade slot) empty.guarded lent is).own

-- A slot's old seat is taken in, and a new one is split.
module _ {F R : Type 0} (store : Store) (gate : GateValue F R) (knows : GateView) (closing : Option Closing) (guarded : GateInvariant store gate knows closing) (idle : gate.doubt ≡ None) (slot : SlotValue)
    (unnamed : IsUnnamed gate.dir.dir.entries slot.number) (empty : IsVacant store slot) (old : Sight SlotView) (lent : slot.seat ≡ Some old) (agreed : Agrees (together knows (Some old.knows) None)) (generation : ℕ)
    (next : gate.counter < last_counter → generation ≡ gate.counter + 1) where
  abbrev pub fresh_slot : SlotValue
  fresh_slot = record slot { seat = Some (new_seat store knows slot.number generation) }

  own : IsSlotOf store slot.number slot.file old
  own = own_of store (unmade slot) empty.guarded old lent

  tied : IsTied store knows gate.dir.dir.entries gate.counter None
  tied = subst (λ (d : Option DoubtedChange). IsTied store knows gate.dir.dir.entries gate.counter d) idle guarded.tied

  sits : IsReseated store (unmade slot) (new_seat store knows slot.number generation)
  sits =
      reseated store knows gate.dir.dir.entries gate.counter guarded.journal tied (unmade slot) old generation unnamed own (agreed.slot old.knows refl).0 empty.vacant empty.settled

  sound : IsSound (file_reseated store slot.number knows)
  sound = reseated_sound store knows slot.number guarded.journal agreed.gate

  pub seated_fresh : IsFreshSlot store (file_reseated store slot.number knows) gate.counter fresh_slot
  seated_fresh = record {
    empty = record { guarded = sits.guarded; vacant = empty.vacant; settled = empty.settled };
    seat = new_seat store knows slot.number generation;
    is = refl;
    sees = record {
      sound = sound;
      fits = record {
        sees = seen-whole (concerns_file slot.number) (file_reseated store slot.number knows) sound.decided_within sound.decided_below;
        mounted = refl;
      };
      whole = refl;
    };
    next = next;
  }
