-- The slot of a file that no entry names, once it was shown the history and let go of what it held.
use Rattle.std.proofs.Common.{None, Option, Some, ap, refl, subst, sym, unwrap_or, ◌∙◌, ◌≡◌}
use Rattle.call_steps.specs.CallerSessions.{CallerSession}
use Rattle.call_steps.specs.SessionViews.{doubt_learnt, pass_shown, shown, state_learnt}
use Rattle.serial_calls.specs.Clearing.{IsClearSlot}
use Rattle.crash_core.specs.EntryLists.{IsUnnamed}
use Rattle.core_laws.specs.Ties.{IsTied}
use Rattle.history_seats.specs.Changes.{slot_renewed, together}
use Rattle.history_seats.specs.Mounts.{Mounted}
use Rattle.history_seats.specs.Rule.{Agrees}
use Rattle.history_seats.specs.Views.{GateView, PassView, Sight, SlotView}
use Rattle.call_steps.specs.Commits.{IsCalm}
use Rattle.call_steps.specs.GuardedGates.{GateInvariant}
use Rattle.call_steps.specs.declared.Closing.{Closing}
use Rattle.call_steps.proofs.Contents.{seat_same}
use Rattle.call_steps.specs.GuardedSlots.{SlotInvariant, IsSlotOf}
use Rattle.call_steps.proofs.NewFiles.{reseated}
use Rattle.call_steps.specs.CreateLaws.{IsReseated, new_seat}
use Rattle.call_steps.specs.SlotValues.{IsFree, SlotValue, free}
use Rattle.call_steps.specs.Gates.{GateValue}
use Rattle.call_steps.specs.declared.DoubtedChange.{DoubtedChange}
use Rattle.core_laws.specs.Stores.{Store}

pub own_of : (store : Store) (slot : SlotValue) → SlotInvariant store slot → (lent : Sight SlotView) → slot.seat ≡ Some lent → IsSlotOf store slot.number slot.file lent
own_of store slot was lent is = subst (IsSlotOf store slot.number slot.file) (seat_same was.seat lent (sym was.is ∙ is)) was.own

-- A slot whose seat is shown the history.
module _ {F R : Type 0} (store : Store) (gate : GateValue F R) (knows : GateView) (closing : Option Closing) (guarded : GateInvariant store gate knows closing) (idle : gate.doubt ≡ None) (slot : SlotValue)
    (unnamed : IsUnnamed gate.dir.dir.entries slot.number) (was : SlotInvariant store slot) (old : Sight SlotView) (lent : slot.seat ≡ Some old) (pass : Option PassView)
    (agreed : Agrees (together knows (Some old.knows) pass)) where
  abbrev pub seat_shown : Sight SlotView
  seat_shown = record old { knows = slot_renewed knows old.knows }

  abbrev pub clear_slot : SlotValue
  clear_slot = record slot { seat = Some seat_shown; holds = free; doubt = None }

  own : IsSlotOf store slot.number slot.file old
  own = own_of store slot was old lent

  tied : IsTied store knows gate.dir.dir.entries gate.counter None
  tied = subst (λ (d : Option DoubtedChange). IsTied store knows gate.dir.dir.entries gate.counter d) idle guarded.tied

  -- it is as a new seat of its own generation
  shown_new : new_seat store knows slot.number old.knows.generation ≡ seat_shown
  shown_new =
      let mounted : unwrap_or knows.mounted store.mounted ≡ old.knows.mounted = ap (λ (o : Option Mounted). unwrap_or o store.mounted) guarded.journal.mounted ∙ sym own.mounted in
      λ i. record {
        table = sym own.table i;
        knows = record {
          mounted = mounted i;
          seen = knows.all;
          decided = knows.decided;
          file = sym own.own i;
          generation = old.knows.generation;
        };
      }

  sits : IsReseated store (record slot { holds = free; doubt = None }) (new_seat store knows slot.number old.knows.generation)
  sits =
      reseated store knows gate.dir.dir.entries gate.counter guarded.journal tied (record slot { holds = free; doubt = None }) old old.knows.generation unnamed own
      (agreed.slot old.knows refl).0 tt refl

  sits_shown : IsReseated store (record slot { holds = free; doubt = None }) seat_shown
  sits_shown = subst (IsReseated store (record slot { holds = free; doubt = None })) shown_new sits

  pub shown_clear : IsClearSlot store clear_slot
  shown_clear = record { guarded = sits_shown.guarded; vacant = tt; settled = refl; nothing = sits_shown.nothing }

-- A clear slot in which nothing was made is clear still.
pub still_clear : (store : Store) (old new : SlotValue) → new ≡ record old { file = new.file; holds = new.holds } → SlotInvariant store new → IsFree new.holds → IsClearSlot store old → IsClearSlot store new
still_clear store old new same guarded vacant clear = record {
  guarded = guarded;
  vacant = vacant;
  settled = ap (λ (s : SlotValue). s.doubt) same ∙ clear.settled;
  nothing = λ seat is v known. clear.nothing seat (sym (ap (λ (s : SlotValue). s.seat) same) ∙ is) v known;
}

-- A session that sees the whole history stays as it is when it is shown that.
pub shown_calm : {E : Type 0} (store : Store) (knows : GateView) (s : CallerSession E) → IsCalm store knows s → shown knows s ≡ s
shown_calm store knows s calm =
    let seat : Sight PassView = calm.sees.seat in
    let pass : pass_shown knows s.pass ≡ s.pass =
    ap (pass_shown knows) calm.sees.is ∙ (λ i. Some (record { table = seat.table; knows = record seat.knows { seen = sym calm.sees.whole i; decided = sym calm.sees.place i } })) ∙ sym calm.sees.is in
    let state : state_learnt knows s.state s.doubt ≡ s.state = ap (state_learnt knows s.state) calm.settled in
    let doubt : doubt_learnt knows s.doubt ≡ s.doubt = ap (doubt_learnt knows) calm.settled ∙ sym calm.settled in
    λ i. record {
      pass = pass i;
      number = s.number;
      made = s.made;
      state = state i;
      doubt = doubt i;
      entropy = s.entropy;
    }
