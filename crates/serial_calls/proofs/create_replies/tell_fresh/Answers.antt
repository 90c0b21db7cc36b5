-- Why the object was not made may be told, and the slot may stand behind its lock again.
use Rattle.std.proofs.Common.{Some, ap, subst, sym, ◌∙◌, ◌≡◌}
use Rattle.call_steps.specs.JournalCalls.{IsMovedBy}
use Rattle.serial_calls.proofs.ToldSlots.{told_keeps, told_may_view, told_moves_view}
use Rattle.serial_calls.proofs.create_replies.tell_fresh.Goals as goal
use Rattle.serial_calls.specs.CreateFailure.{reply_unmade}
use Rattle.history_seats.specs.Changes.{slot_renewed}
use Rattle.history_seats.specs.Views.{GateView, Sight, SlotView}
use Rattle.call_steps.specs.SlotAnswers.{MayBeTold, slot_record, versions_given}
use Rattle.call_steps.proofs.Contents.{seat_same}
use Rattle.call_steps.proofs.Meetings.{own-seat}
use Rattle.call_steps.proofs.ServedCalls.{answer-served}
use Rattle.call_steps.specs.CallerSessions.{CallerSession}
use Rattle.serial_calls.specs.Seating.{unmade}
use Rattle.call_steps.proofs.SlotViews.{shown_whole}
use Rattle.call_steps.specs.GuardedSlots.{SlotInvariant}
use Rattle.call_steps.specs.OwnEvents.{seat_after}
use Rattle.call_steps.specs.SlotValues.{SlotValue}
use Rattle.store_model.specs.declared.event.Event.TheVariants.{Call as CallEvent}
use Rattle.store_model.specs.declared.event.Mark.TheVariants.{Unchanged}
use Rattle.tee_types.specs.declared.reply.Reply.{Reply}

pub answer_with-place-requires-clause-told : goal.answer_with-place-requires-clause-told
answer_with-place-requires-clause-told g c =
    let store = g.L.StoreName.store in
    let gate = c.args.gate.now in
    let knows = gate.journal.knows in
    let s = c.args.session.now in
    let fresh = c.requires.fresh in
    let lent : c.lend_seat-seat.result ≡ fresh.seat = seat_same c.lend_seat-seat.result fresh.seat (sym c.lend_seat-seat.ensures.seat ∙ fresh.is) in
    subst (λ (p : Sight SlotView × Reply). MayBeTold store gate.gate.doubt gate.gate.dir.dir.entries knows p.0.knows s.number s.made c.args.call p.1)
    (λ i. (sym lent i, sym c.reply.ensures i))
    (told_may_view store gate.gate knows gate.closing c.reveal_invariant.ensures.guarded c.requires.idle c.reveal_invariant.ensures.entries s c.requires.calm c.args.call c.requires.create c.requires.makes
    c.args.slot.now c.requires.unnamed fresh c.requires.vacant c.args.why c.requires.may)

pub answer_with-place-requires-clause-moved : goal.answer_with-place-requires-clause-moved
answer_with-place-requires-clause-moved g c =
    let store = g.L.StoreName.store in
    let gate = c.args.gate.now in
    let knows = gate.journal.knows in
    let s = c.args.session.now in
    let fresh = c.requires.fresh in
    let lent : c.lend_seat-seat.result ≡ fresh.seat = seat_same c.lend_seat-seat.result fresh.seat (sym c.lend_seat-seat.ensures.seat ∙ fresh.is) in
    subst (λ (p : Sight SlotView × Reply). IsMovedBy store knows (slot_record store knows p.0.knows s.number s.made c.args.call p.1) s)
    (λ i. (sym lent i, sym c.reply.ensures i))
    (told_moves_view store gate.gate knows gate.closing c.reveal_invariant.ensures.guarded c.requires.idle c.reveal_invariant.ensures.entries s c.requires.calm c.args.call c.requires.create c.requires.makes
    c.args.slot.now c.requires.unnamed fresh c.requires.vacant c.args.why c.requires.may)

pub returns-clause-guarded : goal.returns-clause-guarded
returns-clause-guarded g c =
    let store = g.L.StoreName.store in
    let gate = c.args.gate.now in
    let knows = gate.journal.knows in
    let slot = c.args.slot.now in
    let s = c.args.session.now in
    let call = c.args.call in
    let fresh = c.requires.fresh in
    let lent = c.lend_seat-seat.result in
    let seat : lent ≡ fresh.seat = seat_same lent fresh.seat (sym c.lend_seat-seat.ensures.seat ∙ fresh.is) in
    let after : Sight SlotView = seat_after knows fresh.seat (CallEvent s.number s.made call (reply_unmade c.args.why) Unchanged) (versions_given store knows fresh.seat.knows) in
    let back : c.answer_with-place.result.1 ≡ after =
    c.answer_with-place.ensures.slot
    ∙ ap (λ (k : GateView). record lent { knows = slot_renewed k lent.knows }) c.answer_with-place.ensures.knows
    ∙ ap (λ (p : Sight SlotView × Reply). seat_after knows p.0 (CallEvent s.number s.made call p.1 Unchanged) (versions_given store knows p.0.knows)) (λ i. (seat i, c.reply.ensures i)) in
    let is : c.give_seat.new.self ≡ record slot { seat = Some after } =
    c.give_seat.ensures
    ∙ ap (λ (x : SlotValue). record x { seat = Some c.answer_with-place.result.1 }) c.lend_seat-seat.ensures.slot
    ∙ ap (λ (x : Sight SlotView). record slot { seat = Some x }) back in
    subst (SlotInvariant store) (sym is)
    (told_keeps store gate.gate knows gate.closing c.reveal_invariant.ensures.guarded c.requires.idle c.reveal_invariant.ensures.entries s c.requires.calm call c.requires.create c.requires.makes slot c.requires.unnamed fresh
    c.requires.vacant c.args.why c.requires.may)

pub returns-clause-whole : goal.returns-clause-whole
returns-clause-whole g c =
    shown_whole c.answer_with-place.new.self.journal.knows c.give_seat.new.self c.lend_seat-seat.result c.answer_with-place.result.1 (ap (λ (s : SlotValue). s.seat) c.give_seat.ensures)
    c.answer_with-place.ensures.slot

pub returns-clause-told : goal.returns-clause-told
returns-clause-told g c =
    let store = g.L.StoreName.store in
    let lent = c.lend_seat-seat.result in
    let told = c.answer_with-place.ensures in
    record {
      served =
          answer-served store c.args.gate.now c.answer_with-place.new.self c.args.session.now c.answer_with-place.new.session lent.knows c.args.slot.now.number c.answer_with-place.result.0 c.args.call c.reply.result
          c.reply-2.result (own-seat store (unmade c.args.slot.now) lent c.lend_seat-seat.ensures.seat c.requires.fresh.empty.guarded).own (c.reply-2.ensures ∙ sym c.reply.ensures) told.place told.extends told.whole
          told.session told.knows told.spare told.gate told.notes told.closing;
      state = ap (λ (s : CallerSession g.row.E.Denot). s.state) told.session;
    }
