-- The reply may be appended, the session is as the machine's, and the slot may stand behind its lock again.
use Rattle.std.proofs.Common.{Some, ap, subst, sym, ◌∙◌, ◌≡◌}
use Rattle.call_steps.specs.JournalCalls.{IsMovedBy}
use Rattle.serial_calls.proofs.Appends.{appended-keeps, appended-moves, appended-told}
use Rattle.serial_calls.proofs.reply_appending.append.Goals as goal
use Rattle.history_seats.specs.Changes.{slot_renewed}
use Rattle.history_seats.specs.Views.{GateView, Sight, SlotView}
use Rattle.call_steps.specs.SlotAnswers.{MayBeTold, slot_record}
use Rattle.call_steps.proofs.Contents.{seat_same}
use Rattle.call_steps.proofs.SlotViews.{shown_whole}
use Rattle.call_steps.specs.GuardedSlots.{SlotInvariant}
use Rattle.call_steps.proofs.OwnAnswers.{answered-seat}
use Rattle.call_steps.specs.SlotValues.{SlotValue}
use Rattle.tee_types.specs.declared.reply.Reply.{Reply}

pub answer_with-place-requires-clause-told : goal.answer_with-place-requires-clause-told
answer_with-place-requires-clause-told g c =
    let store = g.L.StoreName.store in
    let gate = c.args.gate.now in
    let knows = gate.journal.knows in
    let slot = c.args.slot.now in
    let s = c.args.session.now in
    let may = c.requires.may in
    let own : SlotInvariant store slot = c.requires.guarded in
    let lent : c.lend_seat-seat.result ≡ may.at.sees.seat =
    seat_same c.lend_seat-seat.result may.at.sees.seat (sym c.lend_seat-seat.ensures.seat ∙ may.at.sees.is) in
    let replied : c.twice-reply.result.0 ≡ c.args.reply = ap (λ (p : Reply × Reply). p.0) c.twice-reply.ensures in
    subst (λ (x : Sight SlotView × Reply). MayBeTold store gate.gate.doubt gate.gate.dir.dir.entries knows x.0.knows s.number s.made c.args.call x.1) (λ i. (sym lent i, sym replied i))
    (appended-told store gate.gate knows gate.closing c.reveal_invariant.ensures.guarded c.reveal_invariant.ensures.machine slot own c.args.call c.args.reply s may)

pub answer_with-place-requires-clause-moved : goal.answer_with-place-requires-clause-moved
answer_with-place-requires-clause-moved g c =
    let store = g.L.StoreName.store in
    let gate = c.args.gate.now in
    let knows = gate.journal.knows in
    let slot = c.args.slot.now in
    let s = c.args.session.now in
    let may = c.requires.may in
    let own : SlotInvariant store slot = c.requires.guarded in
    let lent : c.lend_seat-seat.result ≡ may.at.sees.seat =
    seat_same c.lend_seat-seat.result may.at.sees.seat (sym c.lend_seat-seat.ensures.seat ∙ may.at.sees.is) in
    let replied : c.twice-reply.result.0 ≡ c.args.reply = ap (λ (p : Reply × Reply). p.0) c.twice-reply.ensures in
    subst (λ (x : Sight SlotView × Reply). IsMovedBy store knows (slot_record store knows x.0.knows s.number s.made c.args.call x.1) s) (λ i. (sym lent i, sym replied i))
    (appended-moves store gate.gate knows gate.closing c.reveal_invariant.ensures.guarded c.reveal_invariant.ensures.machine slot own c.args.call c.args.reply s may)

pub returns-clause-guarded : goal.returns-clause-guarded
returns-clause-guarded g c =
    let store = g.L.StoreName.store in
    let gate = c.args.gate.now in
    let knows = gate.journal.knows in
    let slot = c.args.slot.now in
    let s = c.args.session.now in
    let may = c.requires.may in
    let own : SlotInvariant store slot = c.requires.guarded in
    let lent = c.lend_seat-seat.result in
    let seat : lent ≡ may.at.sees.seat = seat_same lent may.at.sees.seat (sym c.lend_seat-seat.ensures.seat ∙ may.at.sees.is) in
    let replied : c.twice-reply.result.0 ≡ c.args.reply = ap (λ (p : Reply × Reply). p.0) c.twice-reply.ensures in
    let back : c.answer_with-place.result.1 ≡ answered-seat store knows may.at.sees.seat s.number s.made c.args.call c.args.reply =
    c.answer_with-place.ensures.slot
    ∙ ap (λ (k : GateView). record lent { knows = slot_renewed k lent.knows }) c.answer_with-place.ensures.knows
    ∙ (λ i. answered-seat store knows (seat i) s.number s.made c.args.call (replied i)) in
    let is : c.give_seat.new.self ≡ record slot { seat = Some (answered-seat store knows may.at.sees.seat s.number s.made c.args.call c.args.reply) } =
    c.give_seat.ensures
    ∙ ap (λ (x : SlotValue). record x { seat = Some c.answer_with-place.result.1 }) c.lend_seat-seat.ensures.slot
    ∙ ap (λ (x : Sight SlotView). record slot { seat = Some x }) back in
    subst (SlotInvariant store) (sym is)
    (appended-keeps store gate.gate knows gate.closing c.reveal_invariant.ensures.guarded c.reveal_invariant.ensures.machine slot own c.args.call c.args.reply s may)

pub returns-clause-whole : goal.returns-clause-whole
returns-clause-whole g c =
    shown_whole c.answer_with-place.new.self.journal.knows c.give_seat.new.self c.lend_seat-seat.result c.answer_with-place.result.1 (ap (λ (s : SlotValue). s.seat) c.give_seat.ensures)
    c.answer_with-place.ensures.slot
